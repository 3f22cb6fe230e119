-- `read_text` meets its contract: the table's check comes first, then the text's length.
-- Assumes nothing.
use Rattle.std.proofs.lemmas.Result.{err_from_is_err_and}
use Rattle.reader.specs.Reading.{within}
use Rattle.reader.proofs.Border.{text_faulty, text_long}
use Rattle.reader.proofs.read_text.Goals as goal

pub returns-in_err-check : goal.returns-in_err-check
returns-in_err-check c =
    let q = err_from_is_err_and c.from_residual.result c.from_residual.ensures.1 in
    rw (q.1, q.2) (text_faulty c.in_err-check.ensures.checked)

pub returns-then-s-gt-MAX_BYTES : goal.returns-then-s-gt-MAX_BYTES
returns-then-s-gt-MAX_BYTES c = rw c.at.ensures.refusal (text_long c.in_ok-check.ensures.checked c.if-s-gt-MAX_BYTES.true)

pub returns : goal.returns
returns c = within c.in_ok-check.ensures.checked c.read_within.ensures
