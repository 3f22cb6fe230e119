-- `read_within` meets its contract: what the alternation from the start finds, judged.
-- Assumes nothing.
use native.Mathlib.Omega.{arith}
use Rattle.std.proofs.lemmas.Result.{err_from_is_err_and}
use Rattle.reader.specs.Reading.{fault}
use Rattle.reader.proofs.Begins.{begun_start}
use Rattle.reader.proofs.Finds.{refusal, finding}
use Rattle.reader.proofs.Border.{within_close, within_heavy, within_tree}
use Rattle.reader.proofs.read_within.Goals as goal

pub alternation-requires : goal.alternation-requires
alternation-requires c = (begun_start _ c.requires.0, omega arith)

pub returns-in_err-whole : goal.returns-in_err-whole
returns-in_err-whole c =
    let q = err_from_is_err_and c.from_residual.result c.from_residual.ensures.1 in
    rw (q.1, q.2) (fault (refusal c.in_err-whole.ensures))

pub returns-then-whole-s : goal.returns-then-whole-s
returns-then-whole-s c = rw c.at.ensures.refusal (within_close c.requires.0 (finding (rw (c.requires.1, c.requires.2) at c.in_ok-whole.ensures)) c.if-whole-s.true)

pub returns-then-whole-gt-MAX_WEIGHT : goal.returns-then-whole-gt-MAX_WEIGHT
returns-then-whole-gt-MAX_WEIGHT c = rw c.at-then-whole-gt-MAX_WEIGHT.ensures.refusal (within_heavy c.requires.0 (finding (rw (c.requires.1, c.requires.2) at c.in_ok-whole.ensures)) c.if-whole-s.false c.if-whole-gt-MAX_WEIGHT.true)

pub returns : goal.returns
returns c = within_tree c.requires.0 (finding (rw (c.requires.1, c.requires.2) at c.in_ok-whole.ensures)) c.if-whole-s.false c.if-whole-gt-MAX_WEIGHT.false
