-- `read` hands over what is right: for an accepted text the arrays made of its codes.
-- Assumes nothing.
use Rattle.std.proofs.lemmas.Result.{err_from_is_err_and}
use Rattle.reader.proofs.Border.{read_refused, read_accepted}
use Rattle.reader.proofs.read.Goals as goal

pub returns-in_err-text : goal.returns-in_err-text
returns-in_err-text c =
    let q = err_from_is_err_and c.from_residual.result c.from_residual.ensures.1 in
    record { right = rw (q.1, q.2) (read_refused c.in_err-text.ensures) }

pub returns : goal.returns
returns c = record { right = read_accepted _ c.in_ok-text.ensures c.finish.ensures.finished }
