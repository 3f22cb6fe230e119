-- `fields::cut_line` meets its contract: what it replies is what is due.
-- Assumes nothing.
use Rattle.std.proofs.lemmas.Result.{err_from_is_err_and}
use Rattle.fields.proofs.Replying.{replied_accepted, replied_refused}
use Rattle.fields.proofs.cut_line.Goals as goal

pub returns-in_err-ready : goal.returns-in_err-ready
returns-in_err-ready c =
    let q = err_from_is_err_and c.from_residual.result c.from_residual.ensures.1 in
    rw (q.1, q.2) (record { replied = replied_refused c.in_err-ready.ensures.prepared })

pub returns : goal.returns
returns c = record { replied = replied_accepted c.in_ok-ready.ensures.prepared (rw c.view.ensures.view at c.cut.ensures.cuts) }
