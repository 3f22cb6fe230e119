-- `readings::cut_line` meets its contract: what it replies is what is due.
-- Assumes nothing.
use Rattle.std.proofs.lemmas.Result.{err_from_is_err_and}
use Rattle.readings.proofs.Replying.{replied_accepted, replied_refused}
use Rattle.readings.proofs.cut_line.Goals as goal

pub returns-in_err-tables : goal.returns-in_err-tables
returns-in_err-tables c =
    let q = err_from_is_err_and c.from_residual.result c.from_residual.ensures.1 in
    rw (q.1, q.2) (record { replied = replied_refused c.in_err-tables.ensures.prepared })

pub returns : goal.returns
returns c = record { replied = replied_accepted c.in_ok-tables.ensures.prepared (rw c.view.ensures.view at c.cut.ensures.cuts) }
