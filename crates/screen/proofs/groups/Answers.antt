-- The reader's answer decides.
use Rattle.std.proofs.lemmas.Result.{err_from_is_err_and}
use Rattle.screen.proofs.Showing.{shown_refused, shown_groups}
use Rattle.screen.proofs.groups.Goals as goal

pub returns-in_err-reading : goal.returns-in_err-reading
returns-in_err-reading c =
    let q = err_from_is_err_and c.from_residual.result c.from_residual.ensures.1 in
    record { shown = rw (q.1, q.2) (shown_refused c.in_err-reading.ensures.right) }

pub returns : goal.returns
returns c = record { shown = shown_groups c.in_ok-reading.ensures.right c.groups_of.ensures.grouped }
