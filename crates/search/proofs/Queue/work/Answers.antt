-- `Queue::work` meets its contract: one group more, a stop, and all groups.
use mathlib.Core.Path.{refl, ◌∙◌}
use native.Mathlib.Omega.{arith}
use Rattle.std.proofs.lemmas.Result.{err_from_is_err_and}
use Rattle.search.proofs.Works.{group_start, group_step, group_stop, group_end}
use Rattle.search.proofs.Queue.work.Goals as goal

pub loop-c-init : goal.loop-c-init
loop-c-init c = (refl, refl, refl, refl, group_start (rw (c.load.ensures.loaded, c.view.ensures.width, c.view.ensures.bytes) at c.unpack-s.ensures.unpacked))

pub returns-in_err-carry-clause-worked : goal.returns-in_err-carry-clause-worked
returns-in_err-carry-clause-worked c =
    let i = c.loop-c.invariant in
    let p = err_from_is_err_and c.from_residual.result c.from_residual.ensures.1 in
    rw (p.1, p.2) (group_stop (omega arith) i.4 _ _ (rw (i.2, i.3) at c.in_err-carry.ensures.turned))

pub loop-c-preserved : goal.loop-c-preserved
loop-c-preserved c =
    let i = c.loop-c.invariant in
    let e = c.in_ok-carry.ensures in
    (e.same_table ∙ i.0, e.same_size ∙ i.1, e.same_width ∙ i.2, e.same_limit ∙ i.3, group_step (omega arith) i.4 (rw (i.2, i.3) at e.turned))

pub returns-clause-worked : goal.returns-clause-worked
returns-clause-worked c = group_end (omega arith) c.loop-c.invariant.4
