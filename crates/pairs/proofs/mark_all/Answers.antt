-- `pairs::mark_all` meets its contract: one leaf more, and that none is left at the end.
-- Assumes nothing.
use mathlib.Core.Path.{refl, ◌∙◌}
use Rattle.pairs.proofs.Marks.{marked_parted, marked_over}
use Rattle.pairs.proofs.mark_all.Goals as goal

pub loop-t-init : goal.loop-t-init
loop-t-init c = (refl, λ t r m. m)

pub loop-t-preserved : goal.loop-t-preserved
loop-t-preserved c =
    let m = c.mark-waiting in
    let t = c.in-Some.t in
    let l = c.loop-t in
    let a = c.args in
    (m.ensures.kept.size ∙ l.invariant.0, λ u r k. l.invariant.1 u r (marked_parted a.shares.now a.to l.rest t.leaf t.rest c.in-Some.ensures.taken.parted m.ensures k))

pub returns : goal.returns
returns c =
    let l = c.loop-t in
    let a = c.args in
    l.invariant.1 l.area l.waiting (marked_over a.shares.now a.to l.rest l.area l.waiting c.in_default.ensures.taken)
