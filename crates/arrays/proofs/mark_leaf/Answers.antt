-- `arrays::mark_leaf` meets its contract: a leaf that is done changes nothing, and any other is marked with all leaves of its place.
-- Assumes nothing.
use mathlib.Core.Path.{sym, ◌∙◌}
use lib.ListN.{length}
use Rattle.arrays.proofs.Masks.{turn_done, turn_new}
use Rattle.arrays.proofs.mark_leaf.Goals as goal

pub returns-then-has : goal.returns-then-has
returns-then-has c =
    let a = c.args in
    turn_done a.loaded.now a.s.now a.places.now (length a.places.now) a.done a.p a.masks.now c.requires.2 (sym c.has.ensures.member ∙ c.if-has.true)

pub returns : goal.returns
returns c =
    let a = c.args in
    let all = rw c.wide.ensures.same.0 at c.mark_all.ensures in
    turn_new a.loaded.now a.s.now a.places.now (length a.places.now) a.done a.p c.leaves_at-m.result c.union.result a.masks.now _ c.requires.1 c.leaves_at-m.ensures all c.union.ensures.union
