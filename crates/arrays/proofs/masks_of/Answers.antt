-- `arrays::masks_of` meets its contract. The invariant: the leaves below p are done, and the masks have the sets of the leaves that are.
-- Assumes nothing.
use mathlib.Core.Path.{◌≡◌}
use native.Mathlib.Omega.{arith}
use lib.ListN.{length}
use Rattle.arrays.proofs.Masks.{done_begin, done_turn, done_end}
use Rattle.arrays.proofs.masks_of.Goals as goal

pub loop-p-init : goal.loop-p-init
loop-p-init c = done_begin c.args.loaded.now c.args.s.now c.args.places.now (length c.args.places.now)

pub loop-p-preserved : goal.loop-p-preserved
loop-p-preserved c =
    let a = c.args in
    let p = c.loop-p in
    done_turn a.loaded.now a.s.now a.places.now (length a.places.now) p.done p.p c.mark_leaf-done.result p.masks _ p.invariant c.mark_leaf-done.ensures

pub returns : goal.returns
returns c =
    let a = c.args in
    let p = c.loop-p in
    let e : p.p ≡ length a.places.now = omega arith in
    done_end a.loaded.now a.s.now a.places.now (length a.places.now) p.done p.masks (rw e at p.invariant)
