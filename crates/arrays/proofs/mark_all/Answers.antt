-- `arrays::mark_all` meets its contract. The invariant: the masks below b are marked, the others are as they were.
-- Assumes nothing.
use native.Mathlib.Omega.{arith}
use Rattle.arrays.proofs.Masks.{marked_turn}
use Rattle.arrays.proofs.mark_all.Goals as goal

pub loop-b-preserved : goal.loop-b-preserved
loop-b-preserved c =
    let a = c.args in
    let p = c.loop-b in
    marked_turn a.loaded.now a.s.now a.q a.m p.b c.mark.result a.masks.now p.masks (omega arith) p.invariant c.mark.ensures
