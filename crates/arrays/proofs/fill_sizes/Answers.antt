-- `arrays::fill_sizes` meets its contract. The invariant: the sizes below i are right, and small.
-- Assumes nothing.
use Prim.Native.Nat.{◌<◌}
use mathlib.Core.Path.{◌∙◌}
use native.Mathlib.Omega.{arith}
use lib.ListN.{length, length-set}
use Rattle.arrays.proofs.Sizes.{sized_turn, small_turn}
use Rattle.arrays.proofs.fill_sizes.Goals as goal

pub loop-i-preserved : goal.loop-i-preserved
loop-i-preserved c =
    let k = c.args.kinds.now in
    let p = c.loop-i in
    let h : p.i < length p.sizes = omega (arith, p.invariant.2) in
    let e = c.size_at-size.ensures in
    (rw e (sized_turn k p.sizes p.i h p.invariant.0), rw e (small_turn k p.sizes p.i h p.invariant.1), length-set p.sizes p.i _ ∙ p.invariant.2)
