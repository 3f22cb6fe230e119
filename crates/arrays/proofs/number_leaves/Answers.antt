-- `arrays::number_leaves` meets its contract. The invariant: what stands, with what the codes from i on give, is what all codes give.
-- Assumes nothing.
use mathlib.Core.Path.{◌≡◌}
use native.Mathlib.Omega.{arith}
use lib.ListN.{length}
use Rattle.arrays.proofs.Numbering.{standing_turn, standing_end}
use Rattle.arrays.proofs.number_leaves.Goals as goal

pub loop-i-preserved : goal.loop-i-preserved
loop-i-preserved c = standing_turn c.args.codes.now c.loop-i.kinds c.loop-i.leaves.places _ _ c.loop-i.i c.loop-i.leaves.len _ c.loop-i-test.true c.requires.0 c.loop-i.invariant c.note.ensures

pub returns : goal.returns
returns c =
    let p = c.loop-i in
    let e : p.i ≡ length c.args.codes.now = omega arith in
    standing_end c.args.codes.now p.kinds p.leaves.places p.leaves.len (rw e at p.invariant)
