-- `standing::front_after` meets its contract. The invariant: the outcomes after the leaves before p are read.
-- Assumes nothing.
use native.Mathlib.Omega.{arith}
use Rattle.standing.proofs.Fronts.{fronts_read, leaves_ended, leaves_turn}
use Rattle.standing.proofs.front_after.Goals as goal

pub returns-then-front : goal.returns-then-front
returns-then-front c =
    let p = c.loop-p in
    fronts_read _ _ _ c.empty-front.ensures (leaves_ended _ _ _ p.front p.p-index c.if-front.true p.invariant)

pub loop-p-preserved : goal.loop-p-preserved
loop-p-preserved c =
    let p = c.loop-p in
    leaves_turn _ c.args.leaves.now _ p.front p.p-index _ (omega arith) p.invariant (rw c.from.ensures at c.read_leaf.ensures)
