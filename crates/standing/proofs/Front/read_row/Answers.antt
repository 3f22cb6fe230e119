-- `standing::Front::read_row` meets its contract. The invariant: the outcomes before x are read.
-- Assumes nothing.
use native.Mathlib.Omega.{arith}
use Rattle.standing.proofs.Fronts.{read_ended, read_turn}
use Rattle.standing.proofs.Front.read_row.Goals as goal

pub returns-then-self : goal.returns-then-self
returns-then-self c = read_ended _ _ _ _ c.if-self.true c.loop-x.invariant

pub loop-x-preserved : goal.loop-x-preserved
loop-x-preserved c =
    let p = c.loop-x in
    read_turn _ p.self _ c.args.row.now p.x-index (omega arith) p.invariant (rw c.from.ensures at c.read.ensures)
