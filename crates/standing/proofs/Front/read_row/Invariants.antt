-- `standing::Front::read_row` meets its contract. The invariant: the outcomes before x are read.
-- Assumes nothing.
use Rattle.standing.specs.Reads.{Read}
use lib.ListN.{take}
use Rattle.standing.proofs.Front.read_row.Given as goal

abbrev pub invariant-loop-x : goal.invariant-loop-x
invariant-loop-x l = Read l.initial.self (take l.x-index l.row) l.self
