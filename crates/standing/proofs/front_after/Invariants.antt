-- `standing::front_after` meets its contract. The invariant: the outcomes after the leaves before p are read.
-- Assumes nothing.
use Rattle.theory.specs.Code.Closure.{flat}
use Rattle.follow.specs.Views.{shown}
use Rattle.standing.specs.Reads.{Read, outcomes_after}
use lib.ListN.{take}
use Rattle.standing.proofs.front_after.Given as goal

abbrev pub invariant-loop-p : goal.invariant-loop-p
invariant-loop-p l = Read l.initial.front (flat (outcomes_after l.mask (shown l.tables)) (take l.p-index l.leaves)) l.front
