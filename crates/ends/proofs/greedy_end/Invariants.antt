-- `ends::greedy_end` meets its contract. The invariant: what is left to do from the place i on is the whole. The measure is the places left.
-- Assumes nothing.
use Prim.Native.Nat.{◌-◌}
use lib.ListN.{length}
use Rattle.standing.specs.Stands.{arrays_of}
use Rattle.ends.proofs.Forward.{Aheads}
use Rattle.ends.proofs.greedy_end.Given as goal

abbrev pub invariant-loop-i : goal.invariant-loop-i
invariant-loop-i l = Aheads (arrays_of l.tables) l.line l.start l.i l.s l.last

abbrev pub decreases-loop-i : goal.decreases-loop-i
decreases-loop-i l = length l.line - l.i
