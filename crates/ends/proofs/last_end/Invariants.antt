-- `ends::last_end` meets its contract. The invariant: what is left to do from the place i on is the whole. The measure is the places left.
-- Assumes nothing.
use Prim.Native.Nat.{◌-◌}
use lib.ListN.{length}
use Rattle.ends.proofs.Lasts.{Lasting}
use Rattle.ends.proofs.last_end.Given as goal

abbrev pub invariant-loop-i : goal.invariant-loop-i
invariant-loop-i l = Lasting l.masks l.sets l.line l.ending l.from l.initial.set l.initial.last l.i l.set l.last

abbrev pub decreases-loop-i : goal.decreases-loop-i
decreases-loop-i l = length l.line - l.i
