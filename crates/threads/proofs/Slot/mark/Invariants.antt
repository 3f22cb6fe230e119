-- The invariant: the first j places are stamped.
use Rattle.threads.proofs.Slots.{StampedBefore}
use Rattle.threads.proofs.Slot.mark.Given as goal

abbrev pub invariant-loop-j : goal.invariant-loop-j
invariant-loop-j l = StampedBefore l.marks l.at l.fn.self.places l.place-items l.j
