-- `standing::wants_after` meets its contract. The invariant: what the leaves that are left add is what all add. The measure is the number whose bits they are.
-- Assumes nothing.
use Rattle.standing.specs.Sets.{goes}
use Rattle.standing.proofs.Sets.{Rest}
use Rattle.standing.proofs.wants_after.Given as goal

abbrev pub invariant-loop-t : goal.invariant-loop-t
invariant-loop-t l = Rest (goes l.from l.mask) l.tables.sets.now l.tables.ends.now l.w l.rest

abbrev pub decreases-loop-t : goal.decreases-loop-t
decreases-loop-t l = l.rest
