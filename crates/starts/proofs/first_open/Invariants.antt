-- `starts::first_open` meets its contract. The invariant: each start since `base` has had no end, what it wants is in the set, and no match begins before `base`.
-- The measure is the places left. Assumes nothing.
use Prim.Native.Nat.{◌-◌}
use lib.ListN.{length}
use Rattle.starts.proofs.Opens.{Opening}
use Rattle.starts.proofs.first_open.Given as goal

abbrev pub invariant-loop-i : goal.invariant-loop-i
invariant-loop-i l = Opening l.tables.masks.now l.tables.sets.now l.facts.next.now l.begins.how l.ends.how l.line l.base l.i l.set

abbrev pub decreases-loop-i : goal.decreases-loop-i
decreases-loop-i l = length l.line - l.i
