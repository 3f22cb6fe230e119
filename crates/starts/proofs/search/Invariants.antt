-- `starts::search` meets its contract. The invariant: what is left to do from the place i on is the whole. The measure is the places left.
-- Assumes nothing.
use Prim.Native.Nat.{◌-◌}
use lib.ListN.{length}
use Rattle.starts.proofs.Searching.{Searching}
use Rattle.starts.proofs.search.Given as goal

abbrev pub invariant-loop-i : goal.invariant-loop-i
invariant-loop-i l = Searching l.tables.masks.now l.tables.sets.now l.facts.next.now l.line l.from l.i l.blocks

abbrev pub decreases-loop-i : goal.decreases-loop-i
decreases-loop-i l = length l.line - l.i
