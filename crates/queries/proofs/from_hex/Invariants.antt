-- The table holds the entries before the rest of the text.
use Rattle.std.proofs.Common.{length}
use Rattle.queries.proofs.Entries.{Filled}
use Rattle.queries.proofs.from_hex.Given as goal

abbrev pub invariant-loop-rest : goal.invariant-loop-rest
invariant-loop-rest l = Filled l.text l.rest l.table

abbrev pub decreases-loop-rest : goal.decreases-loop-rest
decreases-loop-rest l = length l.rest
