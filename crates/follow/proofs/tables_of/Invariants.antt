-- `follow::tables_of` meets its contract. The invariant: the rows below k are stored.
-- Assumes nothing.
use Rattle.follow.specs.Stores.{Filled}
use Rattle.follow.proofs.tables_of.Given as goal

abbrev pub invariant-loop-k : goal.invariant-loop-k
invariant-loop-k l = Filled l.whole l.k l.tables
