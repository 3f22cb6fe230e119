-- `follow::outcomes::Outcomes::join` meets its contract. The invariant: the list so far is the one with the first outcomes of the other.
-- Assumes nothing.
use Rattle.follow.proofs.Joins.{JoinedTo}
use Rattle.follow.proofs.outcomes.Outcomes.join.Given as goal

abbrev pub invariant-loop-p : goal.invariant-loop-p
invariant-loop-p l = JoinedTo l.initial.self l.y l.marks l.p-index l.self
