-- The invariant: as many pairs as turns were taken, or more, and at none of them the test fails.
use Rattle.pairs.proofs.Going.{Going}
use Rattle.pairs.proofs.search.Given as goal

abbrev pub invariant-loop-turn : goal.invariant-loop-turn
invariant-loop-turn l = Going l.leaves.shares.now l.leaves.sets.now l.leaves.ending l.live l.initial.area l.waiting-2 l.area l.waiting l.turn
