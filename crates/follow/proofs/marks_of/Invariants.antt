-- `follow::marks_of` meets its contract. The invariant: the masks of the rows below k are there.
-- Assumes nothing.
use Rattle.follow.specs.Stores.{FilledMarks}
use Rattle.follow.proofs.marks_of.Given as goal

abbrev pub invariant-loop-k : goal.invariant-loop-k
invariant-loop-k l = FilledMarks l.whole l.k l.marks
