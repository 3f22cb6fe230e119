-- `arrays::mark_all` meets its contract. The invariant: the masks below b are marked, the others are as they were.
-- Assumes nothing.
use Rattle.arrays.specs.Passes.{MarkedTo}
use Rattle.arrays.proofs.mark_all.Given as goal

abbrev pub invariant-loop-b : goal.invariant-loop-b
invariant-loop-b l = MarkedTo l.loaded l.s l.q l.m l.b l.initial.masks l.masks
