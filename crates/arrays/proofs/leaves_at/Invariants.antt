-- `arrays::leaves_at` meets its contract. The invariant: x is the leaves below p at the place q.
-- Assumes nothing.
use Rattle.arrays.specs.Passes.{Places}
use Rattle.arrays.proofs.leaves_at.Given as goal

abbrev pub invariant-loop-p : goal.invariant-loop-p
invariant-loop-p l = Places l.places l.p l.q l.x
