-- `facts::ending_leaves` meets its contract. The invariant: x is the leaves below p whose row has the end.
-- Assumes nothing.
use Rattle.facts.proofs.Bits.{EndsBelow}
use Rattle.facts.proofs.ending_leaves.Given as goal

abbrev pub invariant-loop-p : goal.invariant-loop-p
invariant-loop-p l = EndsBelow l.ends l.p l.x
