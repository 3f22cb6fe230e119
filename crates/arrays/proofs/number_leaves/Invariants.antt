-- `arrays::number_leaves` meets its contract. The invariant: what stands, with what the codes from i on give, is what all codes give.
-- Assumes nothing.
use Rattle.arrays.proofs.Numbering.{Standing}
use Rattle.arrays.proofs.number_leaves.Given as goal

abbrev pub invariant-loop-i : goal.invariant-loop-i
invariant-loop-i l = Standing l.codes l.kinds l.leaves.places l.i l.leaves.len
