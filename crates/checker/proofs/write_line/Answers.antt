-- `checker::write_line` meets its contract. The invariant: what is written is the rest of the line, behind the record. The measure is the record's number, which falls.
-- Assumes nothing.
use native.Mathlib.Omega.{arith}
use Rattle.checker.proofs.Origins.{write_start, write_length, write_left, write_step, write_end}
use Rattle.checker.proofs.write_line.Goals as goal

pub loop-k-init : goal.loop-k-init
loop-k-init c = write_start c.requires

pub overflow_sub-i : goal.overflow_sub-i
overflow_sub-i c = (write_left (omega arith) c.loop-k.invariant).0

pub bounds-witness-i : goal.bounds-witness-i
bounds-witness-i c = let h = write_left (omega arith) c.loop-k.invariant in omega arith

pub loop-k-smaller : goal.loop-k-smaller
loop-k-smaller c = (write_step (omega arith) c.origin-k.ensures.origin c.byte.ensures.byte c.loop-k.invariant).0

pub loop-k-preserved : goal.loop-k-preserved
loop-k-preserved c = (write_step (omega arith) c.origin-k.ensures.origin c.byte.ensures.byte c.loop-k.invariant).1

pub shape_of-witness : goal.shape_of-witness
shape_of-witness c = write_length c.loop-k.invariant

pub returns : goal.returns
returns c = write_end (omega arith) c.loop-k.invariant
