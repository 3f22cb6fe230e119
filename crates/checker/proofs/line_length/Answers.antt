-- `checker::line_length` meets its contract. The invariant: what is counted is the rest of the line, behind the record. The measure is the record's number, which falls.
-- Assumes nothing.
use borrow.Author.Rules.{rules}
use native.Mathlib.Omega.{arith}
use Rattle.checker.proofs.Origins.{count_start, count_step, count_end}
use Rattle.checker.proofs.line_length.Goals as goal

pub loop-k-init : goal.loop-k-init
loop-k-init c = count_start c.requires

pub overflow_add-n : goal.overflow_add-n
overflow_add-n c = let x = c.loop-k.invariant in let h = x.back.steps in let e = x.counted in search rules

pub loop-k-smaller : goal.loop-k-smaller
loop-k-smaller c = (count_step (omega arith) c.origin-k.ensures.origin c.loop-k.invariant).0

pub loop-k-preserved : goal.loop-k-preserved
loop-k-preserved c = (count_step (omega arith) c.origin-k.ensures.origin c.loop-k.invariant).1

pub returns : goal.returns
returns c = count_end (omega arith) c.loop-k.invariant
