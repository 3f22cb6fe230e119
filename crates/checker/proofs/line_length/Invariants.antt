-- `checker::line_length` meets its contract. The invariant: what is counted is the rest of the line, behind the record. The measure is the record's number, which falls.
-- Assumes nothing.
use Rattle.checker.proofs.Origins.{Counting}
use Rattle.checker.proofs.line_length.Given as goal

abbrev pub invariant-loop-k : goal.invariant-loop-k
invariant-loop-k l = Counting l.records.width l.records.bytes.now l.k-2 l.k l.n

abbrev pub decreases-loop-k : goal.decreases-loop-k
decreases-loop-k l = l.k
