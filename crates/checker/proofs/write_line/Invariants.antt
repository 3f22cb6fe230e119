-- `checker::write_line` meets its contract. The invariant: what is written is the rest of the line, behind the record. The measure is the record's number, which falls.
-- Assumes nothing.
use Rattle.checker.proofs.Origins.{Writing}
use Rattle.checker.proofs.write_line.Given as goal

abbrev pub invariant-loop-k : goal.invariant-loop-k
invariant-loop-k l = Writing l.records.width l.records.bytes.now l.k-2 l.k l.i l.initial.witness l.witness

abbrev pub decreases-loop-k : goal.decreases-loop-k
decreases-loop-k l = l.k
