-- The bytes so far, and those that the rest of the text has.
use Rattle.std.proofs.Common.{◌≡◌, ◌+◌, ◌/◌, ◌≤◌, min, length}
use Rattle.library_calls.proofs.unhex.Given as goal

abbrev pub invariant-loop-rest : goal.invariant-loop-rest
invariant-loop-rest l = record {
  few : l.pattern.n ≤ 512;
  all : min 512 (l.pattern.n + length l.rest / 2) ≡ min 512 (length l.s / 2);
}

abbrev pub decreases-loop-rest : goal.decreases-loop-rest
decreases-loop-rest l = length l.rest
