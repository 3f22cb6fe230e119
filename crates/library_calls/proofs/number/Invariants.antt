-- The number so far.
use Rattle.std.proofs.Common.{◌≤◌}
use Rattle.library_calls.proofs.number.Given as goal

abbrev pub invariant-loop-b : goal.invariant-loop-b
invariant-loop-b l = l.n ≤ l.most
