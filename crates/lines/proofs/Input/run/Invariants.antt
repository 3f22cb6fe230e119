-- Nothing waits, if nothing waited.
use Rattle.std.proofs.Common.{◌≡◌}
use Rattle.lines.proofs.Input.run.Given as goal

abbrev pub invariant-loop : goal.invariant-loop
invariant-loop g l = l.initial.out.used ≡ 0 → l.out.used ≡ 0
