-- Of a new input: the first line is whole, or what is kept is its beginning. Nothing is read before the first turn, and nothing waits after a turn.
use Rattle.std.proofs.Common.{◌≡◌, ◌⊎◌}
use Rattle.lines.specs.Lines.{fresh}
use Rattle.lines.proofs.Exchanging.{Sought}
use Rattle.lines.proofs.Input.first_line.Given as goal

abbrev pub invariant-loop : goal.invariant-loop
invariant-loop g l = l.initial.self ≡ fresh → Sought l.self × (((l.counter ≡ 0) × (l.self ≡ fresh)) ⊎ (l.out.used ≡ 0))
