-- Copies of the part: after i turns, i of them.
-- Assumes nothing.
use Prim.Native.Nat.{◌≤◌}
use Rattle.tokens.specs.Held.{Rewritten}
use Rattle.tokens.specs.Copied.{again}
use Rattle.tokens.proofs.copies.Given as goal

abbrev pub invariant-loop : goal.invariant-loop
invariant-loop l = (l.initial.a.len ≤ l.a.len) × Rewritten l.initial.a.items l.initial.a.len l.from (again l.counter) l.a.items l.a.len
