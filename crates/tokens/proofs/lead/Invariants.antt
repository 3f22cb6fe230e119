-- The empty sequence in front of a part: after i turns, the codes below i are one place up.
-- Assumes nothing.
use mathlib.Core.Path.{◌≡◌}
use Rattle.tokens.proofs.Leading.{Raised}
use Rattle.tokens.proofs.lead.Given as goal

abbrev pub invariant-loop-i : goal.invariant-loop-i
invariant-loop-i l = Raised l.initial.a.items l.from l.i l.a.items l.carried × (l.a.len ≡ l.initial.a.len)
