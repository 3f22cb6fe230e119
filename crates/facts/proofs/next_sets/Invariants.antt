-- `facts::next_sets` meets its contract. The invariant: the entries below b are right.
-- Assumes nothing.
use mathlib.Core.Path.{◌≡◌}
use Prim.Native.Nat.{ℕ, ◌<◌}
use lib.ListN.{length, get_or}
use lib.Bits.{bit_and}
use Rattle.facts.specs.Sets.{Wants}
use Rattle.facts.proofs.next_sets.Given as goal

abbrev pub invariant-loop-b : goal.invariant-loop-b
invariant-loop-b l = (length l.next ≡ 257) × ((k : ℕ) → k < l.b → Wants l.sets (bit_and (get_or l.sets 0 0) (get_or l.masks k 0)) (get_or l.next k 0))
