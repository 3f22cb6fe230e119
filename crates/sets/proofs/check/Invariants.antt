-- The table has 256 entries, and each before the place passes.
use Rattle.std.proofs.Common.{◌≡◌, ℕ, ◌<◌, true, length, get_or}
use Rattle.grammar.specs.Loaded.{passes}
use Rattle.sets.proofs.check.Given as goal

abbrev pub invariant-loop-place : goal.invariant-loop-place
invariant-loop-place l = (length l.loaded ≡ 256) × ((k : ℕ) → k < l.place → passes (get_or l.loaded k 0) ≡ true)
