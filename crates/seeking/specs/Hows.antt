-- The bytes that are looked for, and that they are all that a set of leaves takes.
-- Assumes nothing.
use Rattle.std.specs.Prelude.{◌≡◌, ℕ, ◌<◌, Bool, true, ◌&&◌, ◌||◌, List, get_or, eqb, leb}
use Rattle.std.specs.Int.Bits.{bit_and}
use Rattle.seeking.specs.declared.How.{How}
use Rattle.seeking.specs.declared.How.TheVariants.{Any, One, Few}

-- The byte b is among those that are looked for: the one byte; or a range and two bytes more; or any byte.
abbrev pub few : ℕ → ℕ → ℕ → ℕ → ℕ → Bool
few low high other last b = (leb low b && leb b high) || (eqb b other || eqb b last)

abbrev pub among : How → ℕ → Bool
among Any b = true
among (One a) b = eqb b a
among (Few low high other last) b = few low high other last b

-- Each byte that some leaf of the set takes is among them.
pub record Finds (masks : List ℕ) (set : ℕ) (how : How) : Type 0 where
  pub all : (b : ℕ) → b < 256 → (bit_and set (get_or masks b 0) ≡ 0 → ⊥) → among how b ≡ true
