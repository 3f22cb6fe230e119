-- Places of a line w that are passed over.
-- Assumes nothing.
use Rattle.std.specs.Prelude.{◌≡◌, ℕ, ◌≤◌, ◌<◌, Bool, true, List, length, get_or}
use Rattle.std.specs.Int.Bits.{bit_and}
use Rattle.seeking.specs.declared.How.{How}
use Rattle.seeking.specs.Hows.{Finds}

-- Of each byte from i to r the leaves `all` take just `kind`, and r is the line's end or has a byte of another kind. r is in the line if i is.
pub record Kind (masks w : List ℕ) (all kind i r : ℕ) : Type 0 where
  pub more : i ≤ r
  pub within : i ≤ length w → r ≤ length w
  pub alike : (k : ℕ) → i ≤ k → k < r → bit_and all (get_or masks (get_or w k 0) 0) ≡ kind
  pub other : r < length w → bit_and all (get_or masks (get_or w r 0) 0) ≡ kind → ⊥

-- The same if `is`; else r is i.
pub record Passed (is : Bool) (masks w : List ℕ) (all kind i r : ℕ) : Type 0 where
  pub more : i ≤ r
  pub within : i ≤ length w → r ≤ length w
  pub alike : (k : ℕ) → i ≤ k → k < r → (is ≡ true) × (bit_and all (get_or masks (get_or w k 0) 0) ≡ kind)
  pub other : is ≡ true → r < length w → bit_and all (get_or masks (get_or w r 0) 0) ≡ kind → ⊥

-- From i to r, the next place whose byte some leaf of the set takes, or the line's end: none takes a byte in between, if `how` finds all that the set takes and the line is one of bytes.
pub record Sought (masks w : List ℕ) (set : ℕ) (how : How) (i r : ℕ) : Type 0 where
  pub more : i ≤ r
  pub within : i ≤ length w → r ≤ length w
  pub none : Finds masks set how → ((k : ℕ) → get_or w k 0 < 256) → (k : ℕ) → i ≤ k → k < r → bit_and set (get_or masks (get_or w k 0) 0) ≡ 0
  pub found : r < length w → bit_and set (get_or masks (get_or w r 0) 0) ≡ 0 → ⊥
