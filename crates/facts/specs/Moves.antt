-- What the passes over a line need of a pattern's tables.
-- Assumes nothing.
use Rattle.std.specs.Prelude.{◌≡◌, ℕ, ◌≤◌, ◌<◌, List, get_or}
use Rattle.std.specs.Int.Bits.{bit_and}
use Rattle.theory.specs.Pattern.{Re, has, count, Numbered}
use Rattle.theory.specs.Standing.{wanted, set_of}
use Rattle.theory.specs.Code.Follow.{start, follow, has_end}
use Rattle.words.specs.Sets.{has_bit}
use Rattle.facts.specs.Sets.{leaves_in, Wants, Takes}

-- A line of bytes.
abbrev pub Bytes : List ℕ → Type 0
Bytes w = (k : ℕ) → get_or w k 0 < 256

-- The masks and the rows' sets are those of the pattern r, and the leaves `ending` are those after which an end stands.
pub record Moves (r : Re) (masks sets : List ℕ) (ending : ℕ) : Type 0 where
  pub numbered : Numbered 0 r
  pub most : count r ≤ 64
  pub first : leaves_in (count r) (get_or sets 0 0) ≡ set_of r (wanted (start r))
  pub masked : (b p : ℕ) → b < 256 → p < count r → has_bit (get_or masks b 0) p ≡ has r p b
  pub ended : (p : ℕ) → p < count r → has_bit ending p ≡ has_end (follow r p)
  pub takes : (b : ℕ) → b < 256 → (x to : ℕ) → Wants sets (bit_and x (get_or masks b 0)) to → Takes r b (leaves_in (count r) x) (bit_and x (get_or masks b 0)) to ending
