-- The least and the greatest length of a written-out pattern (`lengths_written`: those of its tree), and lines that reach them.
-- Assumes nothing.
use Rattle.std.specs.Prelude.{◌≡◌, ℕ, ◌<◌, true, List, length, T}
use Rattle.theory.specs.Pattern.{Re, empty, leaf, seq, alt, star, field}
use Rattle.theory.specs.Lines.{Below}
use Rattle.theory.specs.Matching.{Matches}
use Rattle.lengths.specs.Lengths.{Longest, limit, no_limit, Extent, no_byte, one_byte, in_row, one_of, or_more}

unfoldable pub extent : Re → Extent
extent empty = no_byte
extent (leaf p s) = one_byte
extent (seq x y) = in_row (extent x) (extent y)
extent (alt x y) = one_of (extent x) (extent y)
extent (star how x) = or_more 0 (extent x)
extent (field f x) = extent x

-- "Each leaf counted as 1 whatever its set": the pattern with every byte in the set of each leaf.
unfoldable pub any_byte : Re → Re
any_byte empty = empty
any_byte (leaf p s) = leaf p (λ b. true)
any_byte (seq x y) = seq (any_byte x) (any_byte y)
any_byte (alt x y) = alt (any_byte x) (any_byte y)
any_byte (star how x) = star how (any_byte x)
any_byte (field f x) = field f (any_byte x)

-- Each leaf's set holds some byte.
abbrev pub Filled : Re → Type 0
Filled empty = Unit {0}
Filled (leaf p s) = (b : ℕ) × (b < 256) × T (s b)
Filled (seq x y) = Filled x × Filled y
Filled (alt x y) = Filled x × Filled y
Filled (star how x) = Filled x
Filled (field f x) = Filled x

-- Some line of bytes is matched as a whole, and P holds of its length.
pub record Matched (r : Re) (P : ℕ → Type 0) : Type 0 where
  pub line : List ℕ
  pub bytes : Below 256 line
  pub whole : Matches line r 0 (length line)
  pub size : P (length line)

-- A greatest length is reached; with "no limit", there are matches longer than any number.
abbrev pub Reached : Longest → Re → Type 0
Reached (limit M) r = Matched r (λ n. n ≡ M)
Reached no_limit r = (k : ℕ) → Matched r (λ n. k < n)
