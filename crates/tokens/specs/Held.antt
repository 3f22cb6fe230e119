-- The codes that an array holds, one for each part that a pattern can have, and what is written to it. Codes past the last place are lost: the array holds the first ones.
-- Assumes nothing.
use Rattle.std.specs.Prelude.{◌≡◌, ℕ, ◌≤◌, min, List, ◌++◌, length, take}
use Rattle.grammar.specs.Code.Tokens.{max_parts}

-- The array a, of which the first n places are used, holds the codes l.
pub record HoldsCodes (a : List ℕ) (n : ℕ) (l : List ℕ) : Type 0 where
  pub size : length a ≡ max_parts
  pub used : n ≡ min max_parts (length l)
  pub same : take n a ≡ take max_parts l

-- After it, b with m used: whatever was held, the codes k are held after it.
pub record Added (a : List ℕ) (n : ℕ) (k : List ℕ) (b : List ℕ) (m : ℕ) : Type 0 where
  pub room : n ≤ max_parts → m ≤ max_parts
  pub more : n ≤ m
  pub holds : (l : List ℕ) → HoldsCodes a n l → HoldsCodes b m (l ++ k)

-- The part that begins at the place `from` and has the codes k is replaced by the part with the codes f k.
pub record Rewritten (a : List ℕ) (n from : ℕ) (f : List ℕ → List ℕ) (b : List ℕ) (m : ℕ) : Type 0 where
  pub room : n ≤ max_parts → m ≤ max_parts
  pub more : from ≤ n → from ≤ m
  pub holds : (l k : List ℕ) → HoldsCodes a n (l ++ k) → from ≡ min max_parts (length l) → HoldsCodes b m (l ++ f k)
