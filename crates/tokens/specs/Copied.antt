-- What copies of a part add to the codes that an array holds.
-- Assumes nothing.
use Rattle.std.specs.Prelude.{◌≡◌, ℕ, suc, ◌+◌, ◌≤◌, min, List, [], ◌++◌, length}
use Rattle.grammar.specs.Code.Tokens.{max_parts, blocks}
use Rattle.tokens.specs.Held.{HoldsCodes}

-- After it, b with m used: of the block k that stands at the place `from`, `size` of its codes within the array, f k is held after all that was held.
pub record Copied (a : List ℕ) (n from size : ℕ) (f : List ℕ → List ℕ) (b : List ℕ) (m : ℕ) : Type 0 where
  pub room : n ≤ max_parts → m ≤ max_parts
  pub more : n ≤ m
  pub holds : (l k z : List ℕ) → HoldsCodes a n (l ++ (k ++ z)) → from ≡ min max_parts (length l) → from + size ≡ min max_parts (length l + length k) → HoldsCodes b m ((l ++ (k ++ z)) ++ f k)

-- A part and n copies of it.
abbrev pub again : ℕ → List ℕ → List ℕ
again n k = blocks (suc n) k []

-- m copies of a part, then i and one that have the codes c in front.
abbrev pub nested : List ℕ → ℕ → ℕ → List ℕ → List ℕ
nested c m i k = blocks m k (again i (c ++ k))
