-- What is true of the state at every place.
-- Assumes nothing.
use Rattle.std.specs.Prelude.{ℕ, ◌<◌, List, [], ◌∷◌, ◌++◌, length, T}
use Rattle.theory.specs.Pattern.{Re, count}
use Rattle.theory.specs.Standing.{member}
use Rattle.theory.specs.Code.Members.{Once}
use Rattle.blocks.specs.Blocks.{Block}

-- The leaves of the blocks.
abbrev pub leaves_of : List Block → List ℕ
leaves_of [] = []
leaves_of (x ∷ l) = x.leaves ++ leaves_of l

-- Each block has a leaf.
abbrev pub Full : List Block → Type 0
Full [] = Unit {0}
Full (x ∷ l) = (0 < length x.leaves) × Full l

-- The blocks' sets are not empty, and no leaf of the pattern is in two.
pub record Apart (r : Re) (l : List Block) : Type 0 where
  pub full : Full l
  pub once : Once (leaves_of l)
  pub below : (p : ℕ) → T (member p (leaves_of l)) → p < count r
