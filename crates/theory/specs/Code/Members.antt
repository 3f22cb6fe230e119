-- Lists of numbers as sets.
-- Assumes nothing.
use Rattle.std.specs.Prelude.{ℕ, Bool, false, ◌||◌, List, [], ◌∷◌, T}
use Rattle.theory.specs.Standing.{member}

-- A test that passes at some number of the list.
abbrev pub any : (ℕ → Bool) → List ℕ → Bool
any f [] = false
any f (p ∷ l) = f p || any f l

-- Each number is there once.
pub data Once : List ℕ → Type 0 where
  nil : Once []
  cons : {p : ℕ} {l : List ℕ} → (T (member p l) → ⊥) → Once l → Once (p ∷ l)
