-- "Lines are ordered by length, then byte by byte."
-- Assumes nothing.
use Rattle.std.specs.Prelude.{◌≡◌, ◌⊎◌, ℕ, ◌<◌, List, [], ◌∷◌, length}

-- A line of numbers below n. "Any sequence of bytes" is `Below 256`.
abbrev pub Below : ℕ → List ℕ → Type 0
Below n [] = Unit {0}
Below n (b ∷ w) = (b < n) × Below n w

-- Of two lines of one length, the one with the smaller byte where they first differ.
abbrev pub Lex : List ℕ → List ℕ → Type 0
Lex [] v = ⊥
Lex (a ∷ u) [] = ⊥
Lex (a ∷ u) (b ∷ v) = (a < b) ⊎ ((a ≡ b) × Lex u v)

infix 50 ◌≺◌
unfoldable pub ◌≺◌ : List ℕ → List ℕ → Type 0
u ≺ v = (length u < length v) ⊎ ((length u ≡ length v) × Lex u v)
