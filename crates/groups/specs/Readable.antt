-- A line in bytes that a person can read: "each byte replaced by a printable byte of its group, where there is one".
-- Assumes nothing.
use Rattle.std.specs.Prelude.{ℕ, Bool, cond, ◌&&◌, List, [], ◌∷◌, ◌++◌, map, leb}
use Rattle.theory.specs.Pattern.{Re}
use Rattle.theory.specs.Standing.{from}
use Rattle.groups.specs.Numbers.{shares}

-- The printable bytes of ASCII,
abbrev pub is_printable : ℕ → Bool
is_printable b = leb 32 b && leb b 126

-- in the order of preference: from the digits on, with the letters, which order lines are made of; then what is below the digits, and last the space, which is hard to see.
unfoldable pub printables : List ℕ
printables = from 48 79 ++ (from 33 15 ++ (32 ∷ []))

-- The first number of a list that passes a test, or b if none does.
abbrev pub first_or : ℕ → (ℕ → Bool) → List ℕ → ℕ
first_or b f [] = b
first_or b f (c ∷ l) = cond (f c) c (first_or b f l)

-- Given which bytes share a group: a printable byte stays; another becomes the first printable one of its group, and stays if there is none.
abbrev pub readable_by : (ℕ → ℕ → Bool) → ℕ → ℕ
readable_by share b = cond (is_printable b) b (first_or b (λ c. share c b) printables)

-- The line w for a pattern.
abbrev pub readable : Re → List ℕ → List ℕ
readable r w = map (readable_by (shares r)) w
