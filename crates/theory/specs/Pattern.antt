-- The written-out pattern, its leaves and the groups of bytes (paper 01, "The pattern's grammar" and "Refusals").
-- Assumes nothing.
use Rattle.std.specs.Prelude.{◌≡◌, ℕ, ◌+◌, ◌<◌, Bool, false, ◌&&◌, ◌||◌, eqb}

-- What a repeat prefers: an eager one its turns, a lazy one (request 5: "`*?`, `+?`, `??` and a count followed by `?`") "to leave".
pub data Manner : Type 0 where
  eager : Manner
  lazy : Manner

-- "Written-out pattern", part by part, down to its leaves. A leaf has its number and its set of bytes.
pub data Re : Type 0 where
  empty : Re  -- the empty sequence
  leaf : ℕ → (ℕ → Bool) → Re
  seq : Re → Re → Re
  alt : Re → Re → Re
  star : Manner → Re → Re  -- r* and r*?
  field : ℕ → Re → Re  -- a bracket, with its number: "field 1 is the first opening `(`, and so on" (request 2)

-- "r? is r or empty, in that order." An optional copy of a lazy repeat "has the leaving end first and the turn after it".
abbrev pub opt : Manner → Re → Re
opt eager r = alt r empty
opt lazy r = alt empty r

-- How many leaves a part has.
unfoldable pub count : Re → ℕ
count empty = 0
count (leaf p s) = 1
count (seq x y) = count x + count y
count (alt x y) = count x + count y
count (star how x) = count x
count (field f x) = count x

-- "Leaves are numbered from 0, left to right": a part with its leaves numbered so from n on,
unfoldable pub number : ℕ → Re → Re
number n empty = empty
number n (leaf p s) = leaf n s
number n (seq x y) = seq (number n x) (number (n + count x) y)
number n (alt x y) = alt (number n x) (number (n + count x) y)
number n (star how x) = star how (number n x)
number n (field f x) = field f (number n x)

-- and that a part's leaves are.
unfoldable pub Numbered : ℕ → Re → Type 0
Numbered n empty = Unit {0}
Numbered n (leaf p s) = p ≡ n
Numbered n (seq x y) = Numbered n x × Numbered (n + count x) y
Numbered n (alt x y) = Numbered n x × Numbered (n + count x) y
Numbered n (star how x) = Numbered n x
Numbered n (field f x) = Numbered n x

-- The set of the leaf p holds the byte b.
unfoldable pub has : Re → ℕ → ℕ → Bool
has empty p b = false
has (leaf q s) p b = eqb p q && s b
has (seq x y) p b = has x p b || has y p b
has (alt x y) p b = has x p b || has y p b
has (star how x) p b = has x p b
has (field f x) p b = has x p b

-- "Two bytes share a group exactly if each leaf's set holds both or neither."
abbrev pub SameGroup : Re → ℕ → ℕ → Type 0
SameGroup r b c = (p : ℕ) → p < count r → has r p b ≡ has r p c
