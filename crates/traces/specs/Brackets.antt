-- Where the brackets of a written-out pattern stand. "Copies written out by a repeat belong to the same field", so a field may have several.
-- Assumes nothing.
use Rattle.std.specs.Prelude.{◌≢◌, ℕ}
use Rattle.theory.specs.Pattern.{Re, empty, leaf, seq, alt, star, field}

-- A part has no bracket of the field f,
unfoldable pub Without : ℕ → Re → Type 0
Without f empty = Unit {0}
Without f (leaf p s) = Unit {0}
Without f (seq x y) = Without f x × Without f y
Without f (alt x y) = Without f x × Without f y
Without f (star how x) = Without f x
Without f (field g x) = (f ≢ g) × Without f x

-- and no bracket stands inside one of the same field. (A bracket and its copies never do.)
unfoldable pub Apart : Re → Type 0
unfolding Without
Apart empty = Unit {0}
Apart (leaf p s) = Unit {0}
Apart (seq x y) = Apart x × Apart y
Apart (alt x y) = Apart x × Apart y
Apart (star how x) = Apart x
Apart (field f x) = Without f x × Apart x
