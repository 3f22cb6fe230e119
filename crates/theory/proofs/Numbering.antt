-- `number` numbers the leaves from n on, left to right.
-- Assumes nothing.
use mathlib.Core.Path.{◌≡◌, refl}
use Prim.Native.Nat.{ℕ, ◌+◌}
use Rattle.theory.specs.Pattern.{Re, empty, leaf, seq, alt, star, field, count, Numbered, number}

pub number_count : (n : ℕ) (r : Re) → count (number n r) ≡ count r
unfolding number count
number_count n empty = refl
number_count n (leaf p s) = refl
number_count n (seq x y) = rw (number_count n x, number_count (n + count x) y)
number_count n (alt x y) = rw (number_count n x, number_count (n + count x) y)
number_count n (star how x) = number_count n x
number_count n (field f x) = number_count n x

pub number_right : (n : ℕ) (r : Re) → Numbered n (number n r)
unfolding number Numbered
number_right n empty = tt
number_right n (leaf p s) = refl
number_right n (seq x y) = (number_right n x, rw (number_count n x) (number_right (n + count x) y))
number_right n (alt x y) = (number_right n x, rw (number_count n x) (number_right (n + count x) y))
number_right n (star how x) = number_right n x
number_right n (field f x) = number_right n x
