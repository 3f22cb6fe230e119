-- What a test of two parts says by its parts.
-- Assumes nothing.
use mathlib.Core.Path.{◌≡◌, refl, ap₂, ◌∙◌}
use mathlib.Core.Bool.{Bool, true, false, ◌&&◌, ◌||◌}

-- What a test of two parts says: the second part's answer, if the first holds.
pub both_parts : {a b r : Bool} → a ≡ true → b ≡ r → (a && b) ≡ r
both_parts e f = rw e f

pub first_part : {a : Bool} (b : Bool) → a ≡ false → (a && b) ≡ false
first_part b e = rw e refl

-- What one of two answers is, which stand for x and y.
pub of_either : {r a b x y : Bool} → r ≡ (a || b) → a ≡ x → b ≡ y → r ≡ (x || y)
of_either e f g = e ∙ ap₂ ◌||◌ f g
