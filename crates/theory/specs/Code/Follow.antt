-- What depends on no line: the outcomes of a part at a line's end, and those right after a leaf took the line's last byte.
-- Assumes nothing.
use Rattle.std.specs.Prelude.{ℕ, List, [], ◌∷◌, ◌++◌, Bool, true, false, eqb}
use Rattle.theory.specs.Pattern.{Re, empty, leaf, seq, alt, star, field, has}
use Rattle.theory.specs.Outcomes.{Outcome, ends_at, wants, want, and_then, when, empty_turn, then_leave}

-- An outcome at the line's end: `wants p`, or `here`.
abbrev pub Next : Type 0
Next = Outcome (Unit {0})

abbrev pub here : Next
here = ends_at tt

-- The list of a part at the line's end, whatever the line (`outcomes_end`).
unfoldable pub start : Re → List Next
start empty = here ∷ []
start (leaf p s) = want p
start (seq x y) = and_then (start x) (λ _. start y)
start (alt x y) = start x ++ start y
start (star how x) = then_leave how (and_then (start x) empty_turn) tt
start (field f x) = start x

-- The list of a part at the line's end right after its leaf p took the last byte. A part without that leaf has none.
unfoldable pub follow : Re → ℕ → List Next
unfolding start
follow empty p = []
follow (leaf q s) p = when (eqb p q) (here ∷ [])
follow (seq x y) p = and_then (follow x p) (λ _. start y) ++ follow y p
follow (alt x y) p = follow x p ++ follow y p
follow (star how x) p = and_then (follow x p) (λ _. start (star how x))
follow (field f x) p = follow x p

-- What becomes of `wants p` when the line grows by b.
abbrev pub after : Re → ℕ → ℕ → List Next
after r b p = when (has r p b) (follow r p)

-- There is an end.
abbrev pub has_end : {K : Type 0} → List (Outcome K) → Bool
has_end [] = false
has_end (ends_at k ∷ l) = true
has_end (wants p ∷ l) = has_end l
