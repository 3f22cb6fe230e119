-- "The order of preference": the list of outcomes of a part at a place of a line.
-- Assumes nothing.
use Rattle.std.specs.Prelude.{ℕ, zero, suc, Bool, true, false, cond, List, [], ◌∷◌, ◌++◌, length, drop, ltb}
use Rattle.theory.specs.Pattern.{Manner, eager, lazy, Re, empty, leaf, seq, alt, star, field}

-- An "outcome", "ends at k" or "wants leaf p". K is ℕ for a place of a line; `Code.Follow` has lists that depend on no line, where there is one place.
pub data Outcome (K : Type 0) : Type 0 where
  ends_at : K → Outcome K
  wants : ℕ → Outcome K

-- A list with each "ends at k" replaced by the list f k, and each "wants p" by the list g p.
abbrev pub replace : {K L : Type 0} → (K → List (Outcome L)) → (ℕ → List (Outcome L)) → List (Outcome K) → List (Outcome L)
replace f g [] = []
replace f g (ends_at k ∷ l) = f k ++ replace f g l
replace f g (wants p ∷ l) = g p ++ replace f g l

abbrev pub want : {L : Type 0} → ℕ → List (Outcome L)
want p = wants p ∷ []

-- A list "with each 'ends at k' replaced by" the list f k.
abbrev pub and_then : {K L : Type 0} → List (Outcome K) → (K → List (Outcome L)) → List (Outcome L)
and_then l f = replace f want l

abbrev pub when : {A : Type 0} → Bool → List A → List A
when true l = l
when false l = []

-- "Leaf p: at the line's end, wants p; else ends at i+1 if the byte is in its set, and nothing otherwise." The last list is the line from i on.
abbrev pub leaf_outcomes : ℕ → (ℕ → Bool) → ℕ → List ℕ → List (Outcome ℕ)
leaf_outcomes p s i [] = want p
leaf_outcomes p s i (b ∷ rest) = when (s b) (ends_at (suc i) ∷ [])

-- r*, a turn of r that is empty: its "ends at i" "is no longer dropped: it stays, in its place, as the repeat's end" (request 1).
unfoldable pub empty_turn : {K : Type 0} → K → List (Outcome K)
empty_turn i = ends_at i ∷ []

-- r*, a turn of r that ends at k: goes on by "r*'s list from k if k is above i".
abbrev pub after_turn : ℕ → ℕ → List (Outcome ℕ) → List (Outcome ℕ)
after_turn i k goes_on = cond (ltb i k) goes_on (empty_turn i)

-- r*, its turns, "then 'ends at i'"; r*? has "the leaving end first".
unfoldable pub then_leave : {K : Type 0} → Manner → List (Outcome K) → K → List (Outcome K)
then_leave eager turns i = turns ++ (ends_at i ∷ [])
then_leave lazy turns i = ends_at i ∷ turns

-- r* by r's lists f. The number is that of the turns still allowed: each ends above the one before, so the line's length and one more are enough (`outcomes_star`).
unfoldable pub star_outcomes : Manner → (ℕ → List (Outcome ℕ)) → ℕ → ℕ → List (Outcome ℕ)
star_outcomes how f zero i = []
star_outcomes how f (suc n) i = then_leave how (and_then (f i) (λ k. after_turn i k (star_outcomes how f n k))) i

-- "For a part and a place i in the line it has a list of outcomes."
abbrev pub Lists : Type 0
Lists = Re → List ℕ → ℕ → List (Outcome ℕ)

-- The lists that everything is judged by.
unfoldable pub outcomes : Re → List ℕ → ℕ → List (Outcome ℕ)
outcomes empty w i = ends_at i ∷ []
outcomes (leaf p s) w i = leaf_outcomes p s i (drop i w)
outcomes (seq x y) w i = and_then (outcomes x w i) (outcomes y w)
outcomes (alt x y) w i = outcomes x w i ++ outcomes y w i
outcomes (star how x) w i = star_outcomes how (outcomes x w) (suc (length w)) i
outcomes (field f x) w i = outcomes x w i
