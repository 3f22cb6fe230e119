-- What was before the requests of paper 02, by which it is said what a request leaves as it was: paper 01's list, where the "ends at i" of an empty turn is dropped
-- and whose order is source 000's; the list in which every repeat prefers its turns; patterns without brackets; and patterns that differ in preferences alone.
-- Assumes nothing.
use Rattle.std.specs.Prelude.{◌≡◌, ℕ, zero, suc, Bool, true, false, ◌&&◌, ◌||◌, List, [], ◌∷◌, ◌++◌, length, drop, ltb}
use Rattle.theory.specs.Pattern.{Manner, eager, Re, empty, leaf, seq, alt, star, field}
use Rattle.theory.specs.Outcomes.{Outcome, ends_at, and_then, when, leaf_outcomes, after_turn, then_leave, Lists}

-- r*: r's list "with each 'ends at k' replaced by r*'s list from k if k is above i and dropped if k is i; then 'ends at i'"; r*? has that end first.
unfoldable pub base_star : Manner → (ℕ → List (Outcome ℕ)) → ℕ → ℕ → List (Outcome ℕ)
base_star how f zero i = []
base_star how f (suc n) i = then_leave how (and_then (f i) (λ k. when (ltb i k) (base_star how f n k))) i

-- A part's list where r* has the list `loop` makes of r's lists; the other parts are as in `outcomes`.
unfoldable pub list_by : (Manner → (ℕ → List (Outcome ℕ)) → ℕ → ℕ → List (Outcome ℕ)) → Lists
list_by loop empty w i = ends_at i ∷ []
list_by loop (leaf p s) w i = leaf_outcomes p s i (drop i w)
list_by loop (seq x y) w i = and_then (list_by loop x w i) (list_by loop y w)
list_by loop (alt x y) w i = list_by loop x w i ++ list_by loop y w i
list_by loop (star how x) w i = loop how (list_by loop x w) (suc (length w)) i
list_by loop (field f x) w i = list_by loop x w i

abbrev pub base : Lists
base = list_by base_star

-- The part matches the empty string.
unfoldable pub nullable : Re → Bool
nullable empty = true
nullable (leaf p s) = false
nullable (seq x y) = nullable x && nullable y
nullable (alt x y) = nullable x || nullable y
nullable (star how x) = true
nullable (field f x) = nullable x

-- "No repeat over a part that matches empty": a plain pattern, which request 1 does not touch. Of the repeats only r* and r*? are left in a written-out pattern.
unfoldable pub Plain : Re → Type 0
Plain empty = Unit {0}
Plain (leaf p s) = Unit {0}
Plain (seq x y) = Plain x × Plain y
Plain (alt x y) = Plain x × Plain y
Plain (star how x) = (nullable x ≡ false) × Plain x
Plain (field f x) = Plain x

-- The written-out pattern without its brackets: as it was before request 2.
unfoldable pub bare : Re → Re
bare empty = empty
bare (leaf p s) = leaf p s
bare (seq x y) = seq (bare x) (bare y)
bare (alt x y) = alt (bare x) (bare y)
bare (star how x) = star how (bare x)
bare (field f x) = bare x

-- The list before request 5: r*'s turns, "then 'ends at i'", whatever the repeat prefers.
unfoldable pub turns_first_star : (ℕ → List (Outcome ℕ)) → ℕ → ℕ → List (Outcome ℕ)
turns_first_star f zero i = []
turns_first_star f (suc n) i = and_then (f i) (λ k. after_turn i k (turns_first_star f n k)) ++ (ends_at i ∷ [])

abbrev pub turns_first : Lists
turns_first = list_by (λ how. turns_first_star)

-- A written-out pattern without r*?.
unfoldable pub Eager : Re → Type 0
Eager empty = Unit {0}
Eager (leaf p s) = Unit {0}
Eager (seq x y) = Eager x × Eager y
Eager (alt x y) = Eager x × Eager y
Eager (star how x) = (how ≡ eager) × Eager x
Eager (field f x) = Eager x

-- Two patterns that differ in preferences alone: which stars are lazy, and which alternative comes first.
pub data Reordered : Re → Re → Type 0 where
  same_empty : Reordered empty empty
  same_leaf : {p : ℕ} {s : ℕ → Bool} → Reordered (leaf p s) (leaf p s)
  in_seq : {x y x' y' : Re} → Reordered x x' → Reordered y y' → Reordered (seq x y) (seq x' y')
  in_alt : {x y x' y' : Re} → Reordered x x' → Reordered y y' → Reordered (alt x y) (alt x' y')
  swapped : {x y x' y' : Re} → Reordered x x' → Reordered y y' → Reordered (alt x y) (alt y' x')
  in_star : {how how' : Manner} {x x' : Re} → Reordered x x' → Reordered (star how x) (star how' x')
  in_field : {f f' : ℕ} {x x' : Re} → Reordered x x' → Reordered (field f x) (field f' x')
