-- Paper 01's rules for each part, as equations of `outcomes`. Only the one of the star needs a proof: the number in `star_outcomes` does not matter once it is large enough.
-- Assumes nothing.
use mathlib.Core.Path.{◌≡◌, refl, ap}
use Prim.Native.Nat.{ℕ, zero, suc, ◌-◌, ◌≤◌, ◌<◌, max}
use mathlib.Core.Bool.{Bool, true, false, cond}
use mathlib.Core.List.{List, [], ◌∷◌, ◌++◌}
use native.Mathlib.Omega.{arith}
use lib.ListN.{length, drop, length-drop}
use lib.Dec.{T, ltb, ltb→lt}
use Rattle.theory.specs.Pattern.{Manner, eager, lazy, Re, empty, leaf, seq, alt, star, field}
use Rattle.theory.specs.Outcomes.{Outcome, ends_at, wants, want, and_then, when, empty_turn, after_turn, then_leave, leaf_outcomes, star_outcomes, outcomes}
use Rattle.theory.proofs.Outcomes.{AllOut, none, end, wish, replace_congr, all_map, all_append, all_replace}
use Rattle.theory.proofs.Turns.{all_then_leave, all_after_turn, after_turn_congr}

-- `p` is the number of a leaf of the pattern.
pub data Leaf : Re → ℕ → Type 0 where
  here : {p : ℕ} {s : ℕ → Bool} → Leaf (leaf p s) p
  seq_left : {p : ℕ} {x y : Re} → Leaf x p → Leaf (seq x y) p
  seq_right : {p : ℕ} {x y : Re} → Leaf y p → Leaf (seq x y) p
  alt_left : {p : ℕ} {x y : Re} → Leaf x p → Leaf (alt x y) p
  alt_right : {p : ℕ} {x y : Re} → Leaf y p → Leaf (alt x y) p
  under : {p : ℕ} {how : Manner} {x : Re} → Leaf x p → Leaf (star how x) p
  inside : {p f : ℕ} {x : Re} → Leaf x p → Leaf (field f x) p

-- Where an end can be: not below the place, and not past the line (nor past the place, if that is past the line).
abbrev pub InLine : ℕ → ℕ → ℕ → Type 0
InLine n i k = (i ≤ k) × (k ≤ max i n)

pub all_when : {K : Type 0} {P : K → Type 0} {Q : ℕ → Type 0} {l : List (Outcome K)} (b : Bool) → (T b → AllOut P Q l) → AllOut P Q (when b l)
all_when true h = h tt
all_when false h = none

module _ {Q : ℕ → Type 0} (how : Manner) (f : ℕ → List (Outcome ℕ)) (n : ℕ) (h : (i : ℕ) → AllOut (InLine n i) Q (f i)) where
  pub star_outcomes_all : (d i : ℕ) → AllOut (InLine n i) Q (star_outcomes how f d i)
  unfolding star_outcomes
  star_outcomes_all zero i = none
  star_outcomes_all (suc d) i =
      all_then_leave how i
      (all_replace
      (λ k b. all_after_turn i k (omega arith) λ t. all_map (λ j c. omega arith) (λ p q. q) (star_outcomes_all d k))
      (λ p q. wish q none)
      (h i))
      (omega arith)

  -- Enough is enough: the number counts for nothing once it is above what is left of the line.
  pub star_outcomes_enough : (d e i : ℕ) → n - i < d → n - i < e → star_outcomes how f d i ≡ star_outcomes how f e i
  unfolding star_outcomes
  star_outcomes_enough zero e i p q = absurd (omega arith)
  star_outcomes_enough (suc d) zero i p q = absurd (omega arith)
  star_outcomes_enough (suc d) (suc e) i p q =
      ap (λ l. then_leave how l i)
      (replace_congr {g = want} {g' = want}
      (all_map
      (λ k b. after_turn_congr i k λ t. star_outcomes_enough d e k (omega (arith, ltb→lt i k t)) (omega (arith, ltb→lt i k t)))
      (λ p q. refl)
      (h i)))

-- What a pattern's list holds.
pub outcomes_all : (r : Re) (w : List ℕ) (i : ℕ) → AllOut (InLine (length w) i) (Leaf r) (outcomes r w i)
unfolding outcomes
outcomes_all empty w i = end {k = i} (omega arith) none
outcomes_all (leaf p s) w i = go (drop i w) (length-drop i w)
  where
    go : (l : List ℕ) → length l ≡ length w - i → AllOut (InLine (length w) i) (Leaf (leaf p s)) (leaf_outcomes p s i l)
    go [] e = wish here none
    go (b ∷ l) e = all_when (s b) λ t. end {k = suc i} (omega arith) none
outcomes_all (seq x y) w i =
    all_replace
    (λ k b. all_map (λ j c. omega arith) (λ p q. seq_right q) (outcomes_all y w k))
    (λ p q. wish (seq_left q) none)
    (outcomes_all x w i)
outcomes_all (alt x y) w i =
    all_append
    (all_map (λ k b. b) (λ p q. alt_left q) (outcomes_all x w i))
    (all_map (λ k b. b) (λ p q. alt_right q) (outcomes_all y w i))
outcomes_all (star how x) w i = all_map (λ k b. b) (λ p q. under q) (star_outcomes_all how (outcomes x w) (length w) (λ j. outcomes_all x w j) (suc (length w)) i)
outcomes_all (field f x) w i = all_map (λ k b. b) (λ p q. inside q) (outcomes_all x w i)

module _ (w : List ℕ) (i : ℕ) where
  pub outcomes_empty : outcomes empty w i ≡ ends_at i ∷ []
  unfolding outcomes
  outcomes_empty = refl

  pub outcomes_leaf_end : (p : ℕ) (s : ℕ → Bool) → drop i w ≡ [] → outcomes (leaf p s) w i ≡ wants p ∷ []
  unfolding outcomes
  outcomes_leaf_end p s e = rw e

  pub outcomes_leaf : (p : ℕ) (s : ℕ → Bool) (b : ℕ) (l : List ℕ) → drop i w ≡ b ∷ l → outcomes (leaf p s) w i ≡ when (s b) (ends_at (suc i) ∷ [])
  unfolding outcomes
  outcomes_leaf p s b l e = rw e

  pub outcomes_seq : (x y : Re) → outcomes (seq x y) w i ≡ and_then (outcomes x w i) (λ k. outcomes y w k)
  unfolding outcomes
  outcomes_seq x y = refl

  pub outcomes_alt : (x y : Re) → outcomes (alt x y) w i ≡ outcomes x w i ++ outcomes y w i
  unfolding outcomes
  outcomes_alt x y = refl

  pub outcomes_star : (how : Manner) (x : Re) → outcomes (star how x) w i ≡ then_leave how (and_then (outcomes x w i) (λ k. after_turn i k (outcomes (star how x) w k))) i
  unfolding outcomes star_outcomes
  outcomes_star how x =
      ap (λ l. then_leave how l i)
      (replace_congr {g = want} {g' = want}
      (all_map
      (λ k b. after_turn_congr i k λ t. star_outcomes_enough how (outcomes x w) (length w) (λ j. outcomes_all x w j) (length w) (suc (length w)) k
      (omega (arith, ltb→lt i k t)) (omega arith))
      (λ p q. refl)
      (outcomes_all x w i)))

  -- r* IN ONE EQUATION: r's list with each "ends at k" replaced by r*'s list from k if k is above i, and kept as "ends at i" if k is i; then "ends at i".
  pub outcomes_loop : (x : Re) → outcomes (star eager x) w i ≡ and_then (outcomes x w i) (λ k. cond (ltb i k) (outcomes (star eager x) w k) (ends_at i ∷ [])) ++ (ends_at i ∷ [])
  unfolding empty_turn then_leave
  outcomes_loop x = outcomes_star eager x

  -- r*? IN ONE EQUATION: "the leaving end first and the turn after it".
  pub outcomes_lazy_loop : (x : Re) → outcomes (star lazy x) w i ≡ ends_at i ∷ and_then (outcomes x w i) (λ k. cond (ltb i k) (outcomes (star lazy x) w k) (ends_at i ∷ []))
  unfolding empty_turn then_leave
  outcomes_lazy_loop x = outcomes_star lazy x
