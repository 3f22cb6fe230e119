-- How the two ends of a line move as it grows.
-- Assumes nothing.
use mathlib.Core.Path.{◌≡◌, refl, sym, ap, ◌∙◌}
use Prim.Native.Nat.{ℕ, suc, ◌≤◌}
use mathlib.Core.Bool.{Bool, true, false, ◌||◌, cond, true≢false}
use mathlib.Core.List.{List, [], ◌∷◌, ◌++◌}
use mathlib.Core.Option.{some}
use native.Mathlib.Omega.{arith}
use lib.ListN.{length, length-append}
use Rattle.theory.specs.Pattern.{Re, Numbered}
use Rattle.theory.specs.Outcomes.{Outcome, ends_at, wants, outcomes}
use Rattle.theory.specs.Code.Follow.{Next, after, has_end}
use Rattle.theory.specs.Standing.{fronts, wanted, some_is, standing}
use Rattle.theory.specs.Code.Next.{afters}
use Rattle.theory.specs.Spans.{first_end, greatest_end}
use Rattle.theory.proofs.Outcomes.{AllOut, all_map}
use Rattle.theory.proofs.Equations.{Leaf, outcomes_all}
use Rattle.theory.proofs.Extend.{place, grow, extend}
use Rattle.theory.proofs.Tests.{true_T}
use Rattle.theory.proofs.Step.{grow_first, grow_some, has_end_append}
use Rattle.theory.proofs.Cut.{greatest_is}

-- The greedy end.
module _ (n : ℕ) where
  first_place : (l : List Next) (m : List (Outcome ℕ)) → first_end (place n l ++ m) ≡ cond (has_end l) (some n) (first_end m)
  first_place [] m = refl
  first_place (ends_at u ∷ l) m = refl
  first_place (wants p ∷ l) m = first_place l m

  greatest_place : (l : List Next) (m : List (Outcome ℕ)) → has_end l ≡ false → greatest_end (place n l ++ m) ≡ greatest_end m
  greatest_place [] m e = refl
  greatest_place (ends_at u ∷ l) m e = absurd (true≢false e)
  greatest_place (wants p ∷ l) m e = greatest_place l m e

or_none_lem : (a b : Bool) → a || b ≡ false → (a ≡ false) × (b ≡ false)
or_none_lem true b e = absurd (true≢false e)
or_none_lem false b e = (refl, e)

module _ (r : Re) (b n : ℕ) where
  grow_first_end : (l : List (Outcome ℕ)) → first_end (grow r b n l) ≡ cond (has_end (afters r b (fronts l))) (some (suc n)) (first_end l)
  unfolding grow
  grow_first_end [] = refl
  grow_first_end (ends_at k ∷ l) = refl
  grow_first_end (wants p ∷ l) = rw (first_place, has_end_append, grow_first_end l) (go (has_end (after r b p)))
    where
      go : (c : Bool) → cond c (some (suc n)) (cond (has_end (afters r b (fronts l))) (some (suc n)) (first_end l)) ≡ cond (c || has_end (afters r b (fronts l))) (some (suc n)) (first_end l)
      go true = refl
      go false = refl

  grow_same_end : (l : List (Outcome ℕ)) → has_end (afters r b (wanted l)) ≡ false → greatest_end (grow r b n l) ≡ greatest_end l
  unfolding grow
  grow_same_end [] e = refl
  grow_same_end (ends_at k ∷ l) e = rw (grow_same_end l e)
  grow_same_end (wants p ∷ l) e =
      let c = or_none_lem (has_end (after r b p)) (has_end (afters r b (wanted l))) (rw has_end_append at e) in
      greatest_place (suc n) (after r b p) (grow r b n l) c.0 ∙ grow_same_end l c.1

-- The greedy end moves to the line's end where (b) holds, and the POSIX end where (d) holds.
module _ (r : Re) (d : Numbered 0 r) (w : List ℕ) (b : ℕ) where
  size : length (w ++ (b ∷ [])) ≡ suc (length w)
  size = omega (arith, length-append w (b ∷ []))

  inside : AllOut (λ k. k ≤ length w) (Leaf r) (outcomes r w 0)
  inside = all_map (λ k c. omega arith) (λ p c. c) (outcomes_all r w 0)

  pub first_moves : first_end (outcomes r (w ++ (b ∷ [])) 0) ≡ cond (standing r (w ++ (b ∷ []))).first (some (suc (length w))) (first_end (outcomes r w 0))
  unfolding standing
  first_moves = rw (size, extend w b r 0 d 0 (omega arith), grow_first_end, grow_first r b (length w) inside)

  pub greatest_moves : greatest_end (outcomes r (w ++ (b ∷ [])) 0) ≡ cond (standing r (w ++ (b ∷ []))).some (some (suc (length w))) (greatest_end (outcomes r w 0))
  unfolding standing
  greatest_moves = go (some_is (length (w ++ (b ∷ []))) (outcomes r (w ++ (b ∷ [])) 0)) refl
    where
      go : (c : Bool) → some_is (length (w ++ (b ∷ []))) (outcomes r (w ++ (b ∷ [])) 0) ≡ c
          → greatest_end (outcomes r (w ++ (b ∷ [])) 0) ≡ cond c (some (suc (length w))) (greatest_end (outcomes r w 0))
      go true e =
          rw size at
          (greatest_is (length (w ++ (b ∷ []))) (all_map {P' = λ k. k ≤ length (w ++ (b ∷ []))} {Q' = Leaf r} (λ k c. omega arith) (λ p c. c) (outcomes_all r (w ++ (b ∷ [])) 0))
          (true_T (some_is (length (w ++ (b ∷ []))) (outcomes r (w ++ (b ∷ [])) 0)) e))
      go false e =
          let grown = extend w b r 0 d 0 (omega arith) in
          rw grown
          (grow_same_end r b (length w) (outcomes r w 0)
          (sym (grow_some r b (length w) inside) ∙ ap (λ l. some_is (suc (length w)) l) (sym grown) ∙ (rw size at e)))
