-- The ends from a known start by one pass forward.
-- Assumes nothing.
use mathlib.Core.Path.{◌≡◌, refl, sym, ap, ap₂, ◌∙◌}
use Prim.Native.Nat.{ℕ, suc, ◌+◌, ◌≤◌}
use mathlib.Core.Bool.{Bool, true, false, cond}
use mathlib.Core.List.{List, [], ◌∷◌, ◌++◌, append-nil, append_assoc}
use mathlib.Core.Option.{Option, none, some, map}
use native.Mathlib.Omega.{arith}
use native.Mathlib.Nat.{add-suc, add-zero}
use lib.ListN.{length, drop, length-append}
use Rattle.theory.specs.Pattern.{Re, Numbered}
use Rattle.theory.specs.Outcomes.{Outcome, ends_at, wants, outcomes}
use Rattle.theory.specs.Code.Follow.{Next, start, has_end}
use Rattle.theory.specs.Standing.{Standing, standing, once, fronts}
use Rattle.theory.specs.Code.Next.{next, afters}
use Rattle.theory.specs.Spans.{first_end, greatest_end, larger}
use Rattle.theory.specs.Code.Passes.{forward, farthest}
use Rattle.theory.proofs.Extend.{place, outcomes_end}
use Rattle.theory.proofs.Step.{step, step_start}
use Rattle.theory.proofs.Ends.{first_moves, greatest_moves}
use Rattle.theory.proofs.Cut.{shift, from_place, shift_first, shift_greatest}

-- At the line's end.
first_place : (n : ℕ) (l : List Next) → first_end (place n l) ≡ cond (has_end l) (some n) none
first_place n [] = refl
first_place n (ends_at u ∷ l) = refl
first_place n (wants p ∷ l) = first_place n l

larger_self : (n : ℕ) (c : Bool) → larger n (cond c (some n) none) ≡ n
larger_self n true = omega arith
larger_self n false = refl

greatest_place : (n : ℕ) (l : List Next) → greatest_end (place n l) ≡ cond (has_end l) (some n) none
greatest_place n [] = refl
greatest_place n (ends_at u ∷ l) = ap some (ap (larger n) (greatest_place n l) ∙ larger_self n (has_end l))
greatest_place n (wants p ∷ l) = greatest_place n l

module _ (r : Re) (d : Numbered 0 r) where
  -- A loop over the rest of the line keeps what it knows of the line so far.
  module _ (f : Standing → Bool) (e : List (Outcome ℕ) → Option ℕ)
      (moves : (u : List ℕ) (b : ℕ) → e (outcomes r (u ++ (b ∷ [])) 0) ≡ cond (f (standing r (u ++ (b ∷ [])))) (some (suc (length u))) (e (outcomes r u 0))) where
    forward_line : (rest u : List ℕ) → forward r f rest (standing r u) (length u) (e (outcomes r u 0)) ≡ e (outcomes r (u ++ rest) 0)
    unfolding forward
    forward_line [] u = rw append-nil
    forward_line (b ∷ rest) u =
        ap (λ s. forward r f rest s (suc (length u)) (cond (f s) (some (suc (length u))) (e (outcomes r u 0)))) (sym (step r d u b))
        ∙ ap (λ o. forward r f rest (standing r (u ++ (b ∷ []))) (suc (length u)) o) (sym (moves u b))
        ∙ ap (λ n. forward r f rest (standing r (u ++ (b ∷ []))) n (e (outcomes r (u ++ (b ∷ [])) 0))) (sym (length-append u (b ∷ []) ∙ add_one))
        ∙ forward_line rest (u ++ (b ∷ []))
        ∙ ap (λ w. e (outcomes r w 0)) (append_assoc u (b ∷ []) rest)
      where
        add_one : length u + 1 ≡ suc (length u)
        add_one = omega arith

  -- The places move with the start.
  forward_shift : (f : Standing → Bool) (j : ℕ) (rest : List ℕ) (s : Standing) (i : ℕ) (o : Option ℕ) → map (λ k. j + k) (forward r f rest s i o) ≡ forward r f rest s (j + i) (map (λ k. j + k) o)
  unfolding forward
  forward_shift f j [] s i o = refl
  forward_shift f j (b ∷ rest) s i o =
      forward_shift f j rest (next r s b) (suc i) (cond (f (next r s b)) (some (suc i)) o)
      ∙ ap₂ (forward r f rest (next r s b)) (add-suc j i) (go (f (next r s b)))
    where
      go : (c : Bool) → map (λ k. j + k) (cond c (some (suc i)) o) ≡ cond c (some (suc (j + i))) (map (λ k. j + k) o)
      go true = ap some (add-suc j i)
      go false = refl

  shift_start : (c : Bool) (j : ℕ) → map (λ k. j + k) (cond c (some 0) none) ≡ cond c (some j) none
  shift_start true j = ap some (add-zero j)
  shift_start false j = refl

  first_start : first_end (outcomes r [] 0) ≡ cond (standing r []).first (some 0) none
  first_start = ap first_end (outcomes_end r []) ∙ first_place 0 (start r) ∙ ap (λ s. cond s.first (some 0) none) (sym (step_start r))

  greatest_start : greatest_end (outcomes r [] 0) ≡ cond (standing r []).some (some 0) none
  greatest_start = ap greatest_end (outcomes_end r []) ∙ greatest_place 0 (start r) ∙ ap (λ s. cond s.some (some 0) none) (sym (step_start r))

  -- An end e that moves where f holds, and moves with the line: from the place i it is the last place where f holds.
  module _ (f : Standing → Bool) (e : List (Outcome ℕ) → Option ℕ)
      (moves : (u : List ℕ) (b : ℕ) → e (outcomes r (u ++ (b ∷ [])) 0) ≡ cond (f (standing r (u ++ (b ∷ [])))) (some (suc (length u))) (e (outcomes r u 0)))
      (starts : e (outcomes r [] 0) ≡ cond (f (standing r [])) (some 0) none)
      (shifts : (i : ℕ) (l : List (Outcome ℕ)) → e (shift i l) ≡ map (λ k. i + k) (e l)) where
    last_place : (w : List ℕ) (i : ℕ) → i ≤ length w → e (outcomes r w i) ≡ farthest r f (drop i w) i
    last_place w i h =
        ap e (from_place r w i h)
        ∙ shifts i (outcomes r (drop i w) 0)
        ∙ ap (map (λ k. i + k)) (sym (forward_line f e moves (drop i w) []))
        ∙ forward_shift f i (drop i w) (standing r []) 0 (e (outcomes r [] 0))
        ∙ ap₂ (forward r f (drop i w) (standing r [])) (add-zero i) (ap (map (λ k. i + k)) starts ∙ shift_start (f (standing r [])) i)

  -- The greedy end from the place i is the last place where (b) holds, and the POSIX end the last where (d) holds.
  pub greedy_end : (w : List ℕ) (i : ℕ) → i ≤ length w → first_end (outcomes r w i) ≡ farthest r (λ s. s.first) (drop i w) i
  greedy_end = last_place (λ s. s.first) first_end (first_moves r d) first_start shift_first

  pub posix_end : (w : List ℕ) (i : ℕ) → i ≤ length w → greatest_end (outcomes r w i) ≡ farthest r (λ s. s.some) (drop i w) i
  posix_end = last_place (λ s. s.some) greatest_end (greatest_moves r d) greatest_start shift_greatest

  -- Where nothing is wanted any more the pass may stop.
  pub greedy_stop : (rest : List ℕ) (s : Standing) (i : ℕ) (o : Option ℕ) → s.order ≡ [] → forward r (λ s. s.first) rest s i o ≡ o
  unfolding forward next
  greedy_stop [] s i o e = refl
  greedy_stop (b ∷ rest) s i o e =
      greedy_stop rest (next r s b) (suc i) (cond (next r s b).first (some (suc i)) o) (ap (λ l. once (fronts (afters r b l))) e)
      ∙ ap (λ l. cond (has_end (afters r b l)) (some (suc i)) o) e
