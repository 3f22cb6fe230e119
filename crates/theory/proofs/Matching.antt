-- The ends of a part's list are the places that the matching relation gives.
-- Assumes nothing.
use mathlib.Core.Path.{◌≡◌, refl, sym, ap, ◌∙◌, subst}
use mathlib.Core.Logic.{◌⊎◌, inl, inr}
use Prim.Native.Nat.{ℕ, zero, suc, ◌-◌, ◌<◌}
use mathlib.Core.Bool.{Bool, true, false}
use mathlib.Core.List.{List, [], ◌∷◌}
use native.Mathlib.Omega.{arith}
use native.Mathlib.Nat.{add-zero}
use lib.ListN.{length, drop, get_or, length-drop}
use lib.Seq.{drop-cons, get_or-drop}
use lib.Dec.{T, eqb, eqb→eq, eqb_refl, ltb, ltb→lt, lt→ltb}
use Rattle.theory.specs.Pattern.{Manner, Re, empty, leaf, seq, alt, star, field}
use Rattle.theory.specs.Outcomes.{Outcome, ends_at, wants, and_then, when, after_turn, leaf_outcomes, outcomes}
use Rattle.theory.specs.Standing.{some_is}
use Rattle.theory.specs.Matching.{Matches, m_empty, m_leaf, m_seq, m_left, m_right, m_done, m_again, m_field}
use Rattle.theory.proofs.Outcomes.{some_append, some_cases, some_left, some_right, some_in}
use Rattle.theory.proofs.Turns.{some_leave, some_turns, some_star, some_after_turn}
use Rattle.theory.proofs.Equations.{outcomes_all, outcomes_star}
use Rattle.theory.proofs.Tests.{T_true, or_left, or_right, or_cases, either}

module _ (f : ℕ → List (Outcome ℕ)) (k : ℕ) where
  pub some_found : (l : List (Outcome ℕ)) → T (some_is k (and_then l f)) → (j : ℕ) × T (some_is j l) × T (some_is k (f j))
  some_found [] m = absurd m
  some_found (ends_at j ∷ l) m = go (some_found l) (some_cases k (f j) (and_then l f) m)
    where
      go : (T (some_is k (and_then l f)) → (c : ℕ) × T (some_is c l) × T (some_is k (f c))) → T (some_is k (f j)) ⊎ T (some_is k (and_then l f))
          → (c : ℕ) × T (some_is c (ends_at j ∷ l)) × T (some_is k (f c))
      go below (inl t) = (j, or_left (eqb j j) (some_is j l) (eqb_refl j), t)
      go below (inr t) = let c = below t in (c.0, or_right (eqb j c.0) (some_is c.0 l) c.1, c.2)
  some_found (wants p ∷ l) m = some_found l m

  pub some_of : (l : List (Outcome ℕ)) (j : ℕ) → T (some_is j l) → T (some_is k (f j)) → T (some_is k (and_then l f))
  some_of [] j m t = m
  some_of (ends_at c ∷ l) j m t =
      rw (some_append k (f c) (and_then l f))
      (either
      (λ e. or_left (some_is k (f c)) (some_is k (and_then l f)) (subst (λ d. T (some_is k (f d))) (sym (eqb→eq c j e)) t))
      (λ n. or_right (some_is k (f c)) (some_is k (and_then l f)) (some_of l j n t))
      (or_cases (eqb c j) (some_is j l) m))
  some_of (wants p ∷ l) j m t = some_of l j m t

when_found : (c : Bool) (k : ℕ) (l : List (Outcome ℕ)) → T (some_is k (when c l)) → T c × T (some_is k l)
when_found true k l m = (tt, m)
when_found false k l m = absurd m

alone : (j k : ℕ) → T (some_is k (ends_at j ∷ [])) → j ≡ k
alone j k m = either (λ e. eqb→eq j k e) (λ n. absurd n) (or_cases (eqb j k) false m)

module _ (w : List ℕ) where
  module _ (how : Manner) (x : Re) (below : (i k : ℕ) → T (some_is k (outcomes x w i)) → Matches w x i k) where
    star_ends : (d i k : ℕ) → length w - i < d → T (some_is k (outcomes (star how x) w i)) → Matches w (star how x) i k
    star_ends zero i k g m = absurd (omega arith)
    star_ends (suc d) i k g m =
        either
        (λ t.
        let c = some_found (λ j. after_turn i j (outcomes (star how x) w j)) k (outcomes x w i) t in
        let b = some_in (outcomes_all x w i) c.0 c.1 in
        either
        (λ e. let h = ltb→lt i c.0 e.0 in m_again h (below i c.0 c.1) (star_ends d c.0 k (omega arith) e.1))
        (λ e. rw e m_done)
        (some_after_turn i c.0 k (outcomes (star how x) w c.0) c.2))
        (λ e. rw e m_done)
        (some_star how i k (and_then (outcomes x w i) (λ j. after_turn i j (outcomes (star how x) w j))) (rw (outcomes_star w i how x) at m))

  pub ends_match : (r : Re) (i k : ℕ) → T (some_is k (outcomes r w i)) → Matches w r i k
  unfolding outcomes
  ends_match empty i k m = rw (alone i k m) m_empty
  ends_match (leaf p s) i k m = go (drop i w) refl m
    where
      go : (l : List ℕ) → drop i w ≡ l → T (some_is k (leaf_outcomes p s i l)) → Matches w (leaf p s) i k
      go [] e t = absurd t
      go (b ∷ l) e t =
          let c = when_found (s b) k (ends_at (suc i) ∷ []) t in
          let at : get_or w i 0 ≡ b = ap (λ n. get_or w n 0) (sym (add-zero i)) ∙ sym (get_or-drop i w 0 0) ∙ ap (λ v. get_or v 0 0) e in
          let size : i < length w = omega (arith, length-drop i w, ap length e) in
          rw (← alone (suc i) k c.1) (m_leaf {s = s} size (rw at c.0))
  ends_match (seq x y) i k m =
      let c = some_found (λ j. outcomes y w j) k (outcomes x w i) m in
      m_seq (ends_match x i c.0 c.1) (ends_match y c.0 k c.2)
  ends_match (alt x y) i k m =
      either (λ t. m_left (ends_match x i k t)) (λ t. m_right (ends_match y i k t)) (some_cases k (outcomes x w i) (outcomes y w i) m)
  ends_match (star how x) i k m = star_ends how x (λ j c. ends_match x j c) (suc (length w)) i k (omega arith) m
  ends_match (field f x) i k m = m_field (ends_match x i k m)

  self : (i : ℕ) → T (some_is i (ends_at i ∷ []))
  self i = or_left (eqb i i) false (eqb_refl i)

  pub match_ends : {r : Re} {i k : ℕ} → Matches w r i k → T (some_is k (outcomes r w i))
  unfolding outcomes
  match_ends (m_empty {i = i}) = self i
  match_ends (m_leaf {p = p} {s = s} {i = i} h t) = rw (drop-cons w i 0 h, T_true (s (get_or w i 0)) t) (self (suc i))
  match_ends (m_seq {x = x} {y = y} {i = i} {k = j} {j = k} a b) = some_of (λ c. outcomes y w c) k (outcomes x w i) j (match_ends a) (match_ends b)
  match_ends (m_left {x = x} {y = y} {i = i} {j = k} a) = some_left k (outcomes x w i) (outcomes y w i) (match_ends a)
  match_ends (m_right {x = x} {y = y} {i = i} {j = k} a) = some_right k (outcomes x w i) (outcomes y w i) (match_ends a)
  match_ends (m_done {how = how} {x = x} {i = i}) = rw (outcomes_star w i how x) (some_leave how i (and_then (outcomes x w i) (λ c. after_turn i c (outcomes (star how x) w c))))
  match_ends (m_again {how = how} {x = x} {i = i} {k = j} {j = k} h a b) =
      rw (outcomes_star w i how x)
      (some_turns how i k (and_then (outcomes x w i) (λ c. after_turn i c (outcomes (star how x) w c)))
      (some_of (λ c. after_turn i c (outcomes (star how x) w c)) k (outcomes x w i) j (match_ends a) (rw (T_true (ltb i j) (lt→ltb i j h)) (match_ends b))))
  match_ends (m_field a) = match_ends a
