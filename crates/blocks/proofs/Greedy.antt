-- The greedy pass may stop at the POSIX end.
-- Assumes nothing.
use mathlib.Core.Path.{◌≡◌, refl, sym, ap, ◌∙◌}
use mathlib.Core.Logic.{◌⊎◌, inl, inr}
use Prim.Native.Nat.{ℕ, suc, ◌+◌, ◌<◌}
use mathlib.Core.Bool.{Bool, true, false, cond}
use mathlib.Core.List.{List, [], ◌∷◌, ◌++◌}
use mathlib.Core.Option.{Option, none, some}
use native.Mathlib.Omega.{arith}
use lib.ListN.{length, take, drop, length-drop, take-append-drop}
use lib.Seq.{length-take-le, drop-append-le}
use Rattle.theory.specs.Pattern.{Re, Numbered}
use Rattle.theory.specs.Outcomes.{outcomes}
use Rattle.theory.specs.Spans.{Span, nowhere, span, span_or, first_end, greedy, posix}
use Rattle.theory.specs.Standing.{Standing, standing}
use Rattle.theory.specs.Code.Next.{next}
use Rattle.theory.specs.Code.Passes.{forward, farthest}
use Rattle.theory.proofs.Outcomes.{some_in}
use Rattle.theory.proofs.Equations.{outcomes_all}
use Rattle.theory.proofs.Matching.{match_ends}
use Rattle.theory.proofs.Demand.{greedy_takes, posix_takes, one_start, both_none}
use Rattle.theory.proofs.Passes.{greedy_end}

module _ (r : Re) (f : Standing → Bool) where
  -- What a pass forward has found before it goes on, or a place that lies further on.
  forward_either : (rest : List ℕ) (s : Standing) (i : ℕ) (o : Option ℕ) → (forward r f rest s i o ≡ o) ⊎ ((m : ℕ) × (i < m) × (forward r f rest s i o ≡ some m))
  unfolding forward
  forward_either [] s i o = inl refl
  forward_either (b ∷ rest) s i o = go (f (next r s b)) (λ p. forward_either rest (next r s b) (suc i) p)
    where
      go : (c : Bool) → ((p : Option ℕ) → (forward r f rest (next r s b) (suc i) p ≡ p) ⊎ ((m : ℕ) × (suc i < m) × (forward r f rest (next r s b) (suc i) p ≡ some m)))
          → (forward r f rest (next r s b) (suc i) (cond c (some (suc i)) o) ≡ o) ⊎ ((m : ℕ) × (i < m) × (forward r f rest (next r s b) (suc i) (cond c (some (suc i)) o) ≡ some m))
      go true below = elim (below (some (suc i))) [ inl e ↦ inr (suc i, omega arith, e) | inr t ↦ inr (t.0, omega (arith, t.1), t.2) ]
      go false below = elim (below o) [ inl e ↦ inl e | inr t ↦ inr (t.0, omega (arith, t.1), t.2) ]

  -- Over two parts: the first alone, or a place in the second.
  forward_parts : (u v : List ℕ) (s : Standing) (i : ℕ) (o : Option ℕ) → (forward r f (u ++ v) s i o ≡ forward r f u s i o) ⊎ ((m : ℕ) × (i + length u < m) × (forward r f (u ++ v) s i o ≡ some m))
  unfolding forward
  forward_parts [] v s i o = elim (forward_either v s i o) [ inl e ↦ inl e | inr t ↦ inr (t.0, omega (arith, t.1), t.2) ]
  forward_parts (b ∷ u) v s i o =
      elim (forward_parts u v (next r s b) (suc i) (cond (f (next r s b)) (some (suc i)) o)) [ inl e ↦ inl e | inr t ↦ inr (t.0, omega (arith, t.1), t.2) ]

module _ (r : Re) (d : Numbered 0 r) (w : List ℕ) where
  -- The greedy span begins at the POSIX start,
  greedy_from : (i j : ℕ) → posix r w ≡ span i j → greedy r w ≡ span_or i (first_end (outcomes r w i)) nowhere
  greedy_from i j e = go (greedy r w) refl
    where
      go : (s : Span) → greedy r w ≡ s → s ≡ span_or i (first_end (outcomes r w i)) nowhere
      go nowhere g = absurd (let z : ◌≡◌ {A = Span} (span i j) nowhere = sym e ∙ (both_none r w).0 g in let n : ◌≡◌ {A = ℕ} 0 1 = cc in omega arith)
      go (span m k) g =
          let same : m ≡ i = one_start r w g e in
          sym (ap (λ o. span_or i o nowhere) (ap (λ n. first_end (outcomes r w n)) (sym same) ∙ ((greedy_takes r w m k).0 g).first) ∙ ap (λ n. span n k) (sym same))

  -- AND LIES IN THE LINE UP TO THE POSIX END.
  pub greedy_upto : (i j : ℕ) → posix r w ≡ span i j → greedy r w ≡ span_or i (farthest r (λ s. s.first) (drop i (take j w)) i) nowhere
  greedy_upto i j e =
      let t = (posix_takes r w i j).0 e in
      let inside = some_in (outcomes_all r w i) j (match_ends w t.end) in
      let size : length (take j w) ≡ j = length-take-le j w (omega arith) in
      let parts : drop i w ≡ drop i (take j w) ++ drop j w = ap (drop i) (sym (take-append-drop j w)) ∙ drop-append-le i (take j w) (drop j w) (omega arith) in
      let cut : greedy r w ≡ span_or i (farthest r (λ s. s.first) (drop i (take j w) ++ drop j w) i) nowhere =
      greedy_from i j e ∙ ap (λ o. span_or i o nowhere) (greedy_end r d w i (omega arith) ∙ ap (λ l. farthest r (λ s. s.first) l i) parts) in
      elim (forward_parts r (λ s. s.first) (drop i (take j w)) (drop j w) (standing r []) i (cond (standing r []).first (some i) none)) [
        | inl q ↦ cut ∙ ap (λ o. span_or i o nowhere) q
        | inr q ↦ absurd (let g = t.greatest q.0 ((greedy_takes r w i q.0).0 (cut ∙ ap (λ o. span_or i o nowhere) q.2)).end in omega (arith, q.1, length-drop i (take j w)))
      ]
