-- Demand 2: what the two spans are, by the matching relation.
-- Assumes nothing.
use mathlib.Core.Path.{◌≡◌, refl, sym, ap, ◌∙◌, subst}
use mathlib.Core.Logic.{◌⊎◌, inr, ◌↔◌}
use Prim.Native.Nat.{ℕ, zero, suc, ◌+◌, ◌≤◌, ◌<◌}
use mathlib.Core.List.{List, [], ◌∷◌}
use mathlib.Core.Option.{Option, none, some}
use native.Mathlib.Omega.{arith}
use native.Mathlib.Decide.{dec_lt}
use native.Mathlib.Decide.{ℕ_discrete}
use lib.ListN.{length}
use lib.Dec.{T, eqb, eqb_refl}
use Rattle.theory.specs.Pattern.{Re}
use Rattle.theory.specs.Outcomes.{Outcome, ends_at, wants, outcomes}
use Rattle.theory.specs.Matching.{Matches}
use Rattle.theory.specs.Spans.{first_end, greatest_end, nowhere, span, span_or, leftmost, greedy, posix}
use Rattle.theory.specs.Standing.{some_is}
use Rattle.theory.specs.Preference.{LeastEnd}
use Rattle.theory.specs.Demand.{LeftmostStart, PosixTakes, GreedyTakes, NoMatch}
use Rattle.theory.proofs.Tests.{or_left, either}
use Rattle.theory.proofs.Matching.{ends_match, match_ends}
use Rattle.theory.proofs.Denotation.{greatest_least}

-- What `leftmost` finds: the first place that has an end.
module _ (e : ℕ → Option ℕ) where
  abbrev Nothing : ℕ → ℕ → Type 0
  Nothing i k = (m : ℕ) → i ≤ m → m < k → e m ≡ none

  record First (d i k j : ℕ) : Type 0 where
    from : i ≤ k
    below : k < i + d
    here : e k ≡ some j
    before : Nothing i k

  none_here : {i k : ℕ} → e i ≡ none → Nothing (suc i) k → Nothing i k
  none_here {i} c h m l g = elim (ℕ_discrete m i) [ yes q ↦ ap e q ∙ c | no q ↦ h m (omega arith) g ]

  leftmost_inv : (d i k j : ℕ) → leftmost e d i ≡ span k j → First d i k j
  leftmost_inv zero i k j q = absurd (let z : ◌≡◌ {A = ℕ} 0 1 = cc in omega arith)
  leftmost_inv (suc d) i k j q = go (leftmost_inv d (suc i) k j) (e i) refl q
    where
      go : (leftmost e d (suc i) ≡ span k j → First d (suc i) k j) → (o : Option ℕ) → e i ≡ o → span_or i o (leftmost e d (suc i)) ≡ span k j → First (suc d) i k j
      go below none c q =
          let f = below q in
          record { from = let h = f.from in omega arith; below = let h = f.below in omega arith; here = f.here; before = none_here c f.before }
      go below (some m) c q =
          let s : i ≡ k = cc in
          let t : m ≡ j = cc in
          record { from = omega arith; below = omega arith; here = ap e (sym s) ∙ c ∙ ap some t; before = λ n l g. absurd (omega arith) }

  leftmost_of : (d i k j : ℕ) → First d i k j → leftmost e d i ≡ span k j
  leftmost_of zero i k j f = absurd (let g = f.from in let h = f.below in omega arith)
  leftmost_of (suc d) i k j f =
      elim (ℕ_discrete i k) [
        | yes q ↦ rw (ap e q ∙ f.here, q)
        | no q ↦ (let g = f.from in
            let h = f.below in
            rw (f.before i (omega arith) (omega arith))
            (leftmost_of d (suc i) k j record { from = omega arith; below = omega arith; here = f.here; before = λ m l o. f.before m (omega arith) o }))
      ]

  leftmost_nowhere_inv : (d i : ℕ) → leftmost e d i ≡ nowhere → Nothing i (i + d)
  leftmost_nowhere_inv zero i q = λ m l g. absurd (omega arith)
  leftmost_nowhere_inv (suc d) i q = go (leftmost_nowhere_inv d (suc i)) (e i) refl q
    where
      go : (leftmost e d (suc i) ≡ nowhere → Nothing (suc i) (suc i + d)) → (o : Option ℕ) → e i ≡ o → span_or i o (leftmost e d (suc i)) ≡ nowhere → Nothing i (i + suc d)
      go below none c q = none_here c λ m l g. below q m l (omega arith)
      go below (some m) c q = absurd (let z : ◌≡◌ {A = ℕ} 0 1 = cc in omega arith)

  leftmost_nowhere_of : (d i : ℕ) → Nothing i (i + d) → leftmost e d i ≡ nowhere
  leftmost_nowhere_of zero i h = refl
  leftmost_nowhere_of (suc d) i h = rw (h i (omega arith) (omega arith)) (leftmost_nowhere_of d (suc i) λ m l g. h m (omega arith) (omega arith))

module _ (r : Re) (w : List ℕ) where
  -- Ends e, each a match and one wherever there is a match: the first place that has one is the leftmost start.
  module _ (Less : ℕ → ℕ → ℕ → Type 0) (e : ℕ → Option ℕ) (ends : (i : ℕ) → LeastEnd (Matches w r i) (Less i) (e i)) where
    none_inv : (i : ℕ) → e i ≡ none → (j : ℕ) → Matches w r i j → ⊥
    none_inv i c = subst (LeastEnd (Matches w r i) (Less i)) c (ends i)

    none_of : (i : ℕ) → ((j : ℕ) → Matches w r i j → ⊥) → e i ≡ none
    none_of i h = go (e i) (ends i)
      where
        go : (o : Option ℕ) → LeastEnd (Matches w r i) (Less i) o → o ≡ none
        go none c = refl
        go (some j) c = absurd (h j c.0)

    some_inv : (i j : ℕ) → e i ≡ some j → Matches w r i j × ((k : ℕ) → Matches w r i k → (k ≡ j) ⊎ Less i j k)
    some_inv i j c = subst (LeastEnd (Matches w r i) (Less i)) c (ends i)

    start_inv : (i j : ℕ) → First e (suc (length w)) 0 i j → LeftmostStart r w i
    start_inv i j f =
        record {
          in_line = let h = f.below in omega arith;
          matches = (j, (some_inv i j f.here).0);
          leftmost = λ k m l. none_inv k (f.before k (omega arith) l) m;
        }

    start_of : (i j : ℕ) → LeftmostStart r w i → e i ≡ some j → First e (suc (length w)) 0 i j
    start_of i j s c = let h = s.in_line in record { from = omega arith; below = omega arith; here = c; before = λ m l g. none_of m λ k. s.leftmost m k g }

    nowhere_iff : (leftmost e (suc (length w)) 0 ≡ nowhere) ↔ NoMatch r w
    nowhere_iff = (
      λ q i j l m. none_inv i (leftmost_nowhere_inv e (suc (length w)) 0 q i (omega arith) (omega arith)) j m,
      λ h. leftmost_nowhere_of e (suc (length w)) 0 λ i l g. none_of i λ j. h i j (omega arith),
    )

  abbrev first : ℕ → Option ℕ
  first i = first_end (outcomes r w i)

  abbrev greatest : ℕ → Option ℕ
  greatest i = greatest_end (outcomes r w i)

  abbrev Longer : ℕ → ℕ → ℕ → Type 0
  Longer i j k = k < j

  abbrev Any : ℕ → ℕ → ℕ → Type 0
  Any i j k = Unit {0}

  -- The first end is a match, and there is one wherever there is a match.
  first_matches : (i : ℕ) → LeastEnd (Matches w r i) (Any i) (first i)
  first_matches i = go (outcomes r w i) (λ j t. ends_match w r i j t) (λ j m. match_ends w m)
    where
      go : {M : ℕ → Type 0} (l : List (Outcome ℕ)) → ((j : ℕ) → T (some_is j l) → M j) → ((j : ℕ) → M j → T (some_is j l)) → LeastEnd M (λ j k. Unit {0}) (first_end l)
      go [] a b = λ j m. b j m
      go (ends_at k ∷ l) a b = (a k (or_left (eqb k k) (some_is k l) (eqb_refl k)), λ j m. inr tt)
      go (wants p ∷ l) a b = go l a b

  -- GREEDY: the first in the order of preference at the leftmost start.
  pub greedy_takes : (i j : ℕ) → (greedy r w ≡ span i j) ↔ GreedyTakes r w i j
  unfolding greedy
  greedy_takes i j = (
    λ q. let f = leftmost_inv first (suc (length w)) 0 i j q in
        record { start = start_inv Any first first_matches i j f; end = (some_inv Any first first_matches i j f.here).0; first = f.here },
    λ t. leftmost_of first (suc (length w)) 0 i j (start_of Any first first_matches i j t.start t.first),
  )

  -- POSIX: the greatest end there.
  pub posix_takes : (i j : ℕ) → (posix r w ≡ span i j) ↔ PosixTakes r w i j
  unfolding posix
  posix_takes i j = (
    λ q. let f = leftmost_inv greatest (suc (length w)) 0 i j q in
        let c = some_inv Longer greatest (greatest_least r w) i j f.here in
        record {
          start = start_inv Longer greatest (greatest_least r w) i j f;
          end = c.0;
          greatest = λ k m. either (λ q. omega arith) (λ l. omega arith) (c.1 k m);
        },
    λ t. leftmost_of greatest (suc (length w)) 0 i j (start_of Longer greatest (greatest_least r w) i j t.start (go t (greatest i) (greatest_least r w i))),
  )
    where
      go : PosixTakes r w i j → (o : Option ℕ) → LeastEnd (Matches w r i) (Longer i) o → o ≡ some j
      go t none c = absurd (c j t.end)
      go t (some k) c =
          let l = t.greatest k c.0 in
          either (λ q. ap some (sym q)) (λ g. absurd (omega arith)) (c.1 j t.end)

  -- NONE: no part of the line matches.
  pub greedy_none : (greedy r w ≡ nowhere) ↔ NoMatch r w
  unfolding greedy
  greedy_none = nowhere_iff Any first first_matches

  pub posix_none : (posix r w ≡ nowhere) ↔ NoMatch r w
  unfolding posix
  posix_none = nowhere_iff Longer greatest (greatest_least r w)

  -- BOTH SPANS BEGIN AT ONE START, or neither is there.
  pub one_start : {i j m k : ℕ} → greedy r w ≡ span i j → posix r w ≡ span m k → i ≡ m
  one_start {i} {j} {m} {k} e f =
      let a = (greedy_takes i j).0 e in
      let b = (posix_takes m k).0 f in
      elim (dec_lt i m) [
        | yes h ↦ absurd (b.start.leftmost i j h a.end)
        | no h ↦ elim (dec_lt m i) [ yes g ↦ absurd (a.start.leftmost m k g b.end) | no g ↦ omega arith ]
      ]

  pub both_none : (greedy r w ≡ nowhere) ↔ (posix r w ≡ nowhere)
  both_none = (λ e. posix_none.1 (greedy_none.0 e), λ e. greedy_none.1 (posix_none.0 e))
