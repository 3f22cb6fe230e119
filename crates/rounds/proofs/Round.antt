-- The round: from each pattern it comes to each other, and the first that is undecided.
-- Assumes nothing.
use mathlib.Core.Path.{◌≡◌, refl, sym, ap, ◌∙◌, subst}
use Prim.Native.Nat.{ℕ, zero, suc, ◌+◌, ◌-◌, ◌≤◌, ◌<◌}
use mathlib.Core.Bool.{Bool, true, false, cond, true≢false}
use mathlib.Core.Option.{Option, none, some, some-ne-none}
use native.Mathlib.Omega.{arith}
use native.Mathlib.Nat.{zero-add, suc-add}
use native.Mathlib.Decide.{dec_lt}
use lib.Dec.{T, ltb, ltb→lt, lt→ltb}
use Rattle.theory.proofs.Tests.{T_true, true_T, not_true}
use Rattle.rounds.specs.Round.{after, first_of}

-- The pattern d places on from i.
unfoldable pub on : ℕ → ℕ → ℕ → ℕ
on k zero i = i
on k (suc d) i = on k d (after k i)

module _ (k : ℕ) where
  after_up : (i : ℕ) → suc i < k → after k i ≡ suc i
  unfolding after
  after_up i h = rw (T_true (ltb (suc i) k) (lt→ltb (suc i) k h))

  after_last : (i : ℕ) → k ≤ suc i → after k i ≡ 0
  unfolding after
  after_last i h = rw (not_true (ltb (suc i) k) (λ t. omega (arith, ltb→lt (suc i) k t)))

  pub after_below : (i : ℕ) → 0 < k → after k i < k
  after_below i h = elim (dec_lt (suc i) k) [ yes c ↦ rw (after_up i c) c | no c ↦ rw (after_last i (omega arith)) h ]

  pub on_below : (d i : ℕ) → i < k → on k d i < k
  unfolding on
  on_below zero i h = h
  on_below (suc d) i h = on_below d (after k i) (after_below i (omega arith))

  pub on_add : (d e i : ℕ) → on k (d + e) i ≡ on k e (on k d i)
  unfolding on
  on_add zero e i = ap (λ n. on k n i) (zero-add e)
  on_add (suc d) e i = ap (λ n. on k n i) (suc-add d e) ∙ on_add d e (after k i)

  -- Going up from i,
  on_up : (d i : ℕ) → i + d < k → on k d i ≡ i + d
  unfolding on
  on_up zero i h = omega arith
  on_up (suc d) i h = ap (on k d) (after_up i (omega arith)) ∙ on_up d (suc i) (omega arith) ∙ (let e : suc i + d ≡ i + suc d = omega arith in e)

  -- and round.
  on_round : (i : ℕ) → i < k → on k (k - i) i ≡ 0
  unfolding on
  on_round i h =
      let m = k - suc i in
      let e : k - i ≡ m + 1 = omega arith in
      ap (λ n. on k n i) e ∙ on_add m 1 i ∙ ap (after k) (on_up m i (omega arith)) ∙ after_last (i + m) (omega arith)

  -- From each pattern the round comes to each other in fewer than k places.
  pub on_each : (i j : ℕ) → i < k → j < k → (d : ℕ) × (d < k) × (on k d i ≡ j)
  on_each i j h g =
      elim (dec_lt j i) [
        | no c ↦ (j - i, omega arith, on_up (j - i) i (omega arith) ∙ (let e : i + (j - i) ≡ j = omega arith in e))
        | yes c ↦ (k - i + j, omega arith, on_add (k - i) j i ∙ ap (on k j) (on_round i h) ∙ on_up j 0 (omega arith) ∙ (let e : 0 + j ≡ j = omega arith in e))
      ]

  -- The first that is undecided.
  module _ (undecided : ℕ → Bool) where
    -- j is e places on from i, with decided ones before it.
    pub record First (n i j : ℕ) : Type 0 where
      pub far : ℕ
      pub fewer : far < n
      pub there : on k far i ≡ j
      pub still : T (undecided j)
      pub passed : (e : ℕ) → e < far → T (undecided (on k e i)) → ⊥

    pub first_is_lem : (n i j : ℕ) → first_of k undecided n i ≡ some j → First n i j
    unfolding first_of on
    first_is_lem zero i j e = absurd (some-ne-none j (sym e))
    first_is_lem (suc n) i j e = go (undecided i) refl e (first_is_lem n (after k i) j)
      where
        go : (c : Bool) → undecided i ≡ c → cond c (some i) (first_of k undecided n (after k i)) ≡ some j → (first_of k undecided n (after k i) ≡ some j → First n (after k i) j) → First (suc n) i j
        go true q f below =
            let same : i ≡ j = cc in
            record { far = 0; fewer = omega arith; there = same; still = true_T (undecided j) (ap undecided (sym same) ∙ q); passed = λ e h. absurd (omega arith) }
        go false q f below =
            let b = below f in
            record {
              far = suc b.far;
              fewer = omega (arith, b.fewer);
              there = b.there;
              still = b.still;
              passed = elim [
                | zero ↦ λ h t. true≢false (sym (T_true (undecided i) t) ∙ q)
                | suc e ↦ λ h t. b.passed e (omega arith) t
              ];
            }

    -- One undecided is found, at it or before it.
    pub first_found : (n i d : ℕ) → d < n → T (undecided (on k d i)) → (j : ℕ) × (first_of k undecided n i ≡ some j)
    unfolding first_of on
    first_found zero i d h t = absurd (omega arith)
    first_found (suc n) i zero h t = (i, rw (T_true (undecided i) t))
    first_found (suc n) i (suc d) h t = go (undecided i) (first_found n (after k i) d (omega arith) t)
      where
        go : (c : Bool) → ((j : ℕ) × (first_of k undecided n (after k i) ≡ some j)) → (j : ℕ) × (cond c (some i) (first_of k undecided n (after k i)) ≡ some j)
        go true b = (i, refl)
        go false b = b

    -- With nothing undecided nobody is found.
    pub first_none : (n i : ℕ) → ((d : ℕ) → d < n → T (undecided (on k d i)) → ⊥) → first_of k undecided n i ≡ none
    first_none n i h = go (first_of k undecided n i) refl
      where
        go : (o : Option ℕ) → first_of k undecided n i ≡ o → o ≡ none
        go none e = refl
        go (some j) e = let f = first_is_lem n i j e in absurd (h f.far f.fewer (subst (λ p. T (undecided p)) (sym f.there) f.still))
