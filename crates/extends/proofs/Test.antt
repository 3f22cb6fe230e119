-- The test as a function: it fails exactly if some matched string extends to a longer matched one.
-- Assumes nothing.
use mathlib.Core.Path.{◌≡◌, refl, ap, ◌∙◌}
use mathlib.Core.Logic.{◌⊎◌, inl, inr, ◌↔◌}
use Prim.Native.Nat.{ℕ, ◌+◌, ◌*◌, ◌/◌, ◌%◌, ◌≤◌, ◌<◌}
use mathlib.Core.Bool.{Bool, true, false, not, ◌&&◌}
use mathlib.Core.List.{List}
use native.Mathlib.Omega.{arith}
use native.Mathlib.Nat.{mul-add-div_right, mul-add-mod_self_right, div-eq_of_lt, mod-eq_of_lt, mul-le-mul_right, add-zero}
use lib.Dec.{T, T_not, not_T}
use Rattle.theory.specs.Pattern.{Re, count, Numbered}
use Rattle.theory.specs.Standing.{wanted, member}
use Rattle.theory.specs.Code.Members.{any}
use Rattle.theory.specs.Code.Follow.{start, follow, has_end}
use Rattle.theory.proofs.Tests.{true_T, or_left, or_right, or_cases, and_split, and_join, either}
use Rattle.theory.proofs.Members.{any_found, any_of}
use Rattle.extends.specs.Extends.{Extends, NoneExtends}
use Rattle.extends.specs.Code.Pairs.{First, Follows, Ends, Share, Live, Reached, begin, onward, Fails}
use Rattle.extends.specs.Code.Closing.{Reach}
use Rattle.extends.specs.Code.Worklist.{Begins, Steps}
use Rattle.extends.specs.Code.Test.{meets, share, live, first_pair, next_pair, pairs, fails_at, fails}
use Rattle.extends.proofs.Pairs.{fails_extends, passes_none}
use Rattle.extends.proofs.Worklist.{search_finds}
use Rattle.extends.proofs.Live.{meets_found, meets_of, share_exactly, takes_below, live_exactly}

-- The number of a pair, and back.
module _ (n p q : ℕ) (h : q < n) where
  pub pair_left : (p * n + q) / n ≡ p
  pair_left = mul-add-div_right (omega arith) p q ∙ ap (λ x. p + x) (div-eq_of_lt h) ∙ add-zero p

  pub pair_right : (p * n + q) % n ≡ q
  pair_right = mul-add-mod_self_right p n q ∙ mod-eq_of_lt h

  pub pair_below : p < n → p * n + q < n * n
  pair_below l = omega (arith, mul-le-mul_right n l)

and_three : (a b c : Bool) → T (a && (b && c)) ↔ (T a × T b × T c)
and_three a b c = (λ t. let (x, s) = and_split a (b && c) t in let (y, z) = and_split b c s in (x, y, z), λ (x, y, z). and_join a (b && c) x (and_join b c y z))

module _ (r : Re) (n : ℕ) where
  abbrev pub Numbers : ℕ → Type 0
  Numbers = Reach (Begins (n * n) (first_pair r n) (next_pair r n)) (Steps (n * n) (first_pair r n) (next_pair r n))

  -- A pair found is a reached one.
  pub found_reached : {x : ℕ} → Numbers x → Reached r (x / n) (x % n)
  found_reached {x} (Reach.begin b) =
      let (f, g, s) = (and_three (member (x / n) (wanted (start r))) (member (x % n) (wanted (start r))) (share r (x / n) (x % n))).0 b.1 in
      begin f g ((share_exactly r (x / n) (x % n)).0 s)
  found_reached {x} (Reach.onward {x = y} h b) =
      let (f, g, s) = (and_three (member (x / n) (wanted (follow r (y / n)))) (member (x % n) (wanted (follow r (y % n)))) (share r (x / n) (x % n))).0 b.1 in
      onward (found_reached h) f g ((share_exactly r (x / n) (x % n)).0 s)

  -- The first of the two tests that the function joins.
  abbrev empties : Bool
  empties = has_end (start r) && meets (wanted (start r)) (live r)

  -- The test, where M are the numbers of the reached pairs and L the live leaves.
  abbrev pub FailsBy : (ℕ → Bool) → (ℕ → Bool) → Type 0
  FailsBy M L =
      (T (has_end (start r)) × ((p : ℕ) × First r p × T (L p)))
      ⊎ ((x : ℕ) × T (M x) × Ends r (x / n) × ((c : ℕ) × Follows r (x % n) c × T (L c)))

  module _ (d : Numbered 0 r) (k : count r ≤ n) where
    share_below : {p q : ℕ} → Share r p q → (p < n) × (q < n)
    share_below (b, l, x, y) = let u = takes_below r d (b, l, x) in let v = takes_below r d (b, l, y) in (omega arith, omega arith)

    pub reached_below : {p q : ℕ} → Reached r p q → (p < n) × (q < n)
    reached_below (begin f g s) = share_below s
    reached_below (onward h f g s) = share_below s

    pub reached_found : {p q : ℕ} → Reached r p q → Numbers (p * n + q)
    reached_found {p} {q} (begin f g s) =
        let (u, v) = share_below s in
        Reach.begin (
          pair_below n p q v u,
          rw (pair_left n p q v, pair_right n p q v)
              ((and_three (member p (wanted (start r))) (member q (wanted (start r))) (share r p q)).1 (f, g, (share_exactly r p q).1 s)),
        )
    reached_found {p} {q} (onward {p = a} {q = c} h f g s) =
        let (u, v) = share_below s in
        let (x, y) = reached_below h in
        Reach.onward (reached_found h) (
          pair_below n p q v u,
          rw (pair_left n p q v, pair_right n p q v, pair_left n a c y, pair_right n a c y)
              ((and_three (member p (wanted (follow r a))) (member q (wanted (follow r c))) (share r p q)).1 (f, g, (share_exactly r p q).1 s)),
        )

    -- The test by sets of marked pairs and of live leaves, whatever holds them.
    pub fails_by : (M L : ℕ → Bool) → ((x : ℕ) → T (M x) ↔ Numbers x) → ((p : ℕ) → T (L p) ↔ Live r p) → FailsBy M L ↔ Fails r
    fails_by M L m l = (
      λ t. either
          (λ (e, (p, f, h)). inl (e, (p, f, (l p).0 h)))
          (λ (x, h, e, (c, f, g)). inr (x / n, x % n, found_reached ((m x).0 h), e, (c, f, (l c).0 g)))
          t,
      λ t. either
          (λ (e, (p, f, h)). inl (e, (p, f, (l p).1 h)))
          (λ (p, q, h, e, (c, f, g)).
          let (u, v) = reached_below h in
          inr (p * n + q, (m (p * n + q)).1 (reached_found h), rw (pair_left n p q v) e, (c, rw (pair_right n p q v) f, (l c).1 g)))
          t,
    )

    -- The function is the test by pairs.
    pub fails_exactly : T (fails r n) ↔ Fails r
    unfolding fails pairs
    fails_exactly =
        let by = fails_by (λ x. member x (pairs r n)) (λ p. member p (live r)) (search_finds (n * n) (first_pair r n) (next_pair r n)) (live_exactly r d) in (
          λ t. by.0 (either
              (λ s. let (e, m) = and_split (has_end (start r)) (meets (wanted (start r)) (live r)) s in inl (e, meets_found (wanted (start r)) (live r) m))
              (λ s. let (x, m, w) = any_found (fails_at r n) (pairs r n) s in
              let (e, i) = and_split (has_end (follow r (x / n))) (meets (wanted (follow r (x % n))) (live r)) w in
              inr (x, m, e, meets_found (wanted (follow r (x % n))) (live r) i))
              (or_cases empties (any (fails_at r n) (pairs r n)) t)),
          λ f. either
              (λ (e, (p, i, h)). or_left empties (any (fails_at r n) (pairs r n)) (and_join (has_end (start r)) (meets (wanted (start r)) (live r)) e (meets_of (wanted (start r)) (live r) p i h)))
              (λ (x, m, e, (c, i, g)). or_right empties (any (fails_at r n) (pairs r n)) (any_of (fails_at r n) (pairs r n) x m
              (and_join (has_end (follow r (x / n))) (meets (wanted (follow r (x % n))) (live r)) e (meets_of (wanted (follow r (x % n))) (live r) c i g))))
              (by.1 f),
        )

    -- IT PASSES exactly if no matched string extends to a longer matched one.
    pub test_exactly : T (not (fails r n)) ↔ NoneExtends r
    test_exactly = (
      λ t. (passes_none r d).0 λ f. T_not (fails r n) t (fails_exactly.1 f),
      λ h. not_T (fails r n) λ t. (passes_none r d).1 h (fails_exactly.0 t),
    )

    -- One or the other.
    pub none_or_some : NoneExtends r ⊎ ((u : List ℕ) × (b : ℕ) × (v : List ℕ) × Extends r u b v)
    none_or_some = go (fails r n) refl
      where
        go : (c : Bool) → fails r n ≡ c → NoneExtends r ⊎ ((u : List ℕ) × (b : ℕ) × (v : List ℕ) × Extends r u b v)
        go true e = inr (fails_extends r d (fails_exactly.0 (true_T (fails r n) e)))
        go false e = inl (test_exactly.0 (rw e tt))
