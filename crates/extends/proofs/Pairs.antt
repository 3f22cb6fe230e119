-- The test by pairs fails exactly if some matched string extends to a longer matched one.
-- Assumes nothing.
use mathlib.Core.Path.{subst}
use mathlib.Core.Logic.{◌⊎◌, inl, inr, ◌↔◌}
use Prim.Native.Nat.{ℕ}
use mathlib.Core.List.{List, [], ◌∷◌, ◌++◌, append-nil, append_assoc}
use lib.Dec.{T}
use Rattle.theory.specs.Pattern.{Re, Numbered}
use Rattle.theory.specs.Standing.{wanted, member}
use Rattle.theory.specs.Lines.{Below}
use Rattle.theory.specs.Code.Follow.{Next, start, follow, has_end}
use Rattle.theory.proofs.Lines.{below_append, below_snoc}
use Rattle.extends.specs.Extends.{Extends, NoneExtends}
use Rattle.extends.specs.Code.Pairs.{Share, Live, Reached, begin, onward, FailsPair, Fails}
use Rattle.extends.proofs.Accepts.{Accepts, matched_accepts, live_accepts, accepts_live}

module _ (r : Re) where
  -- A string leads to both leaves of a reached pair: whatever completes it after one of them completes it.
  pub reached_string : {p q : ℕ} → Reached r p q
      → (u : List ℕ) × Below 256 u × ((x : List ℕ) → Accepts r (follow r p) x → Accepts r (start r) (u ++ x)) × ((x : List ℕ) → Accepts r (follow r q) x → Accepts r (start r) (u ++ x))
  reached_string {p} {q} (begin f g (b, l, s, t)) = (b ∷ [], (l, tt), λ x a. (p, f, s, a), λ x a. (q, g, t, a))
  reached_string {p} {q} (onward h f g (b, l, s, t)) =
      let (u, w, i, j) = reached_string h in (
        u ++ (b ∷ []),
        below_snoc 256 u b w l,
        λ x a. rw (append_assoc u (b ∷ []) x) (i (b ∷ x) (p, f, s, a)),
        λ x a. rw (append_assoc u (b ∷ []) x) (j (b ∷ x) (q, g, t, a)),
      )

  -- Two lists with a way from each pair of wanted leaves that share a byte to a reached pair: if one accepts u and the other a longer string, the test fails, now or at a reached pair.
  lists_fail : (u : List ℕ) (b : ℕ) (v : List ℕ) → Below 256 (u ++ (b ∷ v)) → (l m : List Next)
      → ((p q : ℕ) → T (member p (wanted l)) → T (member q (wanted m)) → Share r p q → Reached r p q)
      → Accepts r l u → Accepts r m (u ++ (b ∷ v)) → (T (has_end l) × ((c : ℕ) × T (member c (wanted m)) × Live r c)) ⊎ FailsPair r
  lists_fail [] b v w l m g a (c, i, t, z) = inl (a, (c, i, accepts_live r v w.1 c b w.0 t z))
  lists_fail (e ∷ u) b v w l m g (p, i, s, y) (q, j, t, z) =
      let h = g p q i j (e, w.0, s, t) in
      go h (lists_fail u b v w.1 (follow r p) (follow r q) (λ c d. onward h) y z)
    where
      go : Reached r p q → (T (has_end (follow r p)) × ((c : ℕ) × T (member c (wanted (follow r q))) × Live r c)) ⊎ FailsPair r
          → (T (has_end l) × ((c : ℕ) × T (member c (wanted m)) × Live r c)) ⊎ FailsPair r
      go h (inl (x, k)) = inr (p, q, h, x, k)
      go h (inr k) = inr k

  module _ (d : Numbered 0 r) where
    -- From two strings to the pair.
    pub extends_fails : {u : List ℕ} {b : ℕ} {v : List ℕ} → Extends r u b v → Fails r
    extends_fails {u} {b} {v} x =
        lists_fail u b v x.bytes (start r) (start r) (λ p q. begin) ((matched_accepts r d u).0 x.matched) ((matched_accepts r d (u ++ (b ∷ v))).0 x.longer)

    -- From the pair to two strings.
    pub fails_extends : Fails r → (u : List ℕ) × (b : ℕ) × (v : List ℕ) × Extends r u b v
    fails_extends (inl (e, (p, f, h))) =
        let (b, v, l, w, t, a) = live_accepts r h in
        ([], b, v, record { bytes = (l, w); matched = (matched_accepts r d []).1 e; longer = (matched_accepts r d (b ∷ v)).1 (p, f, t, a) })
    fails_extends (inr (p, q, h, e, (c, f, g))) =
        let (b, v, l, w, t, a) = live_accepts r g in
        let (u, k, i, j) = reached_string h in (
          u,
          b,
          v,
          record {
            bytes = below_append 256 u (b ∷ v) k (l, w);
            matched = (matched_accepts r d u).1 (subst (Accepts r (start r)) (append-nil u) (i [] e));
            longer = (matched_accepts r d (u ++ (b ∷ v))).1 (j (b ∷ v) (c, f, t, a));
          },
        )

    -- THE TEST PASSES exactly if no matched string extends to a longer matched one.
    pub passes_none : (Fails r → ⊥) ↔ NoneExtends r
    passes_none = (λ h u b v x. h (extends_fails x), λ n f. let (u, b, v, x) = fails_extends f in n u b v x)
