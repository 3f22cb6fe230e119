-- The search: from the empty line, each found line in turn is tried with each byte upwards, and what leads to a new standing is added.
-- It finds the distinct standings in the order of their first lines. What a standing is does not matter: only that a byte carries equal ones to equal ones.
-- Assumes nothing.
use mathlib.Core.Path.{◌≡◌, refl, sym, ap, ◌∙◌, subst}
use mathlib.Core.Logic.{◌⊎◌, inl, inr, ◌≢◌}
use Prim.Native.Nat.{ℕ, zero, suc, ◌≤◌, ◌<◌}
use mathlib.Core.List.{List, [], ◌∷◌, ◌++◌}
use native.Mathlib.Omega.{arith}
use native.Mathlib.Decide.{dec_lt}
use lib.ListN.{length}
use Rattle.theory.specs.Lines.{Below, ◌≺◌}
use Rattle.theory.specs.Records.{at}
use Rattle.theory.specs.Code.Search.{Trace, begin, known, new, turn}
use Rattle.theory.proofs.Tests.{either}
use Rattle.theory.proofs.Lines.{◌≼◌, ≺_irrefl, ≺_trans, ≺_snoc, ≺_last, ≺_self, ≺_empty, ≼_snoc, ≼_≺, ≼_trans, Bytes, nil, snoc, below_snoc, snoc_size, snoc_old, snoc_last, snoc_each}

-- (j, b) comes before (q, c).
abbrev pub Earlier : ℕ → ℕ → ℕ → ℕ → Type 0
Earlier j b q c = (j < q) ⊎ ((j ≡ q) × (b < c))

earlier_next : {j b q c : ℕ} → Earlier j b q c → Earlier j b q (suc c)
earlier_next (inl h) = inl h
earlier_next (inr h) = inr (omega arith)

earlier_turn : {j b q c : ℕ} → Earlier j b q c → Earlier j b (suc q) 0
earlier_turn (inl h) = inl (omega arith)
earlier_turn (inr h) = inl (omega arith)

earlier_le : {j b q c : ℕ} → Earlier j b q c → j ≤ q
earlier_le (inl h) = omega arith
earlier_le (inr h) = omega arith

earlier_split : {j b q c : ℕ} → Earlier j b q (suc c) → Earlier j b q c ⊎ ((j ≡ q) × (b ≡ c))
earlier_split (inl h) = inl (inl h)
earlier_split {b = b} {c = c} (inr h) = elim (dec_lt b c) [ yes g ↦ inl (inr (h.0, g)) | no g ↦ inr (omega arith) ]

module _ {S : Type 0} (stand : List ℕ → S) (carries : (u v : List ℕ) (b : ℕ) → stand u ≡ stand v → stand (u ++ (b ∷ [])) ≡ stand (v ++ (b ∷ []))) (n : ℕ) where
  trace_size : {L : List (List ℕ)} {q c : ℕ} → Trace stand n L q c → (0 < length L) × (q ≤ length L)
  trace_size begin = omega arith
  trace_size (known t h g k i e) = trace_size t
  trace_size (new {L = L} {q = q} {c = c} t h g e) = omega (arith, snoc_size L (at L q ++ (c ∷ [])))
  trace_size (turn t h) = let c = trace_size t in omega arith

  trace_zero : {L : List (List ℕ)} {q c : ℕ} → Trace stand n L q c → at L 0 ≡ []
  trace_zero begin = refl
  trace_zero (known t h g k i e) = trace_zero t
  trace_zero (new {L = L} {q = q} {c = c} t h g e) = snoc_old L (at L q ++ (c ∷ [])) 0 (trace_size t).0 ∙ trace_zero t
  trace_zero (turn t h) = trace_zero t

  -- Where a line comes from.
  abbrev pub Origin : List (List ℕ) → ℕ → ℕ → ℕ → Type 0
  Origin L q c k = (j b : ℕ) × Earlier j b q c × (j < length L) × (b < n) × (at L k ≡ at L j ++ (b ∷ []))

  pub origin : {L : List (List ℕ)} {q c : ℕ} → Trace stand n L q c → (k : ℕ) → 0 < k → k < length L → Origin L q c k
  origin begin k p h = absurd (omega arith)
  origin (known t h g m i e) k p l = let (j, b, a, x, y, z) = origin t k p l in (j, b, earlier_next a, x, y, z)
  origin (new {L = L} {q = q} {c = c} t h g e) k p l =
      snoc_each L (at L q ++ (c ∷ [])) (λ m. 0 < m → Origin (L ++ ((at L q ++ (c ∷ [])) ∷ [])) q (suc c) m)
      (λ m r o. let (j, b, a, x, y, z) = origin t m o r in
      (j, b, earlier_next a, omega (arith, snoc_size L (at L q ++ (c ∷ []))), y, snoc_old L _ m r ∙ z ∙ ap (λ u. u ++ (b ∷ [])) (sym (snoc_old L _ j x))))
      (λ o. (q, c, inr (refl, omega arith), omega (arith, snoc_size L (at L q ++ (c ∷ []))), g, snoc_last L _ ∙ ap (λ u. u ++ (c ∷ [])) (sym (snoc_old L _ q h))))
      k l p
  origin (turn t h) k p l = let (j, b, a, x, y, z) = origin t k p l in (j, b, earlier_turn a, x, y, z)

  -- Each line found comes before the one that is tried next, if the lines found so far stand in their order.
  module _ {L : List (List ℕ)} {q c : ℕ} (t : Trace stand n L q c) (h : q < length L) (up : (j k : ℕ) → j < k → k < length L → at L j ≺ at L k) where
    pub before_next : (k : ℕ) → k < length L → at L k ≺ at L q ++ (c ∷ [])
    before_next zero l = rw (trace_zero t) (≺_empty (at L q) c)
    before_next (suc k) l = let (j, b, a, x, y, z) = origin t (suc k) (omega arith) l in rw z (go j b a)
      where
        go : (j b : ℕ) → Earlier j b q c → at L j ++ (b ∷ []) ≺ at L q ++ (c ∷ [])
        go j b (inl g) = ≺_snoc (at L j) (at L q) b c (up j q g h)
        go j b (inr g) = rw g.0 (≺_last (at L q) b c g.1)

  -- The lines found stand in their order.
  pub increasing : {L : List (List ℕ)} {q c : ℕ} → Trace stand n L q c → (j k : ℕ) → j < k → k < length L → at L j ≺ at L k
  increasing begin j k i l = absurd (omega arith)
  increasing (known t h g m o e) j k i l = increasing t j k i l
  increasing (new {L = L} {q = q} {c = c} t h g e) j k i l =
      snoc_each L (at L q ++ (c ∷ [])) (λ m. j < m → at (L ++ ((at L q ++ (c ∷ [])) ∷ [])) j ≺ at (L ++ ((at L q ++ (c ∷ [])) ∷ [])) m)
      (λ m r o. rw (snoc_old L (at L q ++ (c ∷ [])) m r, snoc_old L (at L q ++ (c ∷ [])) j (omega arith)) (increasing t j m o r))
      (λ o. rw (snoc_last L (at L q ++ (c ∷ [])), snoc_old L (at L q ++ (c ∷ [])) j o) (before_next t h (λ a b f g. increasing t a b f g) j o))
      k l i
  increasing (turn t h) j k i l = increasing t j k i l

  -- Their standings are distinct.
  pub distinct : {L : List (List ℕ)} {q c : ℕ} → Trace stand n L q c → (j k : ℕ) → j < k → k < length L → stand (at L j) ≢ stand (at L k)
  distinct begin j k i l = absurd (omega arith)
  distinct (known t h g m o e) j k i l = distinct t j k i l
  distinct (new {L = L} {q = q} {c = c} t h g e) j k i l =
      snoc_each L (at L q ++ (c ∷ [])) (λ m. j < m → stand (at (L ++ ((at L q ++ (c ∷ [])) ∷ [])) j) ≢ stand (at (L ++ ((at L q ++ (c ∷ [])) ∷ [])) m))
      (λ m r o. rw (snoc_old L (at L q ++ (c ∷ [])) m r, snoc_old L (at L q ++ (c ∷ [])) j (omega arith)) (distinct t j m o r))
      (λ o. rw (snoc_last L (at L q ++ (c ∷ [])), snoc_old L (at L q ++ (c ∷ [])) j o) (e j o))
      k l i
  distinct (turn t h) j k i l = distinct t j k i l

  -- The line v has the standing of a line found that does not come after it.
  abbrev pub Covered : List (List ℕ) → List ℕ → Type 0
  Covered L v = (k : ℕ) × (k < length L) × (stand (at L k) ≡ stand v) × (at L k ≼ v)

  covered_add : (L : List (List ℕ)) (x v : List ℕ) → Covered L v → Covered (L ++ (x ∷ [])) v
  covered_add L x v (k, l, e, o) = (k, omega (arith, snoc_size L x), rw (snoc_old L x k l) e, rw (snoc_old L x k l) o)

  -- What was tried is covered.
  pub tried : {L : List (List ℕ)} {q c : ℕ} → Trace stand n L q c → (j b : ℕ) → Earlier j b q c → j < length L → b < n → Covered L (at L j ++ (b ∷ []))
  tried begin j b (inl a) h g = absurd (omega arith)
  tried begin j b (inr a) h g = absurd (omega arith)
  tried (known {L = L} {q = q} {c = c} t h g k i e) j b a l m =
      either (λ f. tried t j b f l m)
      (λ f. (k, i, rw (f.0, f.1) e, inr (rw (f.0, f.1) (before_next t h (increasing t) k i))))
      (earlier_split a)
  tried (new {L = L} {q = q} {c = c} t h g e) j b a l m =
      let x = at L q ++ (c ∷ []) in
      let old : j < length L = let y = earlier_le a in omega arith in
      rw (snoc_old L x j old)
      (either (λ f. covered_add L x (at L j ++ (b ∷ [])) (tried t j b f old m))
      (λ f. (length L, omega (arith, snoc_size L x), ap stand (snoc_last L x ∙ same f), inl (snoc_last L x ∙ same f)))
      (earlier_split a))
    where
      same : {j b q c : ℕ} → (j ≡ q) × (b ≡ c) → at L q ++ (c ∷ []) ≡ at L j ++ (b ∷ [])
      same f = rw (f.0, f.1)
  tried (turn {q = q} t h) j b a l m = tried t j b (go a) l m
    where
      go : Earlier j b (suc q) 0 → Earlier j b q n
      go (inl f) = elim (dec_lt j q) [ yes c ↦ inl c | no c ↦ inr (omega arith) ]
      go (inr f) = absurd (omega arith)

  -- Each line before the one tried next is covered.
  pub covered : {L : List (List ℕ)} {q c : ℕ} → Trace stand n L q c → q < length L → {v : List ℕ} → Bytes n v → v ≺ at L q ++ (c ∷ []) → Covered L v
  covered {L} {q} {c} t h nil o = (0, (trace_size t).0, ap stand (trace_zero t), inl (trace_zero t))
  covered {L} {q} {c} t h (snoc {u = u} {b = b} m g) o =
      let (j, l, e, p) = covered t h m (≺_trans u (u ++ (b ∷ [])) (at L q ++ (c ∷ [])) (≺_self u b) o) in
      let f : at L j ++ (b ∷ []) ≼ u ++ (b ∷ []) = ≼_snoc (at L j) u b p in
      let (k, i, d, r) = tried t j b (sooner j b (≼_≺ (at L j ++ (b ∷ [])) (u ++ (b ∷ [])) (at L q ++ (c ∷ [])) f o) l) l g in
      (k, i, d ∙ carries (at L j) u b e, ≼_trans (at L k) (at L j ++ (b ∷ [])) (u ++ (b ∷ [])) r f)
    where
      last : (b : ℕ) → at L q ++ (b ∷ []) ≺ at L q ++ (c ∷ []) → b < c
      last b a =
          elim (dec_lt b c) [
            | yes x ↦ x
            | no x ↦ elim (dec_lt c b) [
              | yes y ↦ absurd (≺_irrefl _ (≺_trans (at L q ++ (c ∷ [])) (at L q ++ (b ∷ [])) (at L q ++ (c ∷ [])) (≺_last (at L q) c b y) a))
              | no y ↦ (let s : b ≡ c = omega arith in absurd (≺_irrefl _ (rw s at a)))
            ]
          ]

      -- A line that comes before the one tried next, and extends a line found, was tried.
      sooner : (j b : ℕ) → at L j ++ (b ∷ []) ≺ at L q ++ (c ∷ []) → j < length L → Earlier j b q c
      sooner j b a l =
          elim (dec_lt j q) [
            | yes x ↦ inl x
            | no x ↦ elim (dec_lt q j) [
              | yes y ↦ absurd (≺_irrefl _ (≺_trans (at L q ++ (c ∷ [])) (at L j ++ (b ∷ [])) (at L q ++ (c ∷ [])) (≺_snoc (at L q) (at L j) c b (increasing t q j y l)) a))
              | no y ↦ (let s : j ≡ q = omega arith in inr (s, last b (rw s at a)))
            ]
          ]

  -- WHEN ALL IS TRIED, EVERY LINE IS COVERED.
  pub all_covered : {L : List (List ℕ)} → Trace stand n L (length L) 0 → {v : List ℕ} → Bytes n v → Covered L v
  all_covered {L} t nil = (0, (trace_size t).0, ap stand (trace_zero t), inl (trace_zero t))
  all_covered {L} t (snoc {u = u} {b = b} m g) =
      let (j, l, e, p) = all_covered t m in
      let (k, i, d, r) = tried t j b (inl l) l g in
      (k, i, d ∙ carries (at L j) u b e, ≼_trans (at L k) (at L j ++ (b ∷ [])) (u ++ (b ∷ [])) r (≼_snoc (at L j) u b p))

  -- A line found is the first with its standing.
  first_of : {L : List (List ℕ)} {q c : ℕ} → Trace stand n L q c → (v : List ℕ) → Covered L v → (k : ℕ) → k < length L → stand v ≡ stand (at L k) → at L k ≼ v
  first_of {L} t v (j, i, e, p) k l d =
      elim (dec_lt j k) [
        | yes a ↦ absurd (distinct t j k a l (e ∙ d))
        | no a ↦ elim (dec_lt k j) [
          | yes b ↦ absurd (distinct t k j b i (sym (e ∙ d)))
          | no b ↦ (let s : j ≡ k = omega arith in subst (λ m. at L m ≼ v) s p)
        ]
      ]

  -- A line that is covered and comes before a line found has the standing of an earlier one.
  earlier_of : {L : List (List ℕ)} {q c : ℕ} → Trace stand n L q c → (v : List ℕ) → Covered L v → (k : ℕ) → k < length L → v ≺ at L k → (j : ℕ) × (j < k) × (stand (at L j) ≡ stand v)
  earlier_of {L} t v (j, i, e, p) k l o = (j, go (≼_≺ (at L j) v (at L k) p o), e)
    where
      go : at L j ≺ at L k → j < k
      go a =
          elim (dec_lt j k) [
            | yes x ↦ x
            | no x ↦ elim (dec_lt k j) [
              | yes y ↦ absurd (≺_irrefl (at L k) (≺_trans (at L k) (at L j) (at L k) (increasing t k j y i) a))
              | no y ↦ (let s : j ≡ k = omega arith in absurd (≺_irrefl (at L k) (rw s at a)))
            ]
          ]

  pub trace_place : {L : List (List ℕ)} {q c : ℕ} → Trace stand n L q c → (q < length L) ⊎ ((q ≡ length L) × (c ≡ 0))
  trace_place begin = inl (omega arith)
  trace_place (known t h g k i e) = inl h
  trace_place (new {L = L} {q = q} {c = c} t h g e) = inl (omega (arith, snoc_size L (at L q ++ (c ∷ []))))
  trace_place (turn {L = L} {q = q} t h) = elim (dec_lt (suc q) (length L)) [ yes x ↦ inl x | no x ↦ inr (omega arith) ]

  -- EACH LINE BEFORE A LINE FOUND HAS THE STANDING OF AN EARLIER ONE: the line found is the first of the next distinct standing.
  pub in_order : {L : List (List ℕ)} {q c : ℕ} → Trace stand n L q c → (k : ℕ) → k < length L → (v : List ℕ) → Bytes n v → v ≺ at L k → (j : ℕ) × (j < k) × (stand (at L j) ≡ stand v)
  in_order {L} {q} {c} t k l v m o =
      either
      (λ h. earlier_of t v (covered t h m (≺_trans v (at L k) (at L q ++ (c ∷ [])) o (before_next t h (increasing t) k l))) k l o)
      (λ h. earlier_of t v (all_covered (subst (λ d. Trace stand n L d 0) h.0 (subst (λ d. Trace stand n L q d) h.1 t)) m) k l o)
      (trace_place t)

  -- The lines found are lines of bytes.
  pub trace_bytes : {L : List (List ℕ)} {q c : ℕ} → Trace stand n L q c → (k : ℕ) → k < length L → Below n (at L k)
  trace_bytes begin zero l = tt
  trace_bytes begin (suc k) l = absurd (omega arith)
  trace_bytes (known t h g m i e) k l = trace_bytes t k l
  trace_bytes (new {L = L} {q = q} {c = c} t h g e) k l =
      snoc_each L (at L q ++ (c ∷ [])) (λ m. Below n (at (L ++ ((at L q ++ (c ∷ [])) ∷ [])) m))
      (λ m o. rw (snoc_old L (at L q ++ (c ∷ [])) m o) (trace_bytes t m o))
      (rw (snoc_last L (at L q ++ (c ∷ []))) (below_snoc n (at L q) c (trace_bytes t q h) g))
      k l
  trace_bytes (turn t h) k l = trace_bytes t k l
