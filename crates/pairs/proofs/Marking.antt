-- The two sets of the search as bits of the area: pairs that are marked join both, a row of pending pairs that is emptied leaves the second.
-- A pair is a number below 4096, and each of the two sets is a test of such numbers: what is done to a row is an equation of its tests.
-- Assumes nothing.
use mathlib.Core.Path.{◌≡◌, refl, sym, ap, ◌∙◌, fun_ext, subst, subst⁻¹}
use mathlib.Core.Logic.{◌⊎◌, inl, inr, ◌↔◌}
use Prim.Native.Nat.{ℕ, ◌+◌, ◌/◌, ◌%◌, ◌<◌}
use mathlib.Core.Bool.{Bool, true, false, not, ◌&&◌, ◌||◌}
use mathlib.Core.List.{List}
use native.Mathlib.Omega.{arith}
use native.Mathlib.Decide.{ℕ_discrete}
use lib.Dec.{T, T_not, eqb, ltb, ltb→lt, lt→ltb}
use borrow.Author.Tests.{eq-eqb, ne_eqb}
use Rattle.theory.specs.Pattern.{Re}
use Rattle.theory.proofs.Tests.{same_test, or_left, or_right, or_cases, and_true, and_false, and_split, and_join, either}
use Rattle.extends.specs.Code.Closing.{Closing, Taken}
use Rattle.extends.proofs.Closing.{Adds, Drops, closing_mark, closing_owe, taken_mark}
use Rattle.words.specs.Sets.{has_bit, Parted}
use Rattle.words.proofs.Bits.{no_bit}
use Rattle.pairs.specs.Rows.{row_at, reached, pending, Waits, MarkedBy}
use Rattle.pairs.specs.Steps.{BeginsAt, StepsTo, FailsAt, Searching}

-- The numbers below 4096 that pass a test: one bit of each row, for the reached pairs and for the pending.
abbrev pub area : (ℕ → Bool) → ℕ → Bool
area a x = ltb x 4096 && a x

abbrev pub reached_bit : List ℕ → ℕ → Bool
reached_bit s x = has_bit (row_at s (x / 64)) (x % 64)

abbrev pub pending_bit : List ℕ → ℕ → Bool
pending_bit s x = has_bit (row_at s (64 + x / 64)) (x % 64)

pub in_area : (a : ℕ → Bool) (x : ℕ) → T (area a x) ↔ ((x < 4096) × T (a x))
in_area a x = (λ t. let (l, u) = and_split (ltb x 4096) (a x) t in (ltb→lt x 4096 l, u), λ (l, u). and_join (ltb x 4096) (a x) (lt→ltb x 4096 l) u)

area_same : (a b : ℕ → Bool) → ((x : ℕ) → x < 4096 → a x ≡ b x) → area a ≡ area b
area_same a b e = fun_ext λ x. same_test (area a x) (area b x)
    (λ t. let (l, u) = (in_area a x).0 t in (in_area b x).1 (l, subst T (e x l) u))
    (λ t. let (l, u) = (in_area b x).0 t in (in_area a x).1 (l, subst⁻¹ T (e x l) u))

module _ (a y a' : ℕ → Bool) where
  area_adds : ((x : ℕ) → x < 4096 → a' x ≡ (a x || y x)) → Adds (area a) (λ x. T (area y x)) (area a')
  area_adds e =
      record {
        old = λ x t. let (l, u) = (in_area a x).0 t in (in_area a' x).1 (l, subst⁻¹ T (e x l) (or_left (a x) (y x) u));
        new = λ x t. let (l, u) = (in_area y x).0 t in (in_area a' x).1 (l, subst⁻¹ T (e x l) (or_right (a x) (y x) u));
        cases = λ x t.
            let (l, u) = (in_area a' x).0 t in
            either (λ v. inl ((in_area a x).1 (l, v))) (λ v. inr ((in_area y x).1 (l, v))) (or_cases (a x) (y x) (subst T (e x l) u));
      }

  pub area_drops : ((x : ℕ) → x < 4096 → a' x ≡ (a x && not (y x))) → Drops (area a) (λ x. T (area a x) × T (y x)) (area a')
  area_drops e =
      record {
        old = λ x t. let (l, u, n) = left x t in (in_area a x).1 (l, u);
        gone = λ x (s, i) t. let (l, u, n) = left x t in n i;
        cases = λ x t.
            let (l, u) = (in_area a x).0 t in
            either (λ i. inl (t, i)) (λ v. inr ((in_area a' x).1 (l, subst⁻¹ T (e x l) v))) (part (a x) (y x) u);
      }
    where
      left : (x : ℕ) → T (area a' x) → (x < 4096) × T (a x) × (T (y x) → ⊥)
      left x t =
          let (l, u) = (in_area a' x).0 t in
          let (v, n) = and_split (a x) (not (y x)) (subst T (e x l) u) in
          (l, v, T_not (y x) n)

      part : (b c : Bool) → T b → T c ⊎ T (b && not c)
      part b true t = inl tt
      part b false t = inr (and_join b true t tt)

-- At each pair that was taken the test passes.
abbrev Passed : Re → List ℕ → Type 0
Passed r s = (x : ℕ) → T (reached s x) → (T (pending s x) → ⊥) → FailsAt r x → ⊥

-- The pairs that are owed are marked.
module _ {f : ℕ → ℕ → Bool} {s s' : List ℕ} {waiting waiting' : ℕ} (m : MarkedBy f s waiting s' waiting') where
  abbrev fresh : ℕ → Bool
  fresh x = f (x / 64) (x % 64) && not (reached_bit s x)

  adds_reached : Adds (reached s) (λ x. T (area fresh x)) (reached s')
  adds_reached = area_adds (reached_bit s) fresh (reached_bit s') λ x l. m.reached (x / 64) (x % 64) (omega arith) ∙ or_fresh (reached_bit s x) (f (x / 64) (x % 64))
    where
      or_fresh : (a b : Bool) → (a || b) ≡ (a || (b && not a))
      or_fresh true b = refl
      or_fresh false b = sym (and_true b)

  adds_pending : Adds (pending s) (λ x. T (area fresh x)) (pending s')
  adds_pending = area_adds (pending_bit s) fresh (pending_bit s') λ x l. m.pending (x / 64) (x % 64) (omega arith)

  is_fresh : (x : ℕ) → T (area fresh x) → (x < 4096) × T (f (x / 64) (x % 64)) × (T (reached s x) → ⊥)
  is_fresh x t =
      let (l, u) = (in_area fresh x).0 t in
      let (i, n) = and_split (f (x / 64) (x % 64)) (not (reached_bit s x)) u in
      (l, i, λ v. T_not (reached_bit s x) n ((in_area (reached_bit s) x).0 v).1)

  pub searching_mark : {r : Re} {d : ℕ} {O : ℕ → Type 0} → ((x : ℕ) → O x ↔ ((x < 4096) × T (f (x / 64) (x % 64)))) → Closing (BeginsAt r) (StepsTo r) (reached s) (pending s) O
      → Taken (reached s) (pending s) d → Waits s waiting → Passed r s → Searching r s' waiting' d
  searching_mark o c k w g =
      record {
        closing =
            closing_owe (closing_mark c (λ x t. let (l, i, n) = is_fresh x t in (o x).1 (l, i)) adds_reached adds_pending)
            (λ x h. let (l, i) = (o x).0 h in
            inl ((in_area (reached_bit s') x).1 (l, subst⁻¹ T (m.reached (x / 64) (x % 64) (omega arith)) (or_right (reached_bit s x) (f (x / 64) (x % 64)) i))))
            (λ x e. absurd e);
        taken = taken_mark k (λ x t. (is_fresh x t).2) adds_reached adds_pending;
        waits = m.waits w;
        passed = λ x t n. either (λ u. g x u (λ v. n (adds_pending.old x v))) (λ y. absurd (n (adds_pending.new x y))) (adds_reached.cases x t);
      }

-- The row p of pending pairs was emptied, and no other.
pub record Emptied (p : ℕ) (s s₁ : List ℕ) : Type 0 where
  pub others : (k : ℕ) → k < 128 → (k ≡ 64 + p → ⊥) → row_at s₁ k ≡ row_at s k
  pub empty : row_at s₁ (64 + p) ≡ 0

module _ {p : ℕ} {s s₁ : List ℕ} (e : Emptied p s s₁) where
  pub emptied_reached : reached s ≡ reached s₁
  emptied_reached = area_same (reached_bit s) (reached_bit s₁) λ x l. ap (λ n. has_bit n (x % 64)) (sym (e.others (x / 64) (omega arith) (λ i. omega arith)))

  -- A test of a row that an empty row does not pass.
  emptied_test : (f : ℕ → Bool) → f 0 ≡ false → (k : ℕ) → k < 64 → f (row_at s₁ (64 + k)) ≡ (f (row_at s (64 + k)) && not (eqb k p))
  emptied_test f z k h = go (ℕ_discrete k p)
    where
      go : Dec (k ≡ p) → f (row_at s₁ (64 + k)) ≡ (f (row_at s (64 + k)) && not (eqb k p))
      go (yes i) = rw (eq-eqb k p i, and_false (f (row_at s (64 + k)))) (ap (λ n. f (row_at s₁ (64 + n))) i ∙ ap f e.empty ∙ z)
      go (no n) = rw (ne_eqb k p n, and_true (f (row_at s (64 + k)))) (ap f (e.others (64 + k) (omega arith) (λ i. n (omega arith))))

  pub emptied_drops : Drops (pending s) (λ x. T (pending s x) × T (eqb (x / 64) p)) (pending s₁)
  emptied_drops = area_drops (pending_bit s) (λ x. eqb (x / 64) p) (pending_bit s₁) λ x l. emptied_test (λ n. has_bit n (x % 64)) (no_bit (x % 64)) (x / 64) (omega arith)

  pub emptied_waits : {waiting rest : ℕ} → Parted waiting p rest → Waits s waiting → Waits s₁ rest
  emptied_waits parted w k h = parted.others k ∙ ap (λ b. b && not (eqb k p)) (w k h) ∙ sym (emptied_test (λ n. not (eqb n 0)) refl k h)
