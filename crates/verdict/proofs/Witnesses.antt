-- The line of a record has no more bytes than records stand before it. So a witness is shorter than its records are many.
-- Assumes nothing.
use mathlib.Core.Path.{◌≡◌, refl, sym, ap, ◌∙◌, subst}
use mathlib.Core.Logic.{◌⊎◌, inl, inr}
use Prim.Native.Nat.{ℕ, zero, suc, ◌≤◌, ◌<◌}
use mathlib.Core.List.{List, [], ◌∷◌, ◌++◌}
use native.Mathlib.Omega.{arith}
use lib.ListN.{length}
use Rattle.theory.specs.Pattern.{Re, Numbered}
use Rattle.theory.specs.Standing.{standing}
use Rattle.theory.specs.Lines.{Below, ◌≺◌}
use Rattle.theory.specs.Records.{at, Records, Unlike}
use Rattle.theory.proofs.Lines.{size_snoc, ≺_snoc, ≺_total, below_snoc, below_left, below_right, snoc_size, snoc_last}
use Rattle.theory.proofs.Records.{carries}
use Rattle.verdict.proofs.Tables.{From, nothing, grown, from_where, snoc_after}

module _ (r : Re) (d : Numbered 0 r) {L : List (List ℕ)} (a : Records (standing r) L) where
  -- The line without its last byte is itself a record's: an earlier line of that standing would lead to an earlier line of this one's.
  module _ (k : ℕ) (l : k < length L) (u : List ℕ) (b : ℕ) (e : at L k ≡ u ++ (b ∷ [])) where
    whole : Below 256 (u ++ (b ∷ []))
    whole = subst (Below 256) e (a.bytes k l)

    same_line : (j : ℕ) → j < k → standing r (at L j) ≡ standing r u → (at L j ≺ u) ⊎ ((at L j ≡ u) ⊎ (u ≺ at L j)) → at L j ≡ u
    same_line j i s (inl o) =
        let (m, h, t) = a.before k l (at L j ++ (b ∷ [])) (below_snoc 256 (at L j) b (a.bytes j (omega arith)) (below_right 256 u (b ∷ []) whole).0) (subst (λ w. at L j ++ (b ∷ []) ≺ w) (sym e) (≺_snoc (at L j) u b b o)) in
        absurd (a.fresh m k h l (t ∙ carries r d (at L j) u b s ∙ ap (standing r) (sym e)))
    same_line j i s (inr (inl o)) = o
    same_line j i s (inr (inr o)) =
        let (m, h, t) = a.before j (omega arith) u (below_left 256 u (b ∷ []) whole) o in
        absurd (a.fresh m j h (omega arith) (t ∙ sym s))

    pub comes_from : (j : ℕ) × (j < k) × (at L j ≡ u)
    comes_from =
        let (j, i, s) = a.before k l u (below_left 256 u (b ∷ []) whole) (subst (λ w. u ≺ w) (sym e) (snoc_after u b)) in
        (j, i, same_line j i s (≺_total (at L j) u))

  lengths_to : (f k : ℕ) → k < f → k < length L → length (at L k) ≤ k
  lengths_to zero k i l = absurd (omega arith)
  lengths_to (suc f) k i l = go (λ j h. lengths_to f j (omega arith) (omega arith)) (at L k) refl (from_where (at L k))
    where
      go : ((j : ℕ) → j < k → length (at L j) ≤ j) → (w : List ℕ) → at L k ≡ w → From w → length w ≤ k
      go lower _ e nothing = omega arith
      go lower _ e (grown u b) = let (j, h, s) = comes_from k l u b e in omega (arith, size_snoc u b, ap length s, lower j h)

  -- A RECORD'S LINE IS NO LONGER THAN ITS NUMBER.
  pub line_length : (k : ℕ) → k < length L → length (at L k) ≤ k
  line_length k l = lengths_to (suc k) k (omega arith) l

-- A WITNESS IS SHORTER THAN ITS RECORDS ARE MANY.
pub witness_length : (r : Re) → Numbered 0 r → {L : List (List ℕ)} {w : List ℕ} → Unlike (standing r) L w → length w ≤ length L
witness_length r d {L} {w} c = subst (λ u. length u ≤ length L) (snoc_last L w) (line_length r d c.records (length L) (omega (arith, snoc_size L w)))
