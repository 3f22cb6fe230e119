-- What the test finds of the pattern whose arrays are lent, and the area that it leaves.
-- Assumes nothing.
use mathlib.Core.Path.{◌≡◌, refl, sym, ap, ◌∙◌}
use mathlib.Core.Logic.{◌⊎◌, inl, inr}
use mathlib.Core.Bool.{Bool, true, false, not, ◌&&◌}
use mathlib.Core.List.{List, ◌++◌}
use Prim.Native.Nat.{ℕ, zero, suc, ◌+◌, ◌*◌, ◌≤◌, ◌<◌}
use native.Mathlib.Omega.{arith}
use lib.ListN.{length, get_or, take, drop, replicate, length-replicate, get_or-replicate, get_or-append}
use lib.Seq.{drop_at, length-take-le}
use lib.Dec.{eqb}
use lib.Bits.{bit_and}
use Rattle.theory.proofs.Tests.{either}
use Rattle.extends.specs.Extends.{NoneExtends}
use Rattle.extends.proofs.Pairs.{passes_none}
use Rattle.verdict.specs.Area.{area_bytes, cleared}
use Rattle.verdict.proofs.Area.{cleared_is, cleared_length}
use Rattle.facts.specs.Sets.{Endings}
use Rattle.pairs.specs.Rows.{number_at, row_at, Kept, MarkedBy, sharing}
use Rattle.pairs.specs.Leaves.{Shares, LiveLeaves}
use Rattle.pairs.specs.Steps.{Tells, Searches, Decides}
use Rattle.pairs.specs.Tested.{Ran}
use Rattle.pairs.proofs.Rows.{kept_none, kept_more}
use Rattle.pairs.proofs.Given.{of_lent, live_of, fails_empty_lem, passes_empty}
use Rattle.pairs.proofs.Searching.{searching_begin}

-- Zero bytes are the number 0.
number_zero : (s : List ℕ) (n i : ℕ) → ((j : ℕ) → j < i + n → get_or s j 0 ≡ 0) → number_at n s i ≡ 0
unfolding number_at
number_zero s zero i h = refl
number_zero s (suc n) i h = let e = h i (omega arith) in let k = number_zero s n (suc i) (λ j l. h j (omega arith)) in omega arith

-- For any number of bytes, so that no list of zeros is written out.
zero_byte : (n : ℕ) (t : List ℕ) (j : ℕ) → j < n → get_or (replicate n 0 ++ t) j 0 ≡ 0
zero_byte n t j h = get_or-append (replicate n 0) t 0 j (omega (arith, length-replicate {A = ℕ} n 0)) ∙ get_or-replicate n j 0 0 h

drop_zeros : (n : ℕ) (t : List ℕ) → drop n (replicate n 0 ++ t) ≡ t
drop_zeros n t = drop_at (replicate n 0) t n (length-replicate {A = ℕ} n 0)

-- What filling the first bytes with zeros leaves.
pub clear_is : (s u : List ℕ) → area_bytes ≤ length s → u ≡ replicate (length (take area_bytes s)) 0 → u ++ drop area_bytes s ≡ cleared s
clear_is s u h e = ap (λ v. v ++ drop area_bytes s) (e ∙ ap (λ n. replicate n 0) (length-take-le area_bytes s h)) ∙ sym (cleared_is s)

-- A cleared area has no pair, and keeps what it is to keep.
rows_cleared : (s : List ℕ) (k : ℕ) → k < 128 → row_at (cleared s) k ≡ 0
rows_cleared s k h = number_zero (cleared s) 8 (8 * k) λ j l. ap (λ t. get_or t j 0) (cleared_is s) ∙ zero_byte area_bytes (drop area_bytes s) j (omega arith)

kept_cleared : (s : List ℕ) → area_bytes ≤ length s → Kept s (cleared s)
kept_cleared s room = record { size = cleared_length s room; rest = ap (drop area_bytes) (cleared_is s) ∙ drop_zeros area_bytes (drop area_bytes s) }

-- An area that is kept so is cleared to the same.
cleared_kept : {s s' : List ℕ} → Kept s s' → cleared s' ≡ cleared s
cleared_kept {s} {s'} k = cleared_is s' ∙ ap (λ t. replicate area_bytes 0 ++ t) k.rest ∙ sym (cleared_is s)

module _ {masks sets ends shares s : List ℕ} {ending : ℕ} (shared : Shares masks shares) (endings : Endings ends ending) (live : ℕ) (lives : LiveLeaves shares sets ending live) where
  -- The empty string extends to a longer one,
  pub decides_empty : (eqb (get_or ends 0 0) 1 && not (eqb (bit_and (get_or sets 0 0) live) 0)) ≡ true → Decides masks sets ends s true s
  decides_empty e = record { kept = kept_none s; tells = λ lent. inl (fails_empty_lem lent live (live_of (of_lent lent shared endings) live lives) e) }

  -- or the pairs decide.
  pub decides_pairs : {s₁ s₂ : List ℕ} {waiting : ℕ} {found : Bool} → (eqb (get_or ends 0 0) 1 && not (eqb (bit_and (get_or sets 0 0) live) 0)) ≡ false → area_bytes ≤ length s
      → MarkedBy (sharing shares (get_or sets 0 0) (get_or sets 0 0)) (cleared s) 0 s₁ waiting → Searches shares sets ending live s₁ waiting s₂ found → Decides masks sets ends s found s₂
  decides_pairs {found = found} e room m x = record {
    kept = kept_more (kept_more (kept_cleared s room) m.kept) x.kept;
    tells = λ lent.
        let of = of_lent lent shared endings in
        let l = live_of of live lives in
        by_pairs _ _ found (x.tells of l (searching_begin of (rows_cleared s) m)) (passes_empty lent live l e);
  }
    where
      by_pairs : (A B : Type 0) (found : Bool) → Tells found B → (A → ⊥) → Tells found (A ⊎ B)
      by_pairs A B true t none = inr t
      by_pairs A B false t none = λ c. either none t c

-- What the pairs say is what the matched strings say.
module _ {masks sets ends s s₁ s' : List ℕ} (room : area_bytes ≤ length s) (clear : s' ≡ cleared s₁) where
  pub tested_fails : Decides masks sets ends s true s₁ → Ran masks sets ends s s' (λ r. NoneExtends r → ⊥)
  tested_fails d = record { room = room; area = clear ∙ cleared_kept d.kept; says = λ {r} lent none. (passes_none r lent.numbered).1 none (d.tells lent) }

  pub tested_passes : Decides masks sets ends s false s₁ → Ran masks sets ends s s' NoneExtends
  tested_passes d = record { room = room; area = clear ∙ cleared_kept d.kept; says = λ {r} lent. (passes_none r lent.numbered).0 (d.tells lent) }
