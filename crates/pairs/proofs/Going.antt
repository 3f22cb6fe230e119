-- The search on its way, for whatever pattern the arrays are of: how it begins, its turn, and its three ends.
-- Assumes nothing.
use mathlib.Core.Path.{◌≡◌}
use mathlib.Core.Logic.{◌↔◌}
use mathlib.Core.Bool.{true, false, not, ◌&&◌}
use mathlib.Core.List.{List}
use Prim.Native.Nat.{ℕ, suc, ◌+◌, ◌≤◌, ◌<◌}
use native.Mathlib.Omega.{arith}
use lib.ListN.{length, get_or}
use lib.Dec.{T, eqb}
use lib.Bits.{bit_and}
use Rattle.theory.specs.Pattern.{Re}
use Rattle.extends.specs.Code.Pairs.{Live}
use Rattle.words.specs.Sets.{has_bit, Parted}
use Rattle.facts.specs.Sets.{Wants}
use Rattle.pairs.specs.Rows.{row_at, put_row, Kept, MarkedBy, sharing}
use Rattle.pairs.specs.Steps.{Of, Searching, Searches}
use Rattle.pairs.proofs.Rows.{row_put, row_other, kept_row, kept_none, kept_more}
use Rattle.pairs.proofs.Marking.{Emptied}
use Rattle.pairs.proofs.Searching.{searching_done, searching_full, searching_fails, searching_turn}

-- Row 64 + p is emptied.
row_emptied : (s : List ℕ) (p : ℕ) → 1024 ≤ length s → p < 64 → Emptied p s (put_row s (64 + p) 0)
row_emptied s p long below = record { others = λ k l n. row_other s (64 + p) 0 k n; empty = row_put s (64 + p) 0 (omega arith) (omega arith) }

module _ (shares sets : List ℕ) (ending live : ℕ) (s₀ : List ℕ) (waiting₀ : ℕ) where
  -- From the area s₀ with the leaves waiting₀ the search came to s, and took d pairs at least.
  pub record Going (s : List ℕ) (waiting d : ℕ) : Type 0 where
    pub kept : Kept s₀ s
    pub goes : {r : Re} → Of r shares sets ending → ((p : ℕ) → T (has_bit live p) ↔ Live r p) → Searching r s₀ waiting₀ 0 → Searching r s waiting d

  pub going_begin : Going s₀ waiting₀ 0
  going_begin = record { kept = kept_none s₀; goes = λ of l g. g }

  module _ {s : List ℕ} {waiting d : ℕ} (going : Going s waiting d) where
    -- Nothing waits,
    pub going_done : waiting ≡ 0 → Searches shares sets ending live s₀ waiting₀ s false
    going_done e = record { kept = going.kept; tells = λ of l g. searching_done of (going.goes of l g) e }

    -- or all pairs are taken:
    pub going_full : 4096 ≤ d → Searches shares sets ending live s₀ waiting₀ s false
    going_full h = record { kept = going.kept; tells = λ of l g. searching_full of (going.goes of l g) h }

    -- the test passes.
    module _ {p rest to : ℕ} (parted : Parted waiting p rest) (wants : Wants sets (row_at s (64 + p)) to) where
      -- It fails at a pair of the row that is taken,
      pub going_fails : (has_bit ending p && not (eqb (bit_and to live) 0)) ≡ true → Searches shares sets ending live s₀ waiting₀ s true
      going_fails e = record { kept = going.kept; tells = λ of l g. searching_fails of (going.goes of l g) parted wants live l e }

      -- or the search goes on.
      pub going_turn : {s₂ : List ℕ} {waiting₂ : ℕ} → 1024 ≤ length s → row_at s (64 + p) < 18446744073709551616 → (has_bit ending p && not (eqb (bit_and to live) 0)) ≡ false
          → MarkedBy (sharing shares (get_or sets (suc p) 0) to) (put_row s (64 + p) 0) rest s₂ waiting₂ → Going s₂ waiting₂ (suc d)
      going_turn long small e m = record {
        kept = kept_more (kept_more going.kept (kept_row s (64 + p) 0 (omega (arith, parted.below)))) m.kept;
        goes = λ of l g. searching_turn of (going.goes of l g) parted wants live l small e (row_emptied s p long parted.below) m;
      }
