-- All wanted leaves as bits, as the code joins them from the leaves that take a byte.
-- Assumes nothing.
use Rattle.std.specs.Prelude.{◌≡◌, ℕ, suc, ◌≤◌, Bool, false, ◌&&◌, ◌||◌, List, get_or, eqb}
use Rattle.theory.specs.Standing.{from}
use Rattle.theory.specs.Code.Members.{any}
use Rattle.words.specs.Sets.{has_bit}
use Rattle.standing.specs.declared.Wants.{Wants}

-- No bit from 64 on.
abbrev pub Small : ℕ → Type 0
Small x = (p : ℕ) → 64 ≤ p → has_bit x p ≡ false

-- The leaf p is in the set and takes the byte of the mask.
abbrev pub goes : ℕ → ℕ → ℕ → Bool
goes set mask p = has_bit set p && has_bit mask p

-- Whether the leaf p adds the leaf q, and whether it adds an end.
abbrev pub wants : (ℕ → Bool) → List ℕ → ℕ → ℕ → Bool
wants f sets q p = f p && has_bit (get_or sets (suc p) 0) q

abbrev pub ends : (ℕ → Bool) → List ℕ → ℕ → Bool
ends f flags p = f p && eqb (get_or flags (suc p) 0) 1

-- r is w with the row of the leaf p.
pub record Joined (sets flags : List ℕ) (w : Wants) (p : ℕ) (r : Wants) : Type 0 where
  pub all : (q : ℕ) → has_bit r.all q ≡ (has_bit w.all q || has_bit (get_or sets (suc p) 0) q)
  pub some : r.some ≡ (w.some || eqb (get_or flags (suc p) 0) 1)
  pub small : Small r.all

-- What the leaves below 64 add.
pub record Wanted (f : ℕ → Bool) (sets flags : List ℕ) (r : Wants) : Type 0 where
  pub all : (q : ℕ) → has_bit r.all q ≡ any (wants f sets q) (from 0 64)
  pub some : r.some ≡ any (ends f flags) (from 0 64)
  pub small : Small r.all
