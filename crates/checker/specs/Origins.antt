-- The line of a record, read back along the origin fields of the table, whose records have m bytes.
-- Assumes nothing.
use Rattle.std.specs.Prelude.{ℕ, ◌<◌, ◌≤◌, ◌≡◌, List, [], ◌∷◌, ◌++◌, length}
use Rattle.verdict.specs.Table.{onto}
use Rattle.table.specs.Slots.{origin_at, byte_at}

-- Record 0's line is empty; that of another is the line of the record that it comes from, and the byte.
pub data Line (m : ℕ) (t : List ℕ) : ℕ → List ℕ → Type 0 where
  empty : Line m t 0 []
  grown : {k : ℕ} {w : List ℕ} → 0 < k → origin_at m t k < k → Line m t (origin_at m t k) w → Line m t k (w ++ (byte_at m t k ∷ []))

-- Record k has a line.
abbrev pub Lined : ℕ → List ℕ → ℕ → Type 0
Lined m t k = (w : List ℕ) × Line m t k w

-- Its length is n.
abbrev pub Length : ℕ → List ℕ → ℕ → ℕ → Type 0
Length m t k n = (w : List ℕ) → Line m t k w → n ≡ length w

-- Its length is n, and the buffer v has room for it.
pub record Fits (m : ℕ) (t : List ℕ) (k n : ℕ) (v : List ℕ) : Type 0 where
  pub lined : Lined m t k
  pub size : Length m t k n
  pub room : n ≤ length v

-- It is written at the start of the buffer, the rest kept.
abbrev pub Written : ℕ → List ℕ → ℕ → List ℕ → List ℕ → Type 0
Written m t k v v' = (w : List ℕ) → Line m t k w → v' ≡ onto v w
