-- A lent area as rows of 64 bits, and the pairs of leaves that it holds.
-- Assumes nothing.
use Rattle.std.specs.Prelude.{◌≡◌, ℕ, zero, suc, ◌+◌, ◌*◌, ◌/◌, ◌%◌, ◌<◌, Bool, not, ◌&&◌, ◌||◌, List, [], ◌∷◌, length, get_or, drop, eqb, ltb}
use Rattle.std.proofs.lemmas.List.Edits.{sets}
use Rattle.verdict.specs.Area.{area_bytes}
use Rattle.words.specs.Sets.{has_bit}

-- The number of the n bytes from the place i on, the lowest first.
unfoldable pub number_at : ℕ → List ℕ → ℕ → ℕ
number_at zero s i = 0
number_at (suc n) s i = get_or s i 0 + 256 * number_at n s (suc i)

-- Row k.
abbrev pub row_at : List ℕ → ℕ → ℕ
row_at s k = number_at 8 s (8 * k)

-- The number x in n bytes, the lowest first.
unfoldable pub bytes_of : ℕ → ℕ → List ℕ
bytes_of zero x = []
bytes_of (suc n) x = (x % 256) ∷ bytes_of n (x / 256)

-- The area with the number x in row k.
abbrev pub put_row : List ℕ → ℕ → ℕ → List ℕ
put_row s k x = sets s (8 * k) (bytes_of 8 x)

-- The area's length, and what stands after the bytes that the test needs, stay.
pub record Kept (s s' : List ℕ) : Type 0 where
  pub size : length s' ≡ length s
  pub rest : drop area_bytes s' ≡ drop area_bytes s

-- The pair of the leaves p and q has the number 64 p + q. Bit q of row p: it is reached. Bit q of row 64 + p: it is pending.
abbrev pub reached : List ℕ → ℕ → Bool
reached s x = ltb x 4096 && has_bit (row_at s (x / 64)) (x % 64)

abbrev pub pending : List ℕ → ℕ → Bool
pending s x = ltb x 4096 && has_bit (row_at s (64 + x / 64)) (x % 64)

-- The leaves that have a pending pair.
abbrev pub Waits : List ℕ → ℕ → Type 0
Waits s waiting = (p : ℕ) → p < 64 → has_bit waiting p ≡ not (eqb (row_at s (64 + p)) 0)

-- The pairs f are marked: they are reached, and those that were not are pending.
pub record MarkedBy (f : ℕ → ℕ → Bool) (s : List ℕ) (waiting : ℕ) (s' : List ℕ) (waiting' : ℕ) : Type 0 where
  pub kept : Kept s s'
  pub reached : (p q : ℕ) → p < 64 → has_bit (row_at s' p) q ≡ (has_bit (row_at s p) q || f p q)
  pub pending : (p q : ℕ) → p < 64 → has_bit (row_at s' (64 + p)) q ≡ (has_bit (row_at s (64 + p)) q || (f p q && not (has_bit (row_at s p) q)))
  pub waits : Waits s waiting → Waits s' waiting'

-- The pairs of the leaf c with the leaves of a set.
abbrev pub with_each : ℕ → ℕ → ℕ → ℕ → Bool
with_each c set p q = eqb p c && has_bit set q

-- The pairs of a leaf of `from` and a leaf of `to` that share a byte.
abbrev pub sharing : List ℕ → ℕ → ℕ → ℕ → ℕ → Bool
sharing shares from to p q = has_bit from p && (has_bit to q && has_bit (get_or shares p 0) q)
