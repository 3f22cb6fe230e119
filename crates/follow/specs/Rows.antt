-- The rows of the follow tables, and the pattern that they are of.
-- Assumes nothing.
use Rattle.std.specs.Prelude.{◌≡◌, ℕ, suc, ◌*◌, ◌≤◌, ◌<◌, true, false, List, get_or, take, drop}
use Rattle.theory.specs.Pattern.{Re, count, Numbered}
use Rattle.theory.specs.Standing.{member}
use Rattle.theory.specs.Code.Closure.{closure, closure_after}
use Rattle.traces.specs.Code.Marks.{Marks}
use Rattle.words.specs.Sets.{has_bit}
use Rattle.follow.specs.declared.Tables.{Tables}

-- Row k: the numbers of the outcomes in order, each once; 0 is the end, and one more than p is the wanted leaf p.
abbrev pub row : Tables → ℕ → List ℕ
row t k = take (get_or t.lens k 0) (drop (65 * k) t.rows)

-- The wanted leaves of a row as bits, and whether it has the end.
pub record Summed (t : Tables) (k : ℕ) : Type 0 where
  pub set : (q : ℕ) → q < 64 → has_bit (get_or t.sets k 0) q ≡ member (suc q) (row t k)
  pub end : get_or t.ends k 0 ≡ 1 → member 0 (row t k) ≡ true
  pub no_end : get_or t.ends k 0 ≡ 0 → member 0 (row t k) ≡ false
  pub flag : get_or t.ends k 0 ≤ 1

-- Row 0 is what the pattern can begin with, and row p + 1 what can follow its leaf p.
pub record Follows (r : Re) (t : Tables) : Type 0 where
  pub start : row t 0 ≡ closure r
  pub after : (p : ℕ) → p < count r → row t (suc p) ≡ closure_after r p
  pub summed : (k : ℕ) → k ≤ count r → Summed t k

-- Promised for a pattern whose leaves are numbered from 0, at most 64.
abbrev pub Right : Re → Tables → Type 0
Right r t = Numbered 0 r → count r ≤ 64 → Follows r t

-- The masks of fields.
abbrev pub Marked : Re → List ℕ → Type 0
Marked r marks = Numbered 0 r → count r ≤ 64 → Marks r marks
