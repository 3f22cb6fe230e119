-- The rows as the code makes and stores them.
-- Assumes nothing.
use Rattle.std.specs.Prelude.{◌≡◌, ℕ, zero, suc, ◌+◌, ◌*◌, ◌≤◌, ◌<◌, cond, List, length, get_or, set, leb}
use Rattle.std.specs.Int.{from_bool}
use Rattle.std.proofs.Math.Seq.{paste}
use Rattle.theory.specs.Pattern.{Re}
use Rattle.theory.specs.Code.Closure.{closure, closure_after}
use Rattle.traces.specs.Code.Marks.{row_sets}
use Rattle.grammar.specs.Code.Tokens.{max_parts}
use Rattle.arrays.specs.Decoded.{part}
use Rattle.arrays.specs.declared.Pattern.{Pattern}
use Rattle.follow.specs.declared.outcomes.Outcomes.{Outcomes}
use Rattle.follow.specs.declared.Part.{Part}
use Rattle.follow.specs.declared.Tables.{Tables}
use Rattle.follow.specs.Rows.{row}
use Rattle.follow.specs.Outcomes.{listed, Lists}

-- How many places the code goes by: none where the arrays have fewer than `len`.
abbrev pub places : List ℕ → ℕ → ℕ
places kinds len = cond (leb len (length kinds)) len 0

-- What belongs into row k of the pattern r.
abbrev pub row_of : ℕ → Re → List ℕ
row_of zero r = closure r
row_of (suc p) r = closure_after r p

-- p is the whole pattern x.
pub record IsWhole (x : Pattern) (p : Part) : Type 0 where
  pub kinds : p.kinds.now ≡ x.kinds
  pub sizes : p.sizes.now ≡ x.sizes
  pub low : p.low ≡ 0
  pub end : p.end ≡ places x.kinds x.len
  pub within : p.end ≤ max_parts

-- x is row k of the pattern at the places of p, which begin at 0, whatever its leaves' sets are.
pub record IsRow (p : Part) (k : ℕ) (x : Outcomes) : Type 0 where
  pub are : (masks : List ℕ) → listed x ≡ row_of k (part p.end p.kinds.now p.sizes.now masks 0 p.end)
  pub lists : (masks : List ℕ) → Lists x (row_sets k (part p.end p.kinds.now p.sizes.now masks 0 p.end))

pub record Long (t : Tables) : Type 0 where
  pub rows : length t.rows ≡ 4225
  pub lens : length t.lens ≡ 65
  pub sets : length t.sets ≡ 65
  pub ends : length t.ends ≡ 65

-- The tables u are t with the list x in row k.
pub record Stored (k : ℕ) (x : Outcomes) (t u : Tables) : Type 0 where
  pub rows : u.rows ≡ paste t.rows (65 * k) x.items x.len
  pub lens : u.lens ≡ set t.lens k x.len
  pub sets : u.sets ≡ set t.sets k x.set
  pub ends : u.ends ≡ set t.ends k (from_bool x.end)

-- Row k of the tables is the list x.
pub record HasRow (t : Tables) (k : ℕ) (x : Outcomes) : Type 0 where
  pub row : row t k ≡ listed x
  pub len : get_or t.lens k 0 ≡ x.len
  pub set : get_or t.sets k 0 ≡ x.set
  pub end : get_or t.ends k 0 ≡ from_bool x.end

-- The rows below n are those of the pattern p.
pub record Filled (p : Part) (n : ℕ) (t : Tables) : Type 0 where
  pub long : Long t
  pub rows : (k : ℕ) → k < n → (x : Outcomes) × IsRow p k x × HasRow t k x

-- The masks of the rows below n are those of the pattern p.
pub record FilledMarks (p : Part) (n : ℕ) (marks : List ℕ) : Type 0 where
  pub long : length marks ≡ 4225
  pub rows : (k : ℕ) → k < n → (x : Outcomes) × IsRow p k x × ((q : ℕ) → q ≤ 64 → get_or marks (65 * k + q) 0 ≡ get_or x.fields q 0)
