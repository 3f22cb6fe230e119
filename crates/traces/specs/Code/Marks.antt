-- The rows in arrays: for the start and for each leaf the outcomes as numbers, each once, and for each outcome a mask of the fields on the most preferred way to it.
-- Assumes nothing.
use Rattle.std.specs.Prelude.{◌≡◌, ℕ, zero, suc, ◌+◌, ◌*◌, ◌≤◌, ◌<◌, cond, List, [], ◌∷◌, get_or, T, eqb}
use Rattle.theory.specs.Pattern.{Re, count}
use Rattle.theory.specs.Standing.{member}
use Rattle.words.specs.Sets.{has_bit}
use Rattle.traces.specs.Traces.{Carried, ends_at, wants}
use Rattle.traces.specs.Code.Rows.{start, follow}
use Rattle.traces.specs.Code.Pass.{Sets, neither, note, item, items}

-- The mask m has the fields of s: bit f for the opened field f + 1, and bit 8 + f for the closed one.
pub record Shows (m : ℕ) (s : Sets) : Type 0 where
  pub opens : (f : ℕ) → f < 8 → has_bit m f ≡ member (suc f) s.opens
  pub closes : (f : ℕ) → f < 8 → has_bit m (8 + f) ≡ member (suc f) s.closes

-- What the outcome q carries, the first time it comes.
abbrev pub carried_by : Carried Sets → Sets
carried_by (ends_at k s) = s
carried_by (wants p s) = s

abbrev pub sets_of : ℕ → List (Carried Sets) → Sets
sets_of q [] = neither
sets_of q (o ∷ l) = cond (eqb q (item o)) (carried_by o) (sets_of q l)

-- Row 0 is what the pattern begins with, and row p + 1 what follows its leaf p, with the fields opened and closed on each way.
abbrev pub row_sets : ℕ → Re → List (Carried Sets)
row_sets zero r = start note r 0 neither
row_sets (suc p) r = follow note r p 0 neither

-- The masks of the rows: row k begins at 65 k, and the outcome with the number q has the place q there.
abbrev pub Marks : Re → List ℕ → Type 0
Marks r marks = (k q : ℕ) → k ≤ count r → T (member q (items (row_sets k r))) → Shows (get_or marks (65 * k + q) 0) (sets_of q (row_sets k r))
