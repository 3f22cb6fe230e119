-- Request 10 of paper 02: what the records that are worked on have led to, and how many are worked on in all. L has the first lines of the records that a pattern needs, and w
-- is the first witness if there is one (`Needs`); m is the number of slots.
-- Assumes nothing.
use Rattle.std.specs.Prelude.{ℕ, suc, cond, List, [], ◌∷◌, length, ltb}
use Rattle.std.proofs.Math.Option.{Option, none, some}
use Rattle.theory.specs.Pattern.{Re}
use Rattle.theory.specs.Standing.{standing}
use Rattle.theory.specs.Records.{at}
use Rattle.verdict.specs.Table.{body, number_of}

-- The number of the record that the line u comes from by its last byte. The empty line comes from itself.
abbrev pub origin_of : Re → List (List ℕ) → List ℕ → ℕ
origin_of r L u = number_of (standing r) L (standing r (body u))

-- Of the lines M those that come from one of the first k records.
unfoldable pub coming_from : Re → List (List ℕ) → ℕ → List (List ℕ) → List (List ℕ)
coming_from r L k [] = []
coming_from r L k (u ∷ M) = cond (ltb (origin_of r L u) k) (u ∷ coming_from r L k M) (coming_from r L k M)

-- "Record 0 and what its worked records have led to": the first k are worked on. Where none is, there is not even record 0.
abbrev pub led_to : Re → List (List ℕ) → ℕ → List (List ℕ)
led_to r L k = coming_from r L k L

-- The line, if there is one, that ends the search: the line that there is no slot for, or the witness.
abbrev pub last_line : ℕ → List (List ℕ) → Option (List ℕ) → Option (List ℕ)
last_line m L w = cond (ltb m (length L)) (some (at L m)) w

-- The records up to the one that this line comes from; all of them if there is none.
abbrev pub worked_for : Re → List (List ℕ) → Option (List ℕ) → ℕ
worked_for r L none = length L
worked_for r L (some e) = suc (origin_of r L e)

-- How many records are worked on "to reach a verdict, 10 or 11". Without a slot none is.
unfoldable pub turns_due : Re → ℕ → List (List ℕ) → Option (List ℕ) → ℕ
turns_due r m L w = cond (ltb 0 m) (worked_for r L (last_line m L w)) 0
