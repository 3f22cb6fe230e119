-- How much looking a search takes (request 4 of paper 02): how many looks, and how many records they compare in all.
-- Assumes nothing.
use Rattle.std.specs.Prelude.{ℕ, suc, ◌+◌, min, cond, List, [], ◌∷◌, ◌++◌, map, length, ltb}
use Rattle.std.proofs.Math.Option.{Option, none, some}
use Rattle.theory.specs.Pattern.{Re}
use Rattle.theory.specs.Standing.{standing}
use Rattle.theory.specs.Records.{at, Needs}
use Rattle.verdict.specs.Table.{same_list, number_of}
use Rattle.groups.specs.Numbers.{shares, lowest_bytes}
use Rattle.search.specs.declared.Looking.{Looking}

-- "How many records it compared: the found one's number plus 1, or all of them if none has the standing." The look for the standing of the line w, through the
-- records whose first lines are M.
abbrev pub compared : Re → List (List ℕ) → List ℕ → ℕ
compared r M w = min (suc (number_of (standing r) M (standing r w))) (length M)

-- The records after it: there is one of that standing now.
abbrev pub recorded : Re → List (List ℕ) → List ℕ → List (List ℕ)
recorded r M w = cond (ltb (number_of (standing r) M (standing r w)) (length M)) M (M ++ (w ∷ []))

-- The records compared in the looks for the lines W in turn.
unfoldable pub comparisons : Re → List (List ℕ) → List (List ℕ) → ℕ
comparisons r M [] = 0
comparisons r M (w ∷ W) = compared r M w + comparisons r (recorded r M w) W

-- The lines that the bytes C make of the line u, and of the lines L in turn.
abbrev pub carried_by : List ℕ → List ℕ → List (List ℕ)
carried_by C u = map (λ c. u ++ (c ∷ [])) C

unfoldable pub carried : List ℕ → List (List ℕ) → List (List ℕ)
carried C [] = []
carried C (u ∷ L) = carried_by C u ++ carried C L

-- The lines of W up to the line e, and this.
unfoldable pub up_to : List ℕ → List (List ℕ) → List (List ℕ)
up_to e [] = []
up_to e (w ∷ W) = w ∷ cond (same_list w e) [] (up_to e W)

-- The line, if there is one, that ends the search with m slots, where L has the first lines of the records that the pattern needs and w is the first witness if there
-- is one: the line that there is no slot for, or the witness.
abbrev pub last_line : ℕ → List (List ℕ) → Option (List ℕ) → Option (List ℕ)
last_line m L w = cond (ltb m (length L)) (some (at L m)) w

-- The lines of W up to that line; all of them if there is none.
abbrev pub until : Option (List ℕ) → List (List ℕ) → List (List ℕ)
until none W = W
until (some e) W = up_to e W

-- The lines that are looked for: each record's line carried on by the lowest byte of each group, up to the line that ends the search. Without a slot there is no look.
abbrev pub looked_for : Re → ℕ → List (List ℕ) → Option (List ℕ) → List (List ℕ)
looked_for r m L w = cond (ltb 0 m) (until (last_line m L w) (carried (lowest_bytes (shares r)) L)) []

-- A number, or the greatest of 64 bits if it is above that.
abbrev pub saturated : ℕ → ℕ
saturated n = min n 18446744073709551615

-- There is no look.
abbrev pub no_looking : Looking
no_looking = record { looks = 0; comparisons = 0 }

-- What the looks for the lines W take, where the empty line's record is there at first.
abbrev pub looking_for : Re → List (List ℕ) → Looking
looking_for r W = record { looks = saturated (length W); comparisons = saturated (comparisons r ([] ∷ []) W) }

-- The looking that a search of the pattern r with m slots takes.
pub data Takes (r : Re) (m : ℕ) : Looking → Type 0 where
  takes : {L : List (List ℕ)} {w : Option (List ℕ)} → Needs (standing r) L w → Takes r m (looking_for r (looked_for r m L w))
