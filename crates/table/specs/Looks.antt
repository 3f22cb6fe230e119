-- The look through the records of a table, of w bytes each, and its comparisons (request 4 of paper 02).
-- Assumes nothing.
use Rattle.std.specs.Prelude.{ℕ, zero, suc, ◌-◌, Bool, cond, List, ◌++◌, length, get_or, eqb, ltb, leb, Option, None, Some, Ok, Err}
use Rattle.theory.specs.Standing.{from, filter}
use Rattle.table.specs.Slots.{slot_at}
use Rattle.table.specs.declared.Look.{Look}

-- The place of the first unequal byte of u and v among the n from place i on; i + n if there is none.
unfoldable pub first_unequal : ℕ → ℕ → List ℕ → List ℕ → ℕ
first_unequal zero i u v = i
first_unequal (suc n) i u v = cond (eqb (get_or u i 0) (get_or v i 0)) (first_unequal n (suc i) u v) i

-- "A comparison [ends] at the first unequal byte outside the origin fields", which are bytes 10 to 12: the place of that byte. w if there is none.
unfoldable pub comparison_end : ℕ → List ℕ → List ℕ → ℕ
comparison_end w u v = cond (ltb (first_unequal 10 0 u v) 10) (first_unequal 10 0 u v) (first_unequal (w - 13) 13 u v)

-- The same place as the code has it: there is none if all w bytes were looked at.
abbrev pub place_below : ℕ → ℕ → Option ℕ
place_below w i = cond (ltb i w) (Some i) None

-- How many bytes of each record a comparison looks at that ends at e: those of the places outside the origin fields, up to e.
unfoldable pub bytes_compared : ℕ → ℕ → ℕ
bytes_compared w e = length (filter (λ i. leb i e) (from 0 10 ++ from 13 (w - 13)))

-- Two records are "of the same standing": the comparison finds no unequal byte.
abbrev pub same_standing : ℕ → List ℕ → List ℕ → Bool
same_standing w u v = eqb (comparison_end w u v) w

-- "The look is to go upwards from record 0 and end at the first such record. [It] hands back how many records it compared: the found one's number plus 1, or all of
-- them if none has the standing." The look for v from record k on, where n are left; its number where none is found is the one that a further record gets.
unfoldable pub look_from : ℕ → List ℕ → List ℕ → ℕ → ℕ → Look
look_from w t v zero k = record { number = Err k; compared = k }
look_from w t v (suc n) k = cond (same_standing w (slot_at w t k) v) (record { number = Ok k; compared = suc k }) (look_from w t v n (suc k))

-- The look through n records.
abbrev pub look : ℕ → List ℕ → ℕ → List ℕ → Look
look w t n v = look_from w t v n 0
