-- The right answer, case by case, as a search finds it: `Tabled loaded p t v (whole x t' v')` exactly if `Found loaded p t v x t' v'` (`tabled_exactly`).
-- Assumes nothing.
use Rattle.std.specs.Prelude.{◌≡◌, ℕ, suc, ◌≤◌, ◌<◌, List, [], ◌∷◌, ◌++◌, length}
use Rattle.theory.specs.Standing.{standing}
use Rattle.theory.specs.Records.{Alike, Unlike}
use Rattle.theory.specs.Code.Search.{Full}
use Rattle.grammar.specs.Grammar.{Alternation}
use Rattle.grammar.specs.Loaded.{Accepts, Refuses}
use Rattle.grammar.specs.WriteOut.{write_out}
use Rattle.verdict.specs.Record.{form_of}
use Rattle.verdict.specs.Tabled.{Result, alike, unlike, refused}
use Rattle.verdict.specs.Table.{records, slots, onto}

pub data Found (loaded p t v : List ℕ) (x : Result) (t' v' : List ℕ) : Type 0 where
  -- 1 to 8, 14: a refused pattern goes no further than the reader.
  not_read : {n q : ℕ} → Refuses loaded p n q → x ≡ refused n q → t' ≡ t → v' ≡ v → Found loaded p t v x t' v'
  -- L has the first lines of all records, and no witness is among them.
  same_cuts : {a : Alternation} {L : List (List ℕ)} → Accepts loaded p a → Alike (standing (write_out loaded a)) L → length L ≤ slots (form_of (write_out loaded a)) (length t)
      → x ≡ alike (length L) → t' ≡ onto t (records (form_of (write_out loaded a)) (standing (write_out loaded a)) L) → v' ≡ v → Found loaded p t v x t' v'
  -- w is the first witness, and its record is the last.
  first_witness : {a : Alternation} {L : List (List ℕ)} {w : List ℕ} → Accepts loaded p a → Unlike (standing (write_out loaded a)) L w → length L < slots (form_of (write_out loaded a)) (length t) → length w ≤ length v
      → x ≡ unlike (suc (length L)) (length w) → t' ≡ onto t (records (form_of (write_out loaded a)) (standing (write_out loaded a)) (L ++ (w ∷ []))) → v' ≡ onto v w → Found loaded p t v x t' v'
  -- 10: L has the first lines of as many records as there are slots, no witness is among them, and there are more records.
  no_slot : {a : Alternation} {L : List (List ℕ)} → Accepts loaded p a → Full (write_out loaded a) L → length L ≡ slots (form_of (write_out loaded a)) (length t)
      → x ≡ refused 10 0 → t' ≡ onto t (records (form_of (write_out loaded a)) (standing (write_out loaded a)) L) → v' ≡ v → Found loaded p t v x t' v'
  -- 11: no 10, but the witness is longer than its buffer.
  no_room : {a : Alternation} {L : List (List ℕ)} {w : List ℕ} → Accepts loaded p a → Unlike (standing (write_out loaded a)) L w → length L < slots (form_of (write_out loaded a)) (length t) → length v < length w
      → x ≡ refused 11 0 → t' ≡ onto t (records (form_of (write_out loaded a)) (standing (write_out loaded a)) (L ++ (w ∷ []))) → v' ≡ v → Found loaded p t v x t' v'
