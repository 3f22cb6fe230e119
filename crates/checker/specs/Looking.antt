-- How much looking a check takes (request 4 of paper 02).
-- Assumes nothing.
use Rattle.std.specs.Prelude.{◌⊎◌, ℕ, ◌≤◌, ◌<◌, List, length, Result}
use Rattle.extends.specs.Extends.{NoneExtends}
use Rattle.grammar.specs.Grammar.{Alternation}
use Rattle.grammar.specs.Loaded.{Accepts, Refuses}
use Rattle.grammar.specs.WriteOut.{write_out}
use Rattle.verdict.specs.Record.{form_of}
use Rattle.verdict.specs.Table.{slots}
use Rattle.verdict.specs.Area.{area_bytes}
use Rattle.search.specs.declared.Looking.{Looking}
use Rattle.search.specs.Looking.{no_looking, Takes}
use Rattle.reader.specs.declared.refusal.Refusal.{Refusal}
use Rattle.checker.specs.declared.Verdict.{Verdict}
use Rattle.checker.specs.declared.Report.{Report}
use Rattle.checker.specs.Verdicts.{Checks}

-- What is said without a look through the records.
abbrev pub without_look : Result Verdict Refusal → Report
without_look x = record { verdict = x; looking = no_looking }

-- For the pattern p with the named sets that are loaded, the table t and the area s. "A refused pattern goes no further than the reader", and no record is looked for where
-- the area is too short or the test passes. Else it is what the search takes with the table's slots.
pub data LooksFor (loaded p t s : List ℕ) : Looking → Type 0 where
  unread : {n q : ℕ} → Refuses loaded p n q → LooksFor loaded p t s no_looking
  unsearched : {a : Alternation} → Accepts loaded p a → (length s < area_bytes) ⊎ NoneExtends (write_out loaded a) → LooksFor loaded p t s no_looking
  searched : {a : Alternation} {y : Looking} → Accepts loaded p a → area_bytes ≤ length s → (NoneExtends (write_out loaded a) → ⊥) → Takes (write_out loaded a) (slots (form_of (write_out loaded a)) (length t)) y → LooksFor loaded p t s y

-- The verdict with what table, buffer and area then hold, and the looking.
pub record Reports (loaded p t v s : List ℕ) (x : Report) (t' v' s' : List ℕ) : Type 0 where
  pub checks : Checks loaded p t v s x.verdict t' v' s'
  pub looks : LooksFor loaded p t s x.looking
