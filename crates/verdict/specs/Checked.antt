-- "The checker's result", with the content of table, witness buffer and area, for every pattern, with every table of named sets, and for table, buffer and area of any lengths.
-- Request 8 of paper 02: a test comes before the table is touched, and the records decide where it fails. Request 9: the named sets are those of the table that is loaded.
-- Assumes nothing.
use Rattle.std.specs.Prelude.{ℕ, ◌≤◌, ◌<◌, List, length}
use Rattle.theory.specs.Pattern.{Re}
use Rattle.theory.specs.Standing.{Standing, standing}
use Rattle.extends.specs.Extends.{NoneExtends}
use Rattle.grammar.specs.Grammar.{Alternation}
use Rattle.grammar.specs.Loaded.{Accepts, Refuses}
use Rattle.grammar.specs.WriteOut.{write_out}
use Rattle.verdict.specs.Record.{Form, form_of}
use Rattle.verdict.specs.Tabled.{alike, refused, Whole, whole, TabledBy}
use Rattle.verdict.specs.Area.{area_bytes, cleared}

-- The result with what table and witness buffer then hold, and what the area then holds, for the pattern p with the named sets that are loaded, the table t, the witness
-- buffer v and the area s.
pub data CheckedBy (form : Re → Form) (stand : Re → List ℕ → Standing) (loaded p t v s : List ℕ) : Whole → List ℕ → Type 0 where
  -- "A refused pattern goes no further than the reader": it leaves every byte. A table of named sets that fails "leaves every buffer unchanged", too.
  by_fault : {n q : ℕ} → Refuses loaded p n q → CheckedBy form stand loaded p t v s (whole (refused n q) t v) s
  -- "A lent area below 1,024 bytes is 13 at place 0, after the reader's refusals and before 10, with every buffer unchanged."
  by_area : {a : Alternation} → Accepts loaded p a → length s < area_bytes → CheckedBy form stand loaded p t v s (whole (refused 13 0) t v) s
  -- The test "passes exactly if no matched string" extends to a longer matched one; "if it passes, the verdict is alike with count 0 and the table keeps its bytes".
  by_test : {a : Alternation} → Accepts loaded p a → area_bytes ≤ length s → NoneExtends (write_out loaded a) → CheckedBy form stand loaded p t v s (whole (alike 0) t v) (cleared s)
  -- It fails: the records decide.
  by_table : {a : Alternation} {z : Whole} → Accepts loaded p a → area_bytes ≤ length s → (NoneExtends (write_out loaded a) → ⊥) → TabledBy form stand loaded p t v z → CheckedBy form stand loaded p t v s z (cleared s)

-- By request 7's records, and judged by the order of preference.
abbrev pub Checked : List ℕ → List ℕ → List ℕ → List ℕ → List ℕ → Whole → List ℕ → Type 0
Checked loaded p t v s z s' = CheckedBy form_of standing loaded p t v s z s'
