-- Request 10 of paper 02: how the check of the pattern p stands after so many turns, with the named sets that are loaded, and what its part of the table and of the witness buffer
-- then hold. At first they held t and v; s is the area before the test.
-- Assumes nothing.
use Rattle.std.specs.Prelude.{◌⊎◌, ℕ, ◌≤◌, ◌<◌, List, length}
use Rattle.std.proofs.Math.Option.{Option}
use Rattle.theory.specs.Standing.{standing}
use Rattle.theory.specs.Records.{Needs}
use Rattle.extends.specs.Extends.{NoneExtends}
use Rattle.grammar.specs.Grammar.{Alternation}
use Rattle.grammar.specs.Loaded.{Accepts, Refuses}
use Rattle.grammar.specs.WriteOut.{write_out}
use Rattle.verdict.specs.Record.{form_of}
use Rattle.verdict.specs.Table.{records_of, slots, onto}
use Rattle.verdict.specs.Tabled.{Result, whole}
use Rattle.verdict.specs.Area.{area_bytes}
use Rattle.verdict.specs.Checked.{Checked}
use Rattle.turns.specs.Worked.{led_to, turns_due}

-- So many records, of which so many are worked on; or the result.
pub data Phase : Type 0 where
  undecided : ℕ → ℕ → Phase
  decided : Result → Phase

-- How many turns it gets in n bytes of table: "Patterns refused, settled without a table, or whose part has no slot get no turn", nor does one where the area is too short.
pub data Due (loaded p s : List ℕ) (n : ℕ) : ℕ → Type 0 where
  unread : {k q : ℕ} → Refuses loaded p k q → Due loaded p s n 0
  unsearched : {a : Alternation} → Accepts loaded p a → (length s < area_bytes) ⊎ NoneExtends (write_out loaded a) → Due loaded p s n 0
  searched : {a : Alternation} {L : List (List ℕ)} {w : Option (List ℕ)} → Accepts loaded p a → area_bytes ≤ length s → (NoneExtends (write_out loaded a) → ⊥) → Needs (standing (write_out loaded a)) L w
      → Due loaded p s n (turns_due (write_out loaded a) (slots (form_of (write_out loaded a)) n) L w)

-- After k turns. Before the last, the part of the table "holds exactly record 0 and what its worked records have led to"; "verdicts and records are those each pattern would get
-- alone in its part".
pub data After (loaded p t v s : List ℕ) : ℕ → Phase → List ℕ → List ℕ → Type 0 where
  going : {a : Alternation} {L : List (List ℕ)} {w : Option (List ℕ)} {k : ℕ} → Accepts loaded p a → area_bytes ≤ length s → (NoneExtends (write_out loaded a) → ⊥)
      → Needs (standing (write_out loaded a)) L w → k < turns_due (write_out loaded a) (slots (form_of (write_out loaded a)) (length t)) L w
      → After loaded p t v s k (undecided (length (led_to (write_out loaded a) L k)) k) (onto t (records_of (form_of (write_out loaded a)) (standing (write_out loaded a)) L (led_to (write_out loaded a) L k))) v
  done : {k : ℕ} {z : Result} {t' v' s' : List ℕ} → Due loaded p s (length t) k → Checked loaded p t v s (whole z t' v') s' → After loaded p t v s k (decided z) t' v'
