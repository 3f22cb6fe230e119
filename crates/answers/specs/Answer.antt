-- What is printed for a pattern.
-- Assumes nothing.
use Rattle.std.specs.Prelude.{◌≡◌, Bool, true, false, ℕ, Result, List, [], ◌++◌, length}
use Rattle.grammar.specs.WriteOut.{write_out}
use Rattle.grammar.specs.Loaded.{Answers}
use Rattle.grammar.specs.Refusals as Due
use Rattle.verdict.specs.Area.{area_bytes}
use Rattle.groups.specs.Numbers.{groups_of}
use Rattle.lengths.specs.Lengths.{lengths}
use Rattle.lengths.specs.Code.{limit_of}
use Rattle.printing.specs.declared.Output.{Output}
use Rattle.printing.specs.Text.{Prints, RefusedLine, LookingText, LengthsText, Ahead, GroupsLine}
use Rattle.reader.specs.declared.refusal.Refusal.{Refusal}
use Rattle.checker.specs.declared.Verdict.{Verdict}
use Rattle.checker.specs.declared.Report.{Report}
use Rattle.checker.specs.Verdicts.{Checks}
use Rattle.checker.specs.Looking.{Reports}
use Rattle.answers.specs.declared.Buffers.{Buffers}
use Rattle.answers.specs.Line.{SpansLineOf, AnswerLine}

-- What a program lends for each pattern: paper 01's "65,536 bytes of table", request 7's "5,041 bytes of witness buffer", and an area that is long enough for request 8.
abbrev pub Lends : Buffers → Type 0
Lends x = (length x.table ≡ 65536) × (length x.witness ≡ 5041) × (length x.area ≡ area_bytes)

-- The text w is the line of the verdict that the papers give for the pattern p with the named sets that are loaded, with the spans of the witness and its readable form if they
-- are asked for. The buffers, which held x, hold y then.
pub record Judged (loaded : List ℕ) (spans : Bool) (x : Buffers) (p w : List ℕ) (y : Buffers) : Type 0 where
  pub lent : Lends x
  pub verdict : Result Verdict Refusal
  pub checks : Checks loaded p x.table x.witness x.area verdict y.table y.witness y.area
  pub line : AnswerLine loaded spans p verdict y.witness w

-- The text w says how much looking that took (request 4), and has the same line with the spans.
pub record Reported (loaded : List ℕ) (x : Buffers) (p w : List ℕ) (y : Buffers) : Type 0 where
  pub lent : Lends x
  pub report : Report
  pub reports : Reports loaded p x.table x.witness x.area report y.table y.witness y.area
  pub head : List ℕ
  pub looking : LookingText report.looking.looks report.looking.comparisons head
  pub rest : List ℕ
  pub line : SpansLineOf loaded p report.verdict y.witness rest
  pub text : w ≡ head ++ rest

-- Before that, for an accepted pattern, how long a match can be (request 6).
abbrev pub LengthsAhead : Due.Answer → List ℕ → Type 0
LengthsAhead (Due.accepted t) w = Ahead (LengthsText (lengths t).least (limit_of (lengths t).greatest)) w
LengthsAhead (Due.refused n q) w = w ≡ []

pub record Detailed (loaded : List ℕ) (x : Buffers) (p w : List ℕ) (y : Buffers) : Type 0 where
  pub answer : Due.Answer
  pub right : Answers loaded p answer
  pub head : List ℕ
  pub long : LengthsAhead answer head
  pub rest : List ℕ
  pub reported : Reported loaded x p rest y
  pub text : w ≡ head ++ rest

-- The text w has the number of each byte's group (request 3), by the grammar's answer, or the refusal.
abbrev pub GroupsText : List ℕ → Due.Answer → List ℕ → Type 0
GroupsText loaded (Due.accepted t) w = GroupsLine (groups_of (write_out loaded t)).group w
GroupsText loaded (Due.refused n q) w = RefusedLine n q w

pub record Listed (loaded p w : List ℕ) : Type 0 where
  pub answer : Due.Answer
  pub right : Answers loaded p answer
  pub line : GroupsText loaded answer w

-- What is asked for a pattern: the verdict; the same with the spans of the witness and its readable form; this with the looking; this with the lengths; or the groups.
pub data Asked : Type 0 where
  for_verdict : Asked
  for_spans : Asked
  for_looking : Asked
  for_details : Asked
  for_groups : Asked

-- The text w answers the pattern p. Groups leave the buffers as they are.
abbrev pub Answer : List ℕ → Asked → Buffers → List ℕ → List ℕ → Buffers → Type 0
Answer loaded for_verdict x p w y = Judged loaded false x p w y
Answer loaded for_spans x p w y = Judged loaded true x p w y
Answer loaded for_looking x p w y = Reported loaded x p w y
Answer loaded for_details x p w y = Detailed loaded x p w y
Answer loaded for_groups x p w y = Listed loaded p w × (y ≡ x)

-- The answer, of at most 20,417 bytes, is added to what waits.
abbrev pub Answered : List ℕ → Asked → Buffers → List ℕ → Buffers → Output → Output → Type 0
Answered loaded asked x p y o o' = Prints 20417 (λ w. Answer loaded asked x p w y) o o'
