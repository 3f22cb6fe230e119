-- The line of a verdict: "fields: verdict, record count, witness in lower-case hex; or number, place" (paper 01, "The programs"). And the same with the spans of
-- the witness and its readable form (request 3).
-- Assumes nothing.
use Rattle.std.specs.Prelude.{◌≡◌, Bool, true, false, ℕ, Result, Ok, Err, List, take}
use Rattle.theory.specs.Spans.{span, greedy, posix}
use Rattle.grammar.specs.Grammar.{Alternation}
use Rattle.grammar.specs.Loaded.{Accepts}
use Rattle.grammar.specs.WriteOut.{write_out}
use Rattle.groups.specs.Readable.{readable}
use Rattle.printing.specs.Text.{AlikeLine, UnlikeLine, RefusedLine, ExplainedLine}
use Rattle.reader.specs.declared.refusal.Refusal.{Refusal}
use Rattle.reader.specs.Numbers.{number_of}
use Rattle.checker.specs.declared.Verdict.{Verdict}
use Rattle.checker.specs.declared.Verdict.TheVariants.{Alike, Unlike}

-- The verdict's line; the witness is the beginning of the buffer v.
abbrev pub LineOf : Result Verdict Refusal → List ℕ → List ℕ → Type 0
LineOf (Ok (Alike n)) v text = AlikeLine n text
LineOf (Ok (Unlike n k)) v text = UnlikeLine n (take k v) text
LineOf (Err e) v text = RefusedLine (number_of e.fault) e.place text

-- The verdict unlike on the pattern p, with both spans of the witness w, and w in readable bytes.
pub record CutLine (loaded p : List ℕ) (n : ℕ) (w text : List ℕ) : Type 0 where
  pub tree : Alternation
  pub reads : Accepts loaded p tree
  pub start : ℕ
  pub short : ℕ
  pub long : ℕ
  pub greedily : greedy (write_out loaded tree) w ≡ span start short
  pub longest : posix (write_out loaded tree) w ≡ span start long
  pub line : ExplainedLine n w start short long (readable (write_out loaded tree) w) text

-- The verdict's line on the pattern p, with the spans of the witness.
abbrev pub SpansLineOf : List ℕ → List ℕ → Result Verdict Refusal → List ℕ → List ℕ → Type 0
SpansLineOf loaded p (Ok (Alike n)) v text = AlikeLine n text
SpansLineOf loaded p (Ok (Unlike n k)) v text = CutLine loaded p n (take k v) text
SpansLineOf loaded p (Err e) v text = RefusedLine (number_of e.fault) e.place text

-- With the spans if they are asked for.
abbrev pub AnswerLine : List ℕ → Bool → List ℕ → Result Verdict Refusal → List ℕ → List ℕ → Type 0
AnswerLine loaded true p x v text = SpansLineOf loaded p x v text
AnswerLine loaded false p x v text = LineOf x v text
