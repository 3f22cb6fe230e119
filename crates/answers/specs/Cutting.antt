-- What is printed for a witness, whatever it is, and what stands before a report.
-- Assumes nothing.
use Rattle.std.specs.Prelude.{◌≡◌, ℕ, Result, List}
use Rattle.theory.specs.Spans.{greedy, posix}
use Rattle.grammar.specs.Grammar.{Alternation}
use Rattle.grammar.specs.Loaded.{Accepts, Refuses}
use Rattle.grammar.specs.WriteOut.{write_out}
use Rattle.lengths.specs.Lengths.{lengths}
use Rattle.lengths.specs.Code.{limit_of}
use Rattle.printing.specs.declared.Output.{Output}
use Rattle.printing.specs.Text.{room, Prints, UnlikeLine, LengthsText, Ahead}
use Rattle.reader.specs.declared.refusal.Refusal.{Refusal}
use Rattle.screen.specs.Shows.{Rewrites}
use Rattle.checker.specs.declared.Verdict.{Verdict}
use Rattle.checker.specs.Verdicts.{Checks}
use Rattle.answers.specs.Line.{CutLine, SpansLineOf}

-- The line w becomes w' in readable bytes, if the pattern is one.
abbrev pub MadeReadable : List ℕ → List ℕ → List ℕ → List ℕ → Type 0
MadeReadable loaded p w w' = (x : Result (Unit {0}) Refusal) × Rewrites loaded p w x w'

-- The line w with both spans; or without, and then the pattern, if it is one, does not cut w differently.
pub data Shown (loaded p : List ℕ) (n : ℕ) (w text : List ℕ) : Type 0 where
  cut : CutLine loaded p n w text → Shown loaded p n w text
  uncut : ((a : Alternation) → Accepts loaded p a → greedy (write_out loaded a) w ≡ posix (write_out loaded a) w) → UnlikeLine n w text → Shown loaded p n w text

-- For the verdict on the pattern.
abbrev pub Explained : List ℕ → List ℕ → Result Verdict Refusal → List ℕ → Output → Output → Type 0
Explained loaded p x v o o' = (t u s t' s' : List ℕ) → Checks loaded p t u s x t' v s' → Prints (room (room 136 v) v) (SpansLineOf loaded p x v) o o'

-- What stands before a report: how long a match can be, if the pattern is not refused; else nothing.
pub data Begun (loaded p : List ℕ) (o o' : Output) : Type 0 where
  long : {t : Alternation} → Accepts loaded p t → Prints 57 (Ahead (LengthsText (lengths t).least (limit_of (lengths t).greatest))) o o' → Begun loaded p o o'
  unread : {k q : ℕ} → Refuses loaded p k q → o' ≡ o → Begun loaded p o o'
