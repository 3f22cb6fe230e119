-- What the checker's private functions need and hand on.
-- Assumes nothing.
use Rattle.std.specs.Prelude.{◌≡◌, ℕ, ◌-◌, ◌≤◌, ◌<◌, List, length, Result, Ok, Err}
use Rattle.theory.specs.Pattern.{Re, count, Numbered}
use Rattle.grammar.specs.Grammar.{Alternation}
use Rattle.grammar.specs.Loaded.{Accepts}
use Rattle.grammar.specs.WriteOut.{write_out}
use Rattle.verdict.specs.Record.{form_of}
use Rattle.verdict.specs.Table.{slots, onto}
use Rattle.verdict.specs.Code.Found.{Found}
use Rattle.arrays.specs.declared.Pattern.{Pattern}
use Rattle.arrays.specs.Decoded.{decode}
use Rattle.arrays.specs.Finished.{HoldsPattern}
use Rattle.standing.specs.Stands.{Arrays, Lent}
use Rattle.search.specs.Looking.{Takes}
use Rattle.checker.specs.Origins.{Line}
use Rattle.checker.specs.Verdicts.{result_of}
use Rattle.checker.specs.Looking.{Reports}
use Rattle.checker.specs.declared.Verdict.{Verdict}
use Rattle.checker.specs.declared.Report.{Report}
use Rattle.checker.specs.declared.Verdict.TheVariants.{Unlike}
use Rattle.reader.specs.declared.refusal.Refusal.{Refusal}
use Rattle.reader.specs.declared.refusal.Fault.TheVariants.{WitnessTooLong}

-- The arrays are those of a pattern with at most 64 leaves, numbered from 0.
pub record Sound (x : Pattern) : Type 0 where
  pub numbered : Numbered 0 (decode x)
  pub most : count (decode x) ≤ 64
  pub holds : HoldsPattern x (decode x)

-- The last of the n records in the table t, of m bytes each, is the witness's: its line w goes to the buffer v, if it is not longer.
pub data Handed (m : ℕ) (t : List ℕ) (n : ℕ) (v : List ℕ) : Result Verdict Refusal → List ℕ → Type 0 where
  given : {w : List ℕ} → Line m t (n - 1) w → length w ≤ length v → Handed m t n v (Ok (Unlike n (length w))) (onto v w)
  too_long : {w : List ℕ} → Line m t (n - 1) w → length v < length w → Handed m t n v (Err (record { fault = WitnessTooLong; place = 0 })) v

-- What the records say, where the arrays of a pattern are lent and its records have m bytes.
pub record Recorded (a : Arrays) (m : ℕ) (t v : List ℕ) (y : Report) (t' v' : List ℕ) : Type 0 where
  pub found : {loaded p : List ℕ} {b : Alternation} → Accepts loaded p b → Lent (write_out loaded b) a → m ≡ (form_of (write_out loaded b)).bytes → Found loaded p t v (result_of y.verdict) t' v'
  pub looks : {r : Re} → Lent r a → m ≡ (form_of r).bytes → Takes r (slots (form_of r) (length t)) y.looking

-- The arrays are a pattern's, and its records have m bytes.
abbrev pub Known : Arrays → ℕ → Type 0
Known a m = (r : Re) × Lent r a × (m ≡ (form_of r).bytes)

-- What is decided by the arrays of a pattern that is read.
pub record Decides (x : Pattern) (t v s : List ℕ) (y : Report) (t' v' s' : List ℕ) : Type 0 where
  pub reports : {loaded p : List ℕ} {a : Alternation} → Accepts loaded p a → decode x ≡ write_out loaded a → Reports loaded p t v s y t' v' s'
