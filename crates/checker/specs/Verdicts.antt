-- The checker's verdict: paper 01's result of each case, and the promise.
-- Assumes nothing.
use Rattle.std.specs.Prelude.{ℕ, List, Ok, Err}
use Rattle.std.specs.Prelude.{Result as Outcome}
use Rattle.verdict.specs.Tabled.{Result, alike, unlike, refused, whole}
use Rattle.verdict.specs.Checked.{Checked}
use Rattle.reader.specs.declared.refusal.Refusal.{Refusal}
use Rattle.reader.specs.Numbers.{number_of}
use Rattle.checker.specs.declared.Verdict.{Verdict}
use Rattle.checker.specs.declared.Verdict.TheVariants.{Alike, Unlike}

-- "Alike with the record count, unlike with count and witness, or a refusal" with number and place. The witness is given by its length: it stands in the buffer.
abbrev pub result_of : Outcome Verdict Refusal → Result
result_of (Ok (Alike n)) = alike n
result_of (Ok (Unlike n k)) = unlike n k
result_of (Err e) = refused (number_of e.fault) e.place

-- For the pattern p with the named sets that are loaded, the table t, the witness buffer v and the area s: the verdict, and what table, buffer and area then hold, are those of
-- the papers.
abbrev pub Checks : List ℕ → List ℕ → List ℕ → List ℕ → List ℕ → Outcome Verdict Refusal → List ℕ → List ℕ → List ℕ → Type 0
Checks loaded p t v s x t' v' s' = Checked loaded p t v s (whole (result_of x) t' v') s'
