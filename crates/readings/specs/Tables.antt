-- The tables of a pattern.
-- Assumes nothing.
use Rattle.std.specs.Prelude.{ℕ, ◌≤◌, List, Result, Ok, Err}
use Rattle.theory.specs.Pattern.{count, Numbered}
use Rattle.grammar.specs.Grammar.{Alternation}
use Rattle.grammar.specs.Loaded.{Accepts, Refuses}
use Rattle.grammar.specs.WriteOut.{write_out}
use Rattle.arrays.specs.declared.Pattern.{Pattern}
use Rattle.arrays.specs.Decoded.{decode}
use Rattle.arrays.specs.Finished.{HoldsPattern}
use Rattle.matchers.specs.Tables.{tables, Ready}
use Rattle.matchers.specs.Tables as Matchers
use Rattle.reader.specs.declared.refusal.Refusal.{Refusal}
use Rattle.reader.specs.Numbers.{number_of}
use Rattle.readings.specs.declared.Tables.{Tables}

-- The lists that are lent of them for a line.
abbrev pub tables_in : Tables → Matchers.Tables
tables_in t = tables t.masks t.follow.rows t.follow.lens t.follow.sets t.follow.ends t.facts.next t.facts.hows

-- They are those of the pattern that the arrays are.
pub record FilledBy (x : Pattern) (t : Matchers.Tables) : Type 0 where
  pub ready : Numbered 0 (decode x) → count (decode x) ≤ 64 → HoldsPattern x (decode x) → Ready (decode x) t

-- The pattern is accepted, and the tables are its own; or it is refused, with the number and the place of its fault or of the table's of named sets.
pub data Prepared (loaded p : List ℕ) : Result Tables Refusal → Type 0 where
  ready : {t : Tables} {a : Alternation} → Accepts loaded p a → Ready (write_out loaded a) (tables_in t) → Prepared loaded p (Ok t)
  refused : {e : Refusal} → Refuses loaded p (number_of e.fault) e.place → Prepared loaded p (Err e)
