-- What is shown of a pattern (request 3): its byte groups by their numbers, and lines in readable bytes.
-- Assumes nothing.
use Rattle.std.specs.Prelude.{◌≡◌, ℕ, List, Option, Some, None, Result, Ok, Err}
use Rattle.grammar.specs.Loaded.{Answers}
use Rattle.grammar.specs.Refusals as Due
use Rattle.grammar.specs.WriteOut.{write_out}
use Rattle.groups.specs.declared.Groups.{Groups}
use Rattle.groups.specs.Numbers.{groups_of}
use Rattle.groups.specs.Readable.{readable}
use Rattle.reader.specs.declared.refusal.Refusal.{Refusal}
use Rattle.reader.specs.Numbers.{number_of}

-- The groups, or the refusal's number and place.
pub data Told : Type 0 where
  shown : Groups → Told
  refused : ℕ → ℕ → Told

-- What is handed out means.
abbrev pub told : Result Groups Refusal → Told
told (Ok g) = shown g
told (Err e) = refused (number_of e.fault) e.place

-- What is due by the grammar's answer, with the named sets that are loaded: the groups of an accepted pattern.
abbrev pub due : List ℕ → Due.Answer → Told
due loaded (Due.accepted t) = shown (groups_of (write_out loaded t))
due loaded (Due.refused n q) = refused n q

-- For the pattern p: what is handed out is due.
pub record Shows (loaded p : List ℕ) (x : Result Groups Refusal) : Type 0 where
  pub answer : Due.Answer
  pub right : Answers loaded p answer
  pub is : told x ≡ due loaded answer

-- A refusal's number and place, if it is one.
abbrev pub refusal_of : Result Unit Refusal → Option (ℕ × ℕ)
refusal_of (Ok x) = None
refusal_of (Err e) = Some (number_of e.fault, e.place)

-- A line that is read so, by the grammar's answer; that of a refused pattern is kept.
abbrev pub due_line : List ℕ → Due.Answer → List ℕ → Option (ℕ × ℕ) × List ℕ
due_line loaded (Due.accepted t) w = (None, readable (write_out loaded t) w)
due_line loaded (Due.refused n q) w = (Some (n, q), w)

-- For the pattern p and the line w: the refusal, and the line then, are those due.
pub record Rewrites (loaded p w : List ℕ) (x : Result Unit Refusal) (w' : List ℕ) : Type 0 where
  pub answer : Due.Answer
  pub right : Answers loaded p answer
  pub is : (refusal_of x, w') ≡ due_line loaded answer w
