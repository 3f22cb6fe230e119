-- The line for a pattern.
-- Assumes nothing.
use Rattle.std.specs.Prelude.{ℕ, List}
use Rattle.theory.specs.Pattern.{count}
use Rattle.grammar.specs.Sets.{set_table}
use Rattle.grammar.specs.WriteOut.{write_out}
use Rattle.grammar.specs.Refusals.{Right}
use Rattle.grammar.specs.Refusals as Due
use Rattle.grammar.specs.Code.Tokens.{nodes}
use Rattle.lengths.specs.Lengths.{lengths}
use Rattle.lengths.specs.Code.{limit_of}
use Rattle.printing.specs.Text.{RefusedLine, AcceptedLine}

-- By the grammar's answer: the parts and leaves of the written-out pattern and how long a match can be, or the refusal. How many bytes the sets of its leaves hold together
-- is printed too, and is not promised.
abbrev pub ReadLine : Due.Answer → List ℕ → Type 0
ReadLine (Due.accepted t) w = (members : ℕ) × AcceptedLine (nodes (write_out set_table t)) (count (write_out set_table t)) members (lengths t).least (limit_of (lengths t).greatest) w
ReadLine (Due.refused n q) w = RefusedLine n q w

pub record Told (p w : List ℕ) : Type 0 where
  pub answer : Due.Answer
  pub right : Right p answer
  pub line : ReadLine answer w
