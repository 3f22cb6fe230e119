-- Both spans of a line, as the code has them, are those of the definitions.
-- Assumes nothing.
use Rattle.std.specs.Prelude.{◌≡◌, ℕ, List, Option, Some, None}
use Rattle.theory.specs.Pattern.{Re}
use Rattle.theory.specs.Spans.{Span, nowhere, span, greedy, posix}
use Rattle.matchers.specs.Tables.{Tables, Ready}
use Rattle.matchers.specs.declared.Spans.{Spans}

-- Paper 01's greedy and POSIX span of what the code answers.
abbrev pub greedy_of : Option Spans → Span
greedy_of None = nowhere
greedy_of (Some s) = span s.start s.greedy

abbrev pub posix_of : Option Spans → Span
posix_of None = nowhere
posix_of (Some s) = span s.start s.posix

-- Both spans of the line w.
pub record Cut (r : Re) (w : List ℕ) (s : Option Spans) : Type 0 where
  pub greedily : greedy_of s ≡ greedy r w
  pub longest : posix_of s ≡ posix r w

-- The same for the pattern whose tables are lent.
pub record Cuts (t : Tables) (w : List ℕ) (s : Option Spans) : Type 0 where
  pub cut : {r : Re} → Ready r t → Cut r w s
