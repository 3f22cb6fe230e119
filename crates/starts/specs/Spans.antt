-- The POSIX span, as the code has it.
-- Assumes nothing.
use Rattle.std.specs.Prelude.{◌≡◌, ℕ, List, Option, None, Some}
use Rattle.theory.specs.Pattern.{Re}
use Rattle.theory.specs.Spans.{Span, nowhere, span, posix}
use Rattle.standing.specs.Stands.{arrays, Lent}
use Rattle.facts.specs.Moves.{Bytes}
use Rattle.facts.specs.Known.{Lists, Known}
use Rattle.starts.specs.declared.Span as Code

-- The span that the code has, or none.
abbrev pub span_of : Option Code.Span → Span
span_of None = nowhere
span_of (Some x) = span x.start x.end

-- It is the POSIX span of the line w, for the pattern whose arrays are lent with its facts.
pub record Found (masks sets ends : List ℕ) (f : Lists) (w : List ℕ) (b : Option Code.Span) : Type 0 where
  pub posix_is : {r : Re} {rows lens : List ℕ} → Lent r (arrays masks rows lens sets ends) → Known masks sets ends f → Bytes w → span_of b ≡ posix r w
