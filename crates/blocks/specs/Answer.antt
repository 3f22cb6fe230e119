-- What a set of leaves, a new start and a state of the pass will find in the rest of the line.
-- Assumes nothing.
use Rattle.std.specs.Prelude.{ℕ, suc, cond, List, [], ◌∷◌}
use Rattle.std.proofs.Math.Option.{Option, none, some}
use Rattle.theory.specs.Pattern.{Re}
use Rattle.theory.specs.Spans.{Span, nowhere, span, span_or}
use Rattle.theory.specs.Standing.{wanted, set_of}
use Rattle.theory.specs.Code.Follow.{has_end}
use Rattle.theory.specs.Code.Next.{afters}
use Rattle.blocks.specs.Blocks.{Block, State, firsts}

-- The first of two places.
abbrev pub or_else : Option ℕ → Option ℕ → Option ℕ
or_else none o = o
or_else (some k) o = some k

-- The last end that the leaves of a set lead to, over the rest of the line from the place j on.
unfoldable pub last_end : Re → List ℕ → List ℕ → ℕ → Option ℕ
last_end r l [] j = none
last_end r l (b ∷ rest) j = or_else (last_end r (set_of r (wanted (afters r b l))) rest (suc j)) (cond (has_end (afters r b l)) (some (suc j)) none)

-- The first block that leads to an end, or else s.
abbrev pub first_of : Re → List ℕ → ℕ → List Block → Span → Span
first_of r rest j [] s = s
first_of r rest j (x ∷ l) s = span_or x.from (last_end r x.leaves rest j) (first_of r rest j l s)

-- The first start from the place j on that has an end further on.
unfoldable pub later : Re → List ℕ → ℕ → Span
later r [] j = nowhere
later r (b ∷ rest) j = span_or j (last_end r (firsts r) (b ∷ rest) j) (later r rest (suc j))

-- What is found, or else what may still open.
abbrev pub unless : Re → List ℕ → ℕ → Span → Span
unless r rest j nowhere = later r rest j
unless r rest j (span i k) = span i k

-- What a state will answer.
abbrev pub answer : Re → List ℕ → ℕ → State → Span
answer r rest j s = first_of r rest j s.blocks (unless r rest j s.best)
