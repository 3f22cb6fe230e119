-- The steps of reading a line and of the exchange.
-- Assumes nothing.
use Rattle.std.specs.Prelude.{◌≡◌, Bool, true, false, cond, ◌++◌, List, ℕ, ◌<◌, ◌==◌, Option, None, Some, position, take, drop}
use Rattle.lines.specs.declared.Chunk.{Chunk}
use Rattle.lines.specs.declared.Part.{Part}
use Rattle.lines.specs.declared.Place.{Place}
use Rattle.lines.specs.declared.Input.{Input}
use Rattle.lines.specs.Lines.{up_to, ended, past, kept, rest, held, begun, goes_on}
use Rattle.lines.specs.Exchange.{has_begun}

-- Where the first newline stands.
abbrev pub newline_in : List ℕ → Option ℕ
newline_in l = position (λ b. b == 10) l

-- More of a line is kept, of all of it the first 1,025 bytes.
pub record Kept (l : Part) (s : List ℕ) (w : Bool) (l' : Part) : Type 0 where
  pub bytes : held l' ≡ kept (begun l ++ s)
  pub whole : l'.whole ≡ w

-- No line is whole yet, and there may be a further one.
abbrev pub wants_line : Input → Bool
wants_line s = cond s.line.whole false (goes_on s)

-- Where the next line ends, if all of it stands in the chunk.
abbrev pub end_here : Input → Option ℕ
end_here s = cond (has_begun s.line) None (newline_in (rest s.chunk))

-- The bytes of the chunk from a place on.
abbrev pub from_place : Chunk → ℕ → List ℕ
from_place c at = drop at (take c.end c.bytes)

-- The bytes of a whole line that would be kept of it.
abbrev pub text_at : Input → Place → List ℕ
text_at s (Place.Chunk from n) = kept (take n (from_place s.chunk from))
text_at s Place.Kept = held s.line

-- The line ends in the chunk and stands at a place, or it goes on.
abbrev pub Stands : Input → Option Place → Input → Type 0
Stands s (Some p) r = (ended (rest s.chunk) ≡ true) × (text_at r p ≡ kept (begun s.line ++ up_to (rest s.chunk)))
Stands s None r = (ended (rest s.chunk) ≡ false) × (held r.line ≡ kept (begun s.line ++ up_to (rest s.chunk)))

-- A line is passed: what follows its newline is still to be read.
pub record PassLine (s : Input) (p : Option Place) (r : Input) : Type 0 where
  pub stands : Stands s p r
  pub whole : r.line.whole ≡ ended (rest s.chunk)
  pub left : rest r.chunk ≡ past (rest s.chunk)
  pub onward : s.chunk.at < s.chunk.end → s.chunk.at < r.chunk.at
  pub end : r.chunk.end ≡ s.chunk.end
  pub chunk : r.chunk.bytes ≡ s.chunk.bytes
  pub source : r.source ≡ s.source
