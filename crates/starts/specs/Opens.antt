-- The pass that keeps all leaves that any start wants as one set.
-- Assumes nothing.
use Rattle.std.specs.Prelude.{◌≡◌, ℕ, ◌≤◌, ◌<◌, List, length, get_or, drop, Option, None, Some}
use Rattle.std.specs.Int.Bits.{bit_and}
use Rattle.theory.specs.Pattern.{Re}
use Rattle.theory.specs.Spans.{Span, nowhere}
use Rattle.seeking.specs.declared.How.{How}
use Rattle.seeking.specs.Hows.{Finds}
use Rattle.facts.specs.Sets.{Nexts}
use Rattle.facts.specs.Moves.{Bytes, Moves}
use Rattle.blocks.specs.Answer.{later}

-- If r is none, no byte from the place i on can end a match.
pub record Watched (masks w : List ℕ) (ending : ℕ) (closes : How) (i : ℕ) (r : Option ℕ) : Type 0 where
  pub none : r ≡ None → Finds masks ending closes → Bytes w → (k : ℕ) → i ≤ k → k < length w → bit_and ending (get_or masks (get_or w k 0) 0) ≡ 0

-- What is found from a place on, or nothing.
abbrev pub later_from : Re → List ℕ → Option ℕ → Span
later_from r w None = nowhere
later_from r w (Some i) = later r (drop i w) i

-- What is found from the place e on is what is found in the whole line.
pub record Opened (masks sets next : List ℕ) (begins closes : How) (w : List ℕ) (e : Option ℕ) : Type 0 where
  pub opens : {r : Re} → Moves r masks sets (get_or next 256 0) → Nexts masks sets next → Finds masks (get_or sets 0 0) begins → Finds masks (get_or next 256 0) closes → Bytes w
      → later_from r w e ≡ later r w 0
