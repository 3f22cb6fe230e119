-- Demand 2 in its words, over source 000's matching relation.
-- Assumes nothing.
use Rattle.std.specs.Prelude.{◌≡◌, ℕ, ◌≤◌, ◌<◌, List, length}
use Rattle.std.proofs.Math.Option.{some}
use Rattle.theory.specs.Pattern.{Re}
use Rattle.theory.specs.Outcomes.{outcomes}
use Rattle.theory.specs.Matching.{Matches}
use Rattle.theory.specs.Spans.{first_end}

-- "The leftmost start at which the pattern matches."
pub record LeftmostStart (r : Re) (w : List ℕ) (i : ℕ) : Type 0 where
  pub in_line : i ≤ length w
  pub matches : (j : ℕ) × Matches w r i j
  pub leftmost : (k j : ℕ) → k < i → Matches w r k j → ⊥

-- "POSIX takes the greatest end there."
pub record PosixTakes (r : Re) (w : List ℕ) (i j : ℕ) : Type 0 where
  pub start : LeftmostStart r w i
  pub end : Matches w r i j
  pub greatest : (k : ℕ) → Matches w r i k → k ≤ j

-- ".. greedy the first in the order of preference."
pub record GreedyTakes (r : Re) (w : List ℕ) (i j : ℕ) : Type 0 where
  pub start : LeftmostStart r w i
  pub end : Matches w r i j
  pub first : first_end (outcomes r w i) ≡ some j

-- "'None': no part of the line matches."
abbrev pub NoMatch : Re → List ℕ → Type 0
NoMatch r w = (i j : ℕ) → i ≤ length w → Matches w r i j → ⊥
