-- Starts, the two ends and the two spans of a line, and the lines that are cut differently (paper 01, "The order of preference").
-- Assumes nothing.
use Rattle.std.specs.Prelude.{◌≢◌, ℕ, zero, suc, max, List, [], ◌∷◌, length}
use Rattle.std.proofs.Math.Option.{Option, none, some}
use Rattle.theory.specs.Pattern.{Re}
use Rattle.theory.specs.Outcomes.{Outcome, ends_at, wants, Lists, outcomes}

-- "The greedy end is the first in the list."
abbrev pub first_end : List (Outcome ℕ) → Option ℕ
first_end [] = none
first_end (ends_at k ∷ l) = some k
first_end (wants p ∷ l) = first_end l

abbrev pub larger : ℕ → Option ℕ → ℕ
larger k none = k
larger k (some m) = max k m

-- ".. the POSIX end the greatest."
abbrev pub greatest_end : List (Outcome ℕ) → Option ℕ
greatest_end [] = none
greatest_end (ends_at k ∷ l) = some (larger k (greatest_end l))
greatest_end (wants p ∷ l) = greatest_end l

-- A "span", or neither for "a line without a start".
pub data Span : Type 0 where
  nowhere : Span
  span : ℕ → ℕ → Span
  deriving Discrete as Span-discrete

abbrev pub span_or : ℕ → Option ℕ → Span → Span
span_or i none s = s
span_or i (some k) s = span i k

-- "Taken at the leftmost start": of d places from i on, the first that has an end e, with that end.
abbrev pub leftmost : (ℕ → Option ℕ) → ℕ → ℕ → Span
leftmost e zero i = nowhere
leftmost e (suc d) i = span_or i (e i) (leftmost e d (suc i))

-- The "greedy span", judged by the lists l. "Starts run from 0 to the line's length, that included."
abbrev pub greedy_by : Lists → Re → List ℕ → Span
greedy_by l r w = leftmost (λ i. first_end (l r w i)) (suc (length w)) 0

-- The "POSIX span".
abbrev pub posix_by : Lists → Re → List ℕ → Span
posix_by l r w = leftmost (λ i. greatest_end (l r w i)) (suc (length w)) 0

-- Both, judged by the order of preference.
unfoldable pub greedy : Re → List ℕ → Span
greedy r w = greedy_by outcomes r w

unfoldable pub posix : Re → List ℕ → Span
posix r w = posix_by outcomes r w

-- "A line is cut differently if its two spans differ."
abbrev pub CutDifferently : Re → List ℕ → Type 0
CutDifferently r w = greedy r w ≢ posix r w
