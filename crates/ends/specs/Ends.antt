-- The ends from a known start.
-- Assumes nothing.
use Rattle.std.specs.Prelude.{◌≡◌, ℕ, List, Option, None, Some, drop}
use Rattle.std.proofs.Math.Option as Theory
use Rattle.std.proofs.Math.Option.{none, some}
use Rattle.theory.specs.Pattern.{Re, count}
use Rattle.theory.specs.Code.Passes.{farthest}
use Rattle.standing.specs.Stands.{Arrays, Lent}
use Rattle.facts.specs.Sets.{leaves_in}
use Rattle.facts.specs.Moves.{Bytes, Moves}
use Rattle.blocks.specs.Answer.{or_else, last_end}

-- The place that the code has, or none.
abbrev pub place_of : Option ℕ → Theory.Option ℕ
place_of None = none
place_of (Some i) = some i

-- The last end that the leaves of the number x lead to from the place i on, or else what is found before.
pub record Last (masks sets w : List ℕ) (ending i x : ℕ) (found e : Option ℕ) : Type 0 where
  pub last : {r : Re} → Moves r masks sets ending → Bytes w → place_of e ≡ or_else (last_end r (leaves_in (count r) x) (drop i w) i) (place_of found)

-- The greedy end from the start i: the last place where (b) holds.
pub record Ended (a : Arrays) (w : List ℕ) (i : ℕ) (e : Option ℕ) : Type 0 where
  pub last : {r : Re} → Lent r a → Bytes w → place_of e ≡ farthest r (λ s. s.first) (drop i w) i
