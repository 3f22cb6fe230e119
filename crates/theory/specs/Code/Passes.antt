-- One pass forward over a line, from a known start.
-- Assumes nothing.
use Rattle.std.specs.Prelude.{ℕ, suc, Bool, cond, List, [], ◌∷◌}
use Rattle.std.proofs.Math.Option.{Option, none, some}
use Rattle.theory.specs.Pattern.{Re}
use Rattle.theory.specs.Standing.{Standing, standing}
use Rattle.theory.specs.Code.Next.{next}

-- Forward over the rest of the line from a standing at the place i: the last place where f holds, or else `best`.
unfoldable pub forward : Re → (Standing → Bool) → List ℕ → Standing → ℕ → Option ℕ → Option ℕ
forward r f [] s i best = best
forward r f (b ∷ rest) s i best = forward r f rest (next r s b) (suc i) (cond (f (next r s b)) (some (suc i)) best)

-- .. from the start i.
abbrev pub farthest : Re → (Standing → Bool) → List ℕ → ℕ → Option ℕ
farthest r f rest i = forward r f rest (standing r []) i (cond (f (standing r [])) (some i) none)
