-- Request 8 of paper 02: "Run that test, which passes exactly if no matched string does so", in the first 1,024 bytes of a lent area.
-- Assumes nothing.
use Rattle.std.specs.Prelude.{◌≡◌, ℕ, ◌≤◌, ◌<◌, List, length, Result, Ok, Err}
use Rattle.theory.specs.Pattern.{Re}
use Rattle.extends.specs.Extends.{NoneExtends}
use Rattle.verdict.specs.Area.{area_bytes, cleared}
use Rattle.standing.specs.Stands.{arrays, Lent}
use Rattle.pairs.specs.declared.Ending.{Ending}
use Rattle.pairs.specs.declared.Ending.TheVariants.{Passes, Fails}
use Rattle.pairs.specs.declared.TooShort.{TooShort}

-- It ran: "they are zero afterwards .., and the rest is kept"; and P holds of the pattern whose arrays are lent.
pub record Ran (masks sets ends s s' : List ℕ) (P : Re → Type 0) : Type 0 where
  pub room : area_bytes ≤ length s
  pub area : s' ≡ cleared s
  pub says : {r : Re} {rows lens : List ℕ} → Lent r (arrays masks rows lens sets ends) → P r

-- How the test with the area s ends, and what the area then holds. Below 1,024 bytes it does not run, and the area is kept.
abbrev pub Tested : List ℕ → List ℕ → List ℕ → List ℕ → Result Ending TooShort → List ℕ → Type 0
Tested masks sets ends s (Ok Passes) s' = Ran masks sets ends s s' NoneExtends
Tested masks sets ends s (Ok Fails) s' = Ran masks sets ends s s' (λ r. NoneExtends r → ⊥)
Tested masks sets ends s (Err short) s' = (length s < area_bytes) × (s' ≡ s)
