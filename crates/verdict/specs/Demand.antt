-- Demand 3 in its words: no line, or the first line, that is cut differently, and how many distinct standings there are.
-- Assumes nothing.
use Rattle.std.specs.Prelude.{◌≡◌, ◌⊎◌, ◌≢◌, ℕ, suc, ◌<◌, List, length}
use Rattle.theory.specs.Pattern.{Re}
use Rattle.theory.specs.Standing.{standing}
use Rattle.theory.specs.Spans.{CutDifferently}
use Rattle.theory.specs.Lines.{Below, ◌≺◌}
use Rattle.theory.specs.Records.{at}

-- No sequence of bytes, of any length, is cut differently.
abbrev pub NoneCut : Re → Type 0
NoneCut r = (u : List ℕ) → Below 256 u → CutDifferently r u → ⊥

-- w is cut differently, and each other line of bytes that is cut differently is longer, or as long and later in byte order.
pub record FirstCut (r : Re) (w : List ℕ) : Type 0 where
  pub bytes : Below 256 w
  pub cut : CutDifferently r w
  pub first : (u : List ℕ) → Below 256 u → CutDifferently r u → (u ≡ w) ⊎ (w ≺ u)

-- No line before u is cut differently: the standing of u is one of those that get a record.
abbrev pub Needed : Re → List ℕ → Type 0
Needed r u = (w : List ℕ) → Below 256 w → w ≺ u → CutDifferently r w → ⊥

-- M has n lines of bytes that no line cut differently comes before, with distinct standings.
pub record Distinct (r : Re) (n : ℕ) (M : List (List ℕ)) : Type 0 where
  pub size : length M ≡ n
  pub bytes : (k : ℕ) → k < n → Below 256 (at M k)
  pub needed : (k : ℕ) → k < n → Needed r (at M k)
  pub distinct : (j k : ℕ) → j < k → k < n → standing r (at M j) ≢ standing r (at M k)

-- The lines of bytes that no line cut differently comes before have n distinct standings in all.
pub record Number (r : Re) (n : ℕ) : Type 0 where
  pub lines : List (List ℕ)
  pub are : Distinct r n lines
  pub every : (u : List ℕ) → Below 256 u → Needed r u → (k : ℕ) × (k < n) × (standing r (at lines k) ≡ standing r u)

-- The distinct standings that get a record outnumber n.
abbrev pub Outnumber : Re → ℕ → Type 0
Outnumber r n = (M : List (List ℕ)) × Distinct r (suc n) M

-- The first line cut differently is longer than n.
abbrev pub Longer : Re → ℕ → Type 0
Longer r n = (w : List ℕ) × FirstCut r w × (n < length w)
