-- The search through a pattern's standings on its way, and where it ends with a number of slots.
-- Assumes nothing.
use Rattle.std.specs.Prelude.{◌≡◌, ◌≢◌, ℕ, suc, ◌≤◌, ◌<◌, List, [], ◌∷◌, ◌++◌, length}
use Rattle.theory.specs.Pattern.{Re}
use Rattle.theory.specs.Standing.{standing}
use Rattle.theory.specs.Lines.{Below}
use Rattle.theory.specs.Records.{at, Records, NoWitness, Alike, Unlike}

-- From the empty line, each line found is tried in turn with each byte below n, upwards, and what leads to a new standing is added. The search has found the lines
-- L, it has tried the lines before line q with each byte, and line q with the bytes below c.
pub data Trace {S : Type 0} (stand : List ℕ → S) (n : ℕ) : List (List ℕ) → ℕ → ℕ → Type 0 where
  begin : Trace stand n ([] ∷ []) 0 0
  known : {L : List (List ℕ)} {q c : ℕ} → Trace stand n L q c → q < length L → c < n → (k : ℕ) → k < length L → stand (at L k) ≡ stand (at L q ++ (c ∷ []))
      → Trace stand n L q (suc c)
  new : {L : List (List ℕ)} {q c : ℕ} → Trace stand n L q c → q < length L → c < n → ((k : ℕ) → k < length L → stand (at L k) ≢ stand (at L q ++ (c ∷ [])))
      → Trace stand n (L ++ ((at L q ++ (c ∷ [])) ∷ [])) q (suc c)
  turn : {L : List (List ℕ)} {q : ℕ} → Trace stand n L q n → q < length L → Trace stand n L (suc q) 0

-- The search through the pattern's standings.
abbrev pub Search : Re → List (List ℕ) → ℕ → ℕ → Type 0
Search r L q c = Trace (standing r) 256 L q c

-- There are more records than L has lines.
pub record Full (r : Re) (L : List (List ℕ)) : Type 0 where
  pub records : Records (standing r) L
  pub none : NoWitness (standing r) L
  pub more : (v : List ℕ) × Below 256 v × ((k : ℕ) → k < length L → standing r (at L k) ≢ standing r v)

pub data SearchEnd (r : Re) (slots : ℕ) : Type 0 where
  alike : (L : List (List ℕ)) → length L ≤ slots → Alike (standing r) L → SearchEnd r slots
  unlike : (L : List (List ℕ)) (w : List ℕ) → length L < slots → Unlike (standing r) L w → SearchEnd r slots
  full : (L : List (List ℕ)) → length L ≡ slots → Full r L → SearchEnd r slots
