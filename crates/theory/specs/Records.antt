-- "Record k is the k-th distinct standing in that order, from 0, up to and including the first witness's." A record is given here by its first line; `stand` gives each line its standing.
-- Assumes nothing.
use Rattle.std.specs.Prelude.{◌≡◌, ◌≢◌, ℕ, ◌<◌, List, [], ◌∷◌, ◌++◌, length, get_or, T}
use Rattle.std.proofs.Math.Option.{Option, none, some}
use Rattle.theory.specs.Standing.{Standing, is_witness}
use Rattle.theory.specs.Lines.{Below, ◌≺◌}

-- Line k of L.
abbrev pub at : List (List ℕ) → ℕ → List ℕ
at L k = get_or L k []

-- "The k-th distinct standing": L has the first lines of the standings number 0, 1, .. Each line before line k has the standing of a line before it in L,
-- and line k has another.
pub record Records (stand : List ℕ → Standing) (L : List (List ℕ)) : Type 0 where
  pub bytes : (k : ℕ) → k < length L → Below 256 (at L k)
  pub before : (k : ℕ) → k < length L → (v : List ℕ) → Below 256 v → v ≺ at L k → (j : ℕ) × (j < k) × (stand (at L j) ≡ stand v)
  pub fresh : (j k : ℕ) → j < k → k < length L → stand (at L j) ≢ stand (at L k)

-- Every standing is among them.
abbrev pub Complete : (List ℕ → Standing) → List (List ℕ) → Type 0
Complete stand L = (v : List ℕ) → Below 256 v → (k : ℕ) × (k < length L) × (stand (at L k) ≡ stand v)

-- No line of L is a witness.
abbrev pub NoWitness : (List ℕ → Standing) → List (List ℕ) → Type 0
NoWitness stand L = (k : ℕ) → k < length L → T (is_witness (stand (at L k))) → ⊥

-- The records where there is no witness: all of them.
pub record Alike (stand : List ℕ → Standing) (L : List (List ℕ)) : Type 0 where
  pub records : Records stand L
  pub complete : Complete stand L
  pub none : NoWitness stand L

-- The records where w is the first witness: those of L, and then w's.
pub record Unlike (stand : List ℕ → Standing) (L : List (List ℕ)) (w : List ℕ) : Type 0 where
  pub records : Records stand (L ++ (w ∷ []))
  pub none : NoWitness stand L
  pub witness : T (is_witness (stand w))

-- "Up to and including the first witness's": L has the first lines of the records that the pattern needs, and the last is the first witness if there is one.
pub data Needs (stand : List ℕ → Standing) : List (List ℕ) → Option (List ℕ) → Type 0 where
  all_records : {L : List (List ℕ)} → Alike stand L → Needs stand L none
  up_to_witness : (L : List (List ℕ)) (w : List ℕ) → Unlike stand L w → Needs stand (L ++ (w ∷ [])) (some w)
