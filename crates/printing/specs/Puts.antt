-- What the steps of a line append.
-- Assumes nothing.
use Rattle.std.specs.Prelude.{ℕ, ◌*◌, ◌≤◌, List, [], ◌∷◌, ◌++◌, length}
use Rattle.std.proofs.Math.Option.{Option}
use Rattle.printing.specs.Text.{Adds, Field, Fields, Pairs, pairs_of}
use Rattle.printing.specs.declared.Output.{Output}

-- A word is appended and a field of a line: a space and at most 20 digits.
pub record PutField (word : List ℕ) (x : ℕ) (old new : Output) : Type 0 where
  pub text : List ℕ
  pub field : Field x text
  pub most : length text ≤ 21
  pub put : Adds old (word ++ text) new

-- A line of the kind L, of at most k bytes, is appended.
abbrev pub PutLine : ℕ → (List ℕ → Type 0) → Output → Output → Type 0
PutLine k L old new = (w : List ℕ) × L w × (length w ≤ k) × Adds old w new

-- A line of the kind L without its newline.
abbrev pub Unended : (List ℕ → Type 0) → List ℕ → Type 0
Unended L w = L (w ++ (10 ∷ []))

-- The pairs of the brackets up to n are appended, each of at most 42 bytes.
pub record PutPairs (n known : ℕ) (places : List ℕ) (old new : Output) : Type 0 where
  pub text : List ℕ
  pub pairs : Pairs (pairs_of n known places) text
  pub most : length text ≤ 42 * n
  pub put : Adds old text new

-- One more pair is appended.
pub record PutPair (pair : Option (ℕ × ℕ)) (old new : Output) : Type 0 where
  pub text : List ℕ
  pub more : {l : List (Option (ℕ × ℕ))} {w : List ℕ} → Pairs l w → Pairs (l ++ (pair ∷ [])) (w ++ text)
  pub most : length text ≤ 42
  pub put : Adds old text new

-- Numbers are appended, each of at most 21 bytes with its space.
pub record PutFields (numbers : List ℕ) (old new : Output) : Type 0 where
  pub text : List ℕ
  pub fields : Fields numbers text
  pub most : length text ≤ 21 * length numbers
  pub put : Adds old text new
