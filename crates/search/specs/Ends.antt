-- Where the search of a pattern's standings ends, and what the table then holds.
-- Assumes nothing.
use Rattle.std.specs.Prelude.{◌≡◌, ℕ, suc, ◌≤◌, List, [], ◌∷◌, ◌++◌, length, T}
use Rattle.theory.specs.Pattern.{Re}
use Rattle.theory.specs.Standing.{standing, is_witness}
use Rattle.theory.specs.Records.{NoWitness, Alike}
use Rattle.theory.specs.Code.Search.{Search, Full}
use Rattle.verdict.specs.Record.{form_of}
use Rattle.verdict.specs.Table.{records, slots, onto}
use Rattle.standing.specs.Stands.{Arrays, Lent}
use Rattle.search.specs.declared.Progress.{Progress}
use Rattle.search.specs.declared.Course.{Course}
use Rattle.search.specs.Looking.{Takes}

-- The table t, once t₀, holds the records of the lines L.
pub record HoldsRecords (r : Re) (t₀ : List ℕ) (L : List (List ℕ)) (t : List ℕ) : Type 0 where
  pub fits : length L ≤ slots (form_of r) (length t₀)
  pub table : t ≡ onto t₀ (records (form_of r) (standing r) L)

-- All records, n of them, and none a witness's.
pub record AllFound (r : Re) (t₀ : List ℕ) (n : ℕ) (t : List ℕ) : Type 0 where
  pub lines : List (List ℕ)
  pub size : length lines ≡ n
  pub holds : HoldsRecords r t₀ lines t
  pub alike : Alike (standing r) lines

-- n records, the last the first witness's. The search that found them says where each comes from.
pub record WitnessFound (r : Re) (t₀ : List ℕ) (n : ℕ) (t : List ℕ) : Type 0 where
  pub lines : List (List ℕ)
  pub line : List ℕ
  pub size : suc (length lines) ≡ n
  pub holds : HoldsRecords r t₀ (lines ++ (line ∷ [])) t
  pub none : NoWitness (standing r) lines
  pub witness : T (is_witness (standing r line))
  pub q : ℕ
  pub c : ℕ
  pub search : Search r (lines ++ (line ∷ [])) q c

-- As many records as there are slots, none a witness's, and there are more.
pub record SlotsFull (r : Re) (t₀ t : List ℕ) : Type 0 where
  pub lines : List (List ℕ)
  pub size : length lines ≡ slots (form_of r) (length t₀)
  pub holds : HoldsRecords r t₀ lines t
  pub full : Full r lines

-- The search's end, where P says what holds of n records without a witness.
abbrev pub Reached : Re → List ℕ → List ℕ → (ℕ → Type 0) → Progress → Type 0
Reached r t₀ t P (Progress.Clear n) = P n
Reached r t₀ t P (Progress.Witness n) = WitnessFound r t₀ n t
Reached r t₀ t P Progress.Full = SlotsFull r t₀ t

-- The search of the pattern whose arrays are lent and whose records have w bytes, from the table t₀ to the table t, and the looking that it takes.
pub record Searched (a : Arrays) (w : ℕ) (t₀ : List ℕ) (x : Course) (t : List ℕ) : Type 0 where
  pub ends : {r : Re} → Lent r a → w ≡ (form_of r).bytes → Reached r t₀ t (λ n. AllFound r t₀ n t) x.progress
  pub looking : {r : Re} → Lent r a → w ≡ (form_of r).bytes → Takes r (slots (form_of r) (length t₀)) x.looking
