-- The search on its way: the records found stand in the table, those before record q are carried on by each byte, and record q by the bytes below c; and the looking so
-- far.
-- Assumes nothing.
use Rattle.std.specs.Prelude.{◌≡◌, ℕ, suc, ◌+◌, ◌≤◌, ◌<◌, true, List, [], ◌∷◌, ◌++◌, length, take, Result, Ok, Err}
use Rattle.theory.specs.Pattern.{Re}
use Rattle.theory.specs.Standing.{standing}
use Rattle.theory.specs.Records.{at, NoWitness}
use Rattle.theory.specs.Code.Search.{Search}
use Rattle.verdict.specs.Record.{form_of}
use Rattle.verdict.specs.Table.{slots}
use Rattle.standing.specs.declared.Standing.{Standing}
use Rattle.standing.specs.Stands.{Arrays, Lent, Stands}
use Rattle.groups.specs.Numbers.{shares, is_lowest, lowest_below, lowest_bytes, groups_by}
use Rattle.groups.specs.Turns.{same}
use Rattle.search.specs.declared.Progress.{Progress}
use Rattle.search.specs.declared.Looking.{Looking}
use Rattle.search.specs.declared.Course.{Course}
use Rattle.search.specs.declared.Stop.{Stop}
use Rattle.search.specs.declared.Stop.TheVariants.{Witness, Full}
use Rattle.search.specs.Looking.{recorded, carried_by, carried, saturated, looking_for, no_looking, Takes}
use Rattle.search.specs.Ends.{HoldsRecords, AllFound, WitnessFound, SlotsFull}

-- The looking after one more look, which compared n records.
abbrev pub more : Looking → ℕ → Looking
more y n = record { looks = saturated (y.looks + 1); comparisons = saturated (y.comparisons + n) }

-- The records after the looks for the lines W in turn.
unfoldable pub recorded_all : Re → List (List ℕ) → List (List ℕ) → List (List ℕ)
recorded_all r M [] = M
recorded_all r M (w ∷ W) = recorded_all r (recorded r M w) W

-- The lines looked for before the byte c is tried from record q.
unfoldable pub looked_so_far : Re → List (List ℕ) → ℕ → ℕ → List (List ℕ)
looked_so_far r L q c = carried (lowest_bytes (shares r)) (take q L) ++ carried_by (lowest_below (shares r) c) (at L q)

-- The looks for the lines W led to the records with the first lines L, and took the looking y.
pub record Tallied (r : Re) (W L : List (List ℕ)) (y : Looking) : Type 0 where
  pub takes : y ≡ looking_for r W
  pub lines : recorded_all r ([] ∷ []) W ≡ L

pub record Searching (r : Re) (t₀ : List ℕ) (q c n : ℕ) (y : Looking) (t : List ℕ) : Type 0 where
  pub lines : List (List ℕ)
  pub size : length lines ≡ n
  pub holds : HoldsRecords r t₀ lines t
  pub none : NoWitness (standing r) lines
  pub search : Search r lines q c
  pub tallied : Tallied r (looked_so_far r lines q c) lines y

-- At work on record q, whose standing is s.
pub record Working (r : Re) (t₀ : List ℕ) (s : Standing) (q c n : ℕ) (y : Looking) (t : List ℕ) : Type 0 where
  pub state : Searching r t₀ q c n y t
  pub inside : q < n
  pub stands : Stands r s (standing r (at state.lines q))

-- The table t₀ has m slots for the records of r, which have w bytes.
pub record Slotted (r : Re) (t₀ : List ℕ) (w m : ℕ) : Type 0 where
  pub width : w ≡ (form_of r).bytes
  pub number : m ≡ slots (form_of r) (length t₀)

-- The records without a witness stay within the slots.
abbrev pub Within : ℕ → ℕ → Progress → Type 0
Within m n (Progress.Clear k) = n ≤ m → k ≤ m
Within m n (Progress.Witness k) = Unit {0}
Within m n Progress.Full = Unit {0}

-- The lowest bytes are those of the masks' groups.
abbrev pub Grouping : List ℕ → List ℕ → Type 0
Grouping masks lowest = lowest ≡ take (groups_by (same masks)).count (groups_by (same masks)).lowest

-- How far a search has come that has n records, and with the looking y: it goes on, or it has ended at one of its stops.
abbrev pub progress_of : Result Unit Stop → ℕ → Progress
progress_of (Ok x) n = Progress.Clear n
progress_of (Err Witness) n = Progress.Witness n
progress_of (Err Full) n = Progress.Full

abbrev pub course_of : Result Unit Stop → ℕ → Looking → Course
course_of x n y = record { progress = progress_of x n; looking = y }

-- How far the search came with the looking y, where P says what holds of n records without a witness.
abbrev pub CameTo : Re → List ℕ → List ℕ → Looking → (ℕ → Type 0) → Progress → Type 0
CameTo r t₀ t y P (Progress.Clear n) = P n
CameTo r t₀ t y P (Progress.Witness n) = WitnessFound r t₀ n t × Takes r (slots (form_of r) (length t₀)) y
CameTo r t₀ t y P Progress.Full = SlotsFull r t₀ t × Takes r (slots (form_of r) (length t₀)) y

-- What the byte c, the lowest of its group, leads to from record q.
pub record Turned (a : Arrays) (s : Standing) (q c n w m : ℕ) (y : Looking) (t : List ℕ) (x : Course) (t' : List ℕ) : Type 0 where
  pub within : Within m n x.progress
  pub leads : {r : Re} {t₀ : List ℕ} → Lent r a → Slotted r t₀ w m → c < 256 → is_lowest (shares r) c ≡ true → Working r t₀ s q c n y t
      → CameTo r t₀ t' x.looking (λ k. Working r t₀ s q (suc c) k x.looking t') x.progress

-- What all bytes lead to from record q, by what is known of the groups.
pub record Worked (known : Type 0) (a : Arrays) (q n w m : ℕ) (y : Looking) (t : List ℕ) (x : Course) (t' : List ℕ) : Type 0 where
  pub within : Within m n x.progress
  pub leads : known → {r : Re} {t₀ : List ℕ} → Lent r a → Slotted r t₀ w m → q < n → Searching r t₀ q 0 n y t
      → CameTo r t₀ t' x.looking (λ k. Searching r t₀ (suc q) 0 k x.looking t') x.progress

-- What is found from record 0 on.
pub record Run (known : Type 0) (a : Arrays) (w m : ℕ) (t : List ℕ) (x : Course) (t' : List ℕ) : Type 0 where
  pub leads : known → {r : Re} {t₀ : List ℕ} → Lent r a → Slotted r t₀ w m → Searching r t₀ 0 0 1 no_looking t
      → CameTo r t₀ t' x.looking (λ n. AllFound r t₀ n t' × Takes r m x.looking) x.progress
