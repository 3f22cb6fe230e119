-- The rows and the bytes: which outcomes are read.
-- Assumes nothing.
use Rattle.std.specs.Prelude.{◌≡◌, ℕ, zero, suc, ◌+◌, ◌-◌, ◌*◌, ◌≤◌, ◌<◌, List, [], ◌∷◌, get_or, take, drop, T}
use Rattle.std.specs.Prelude as Std
use Rattle.std.proofs.Math.Option.{Option}
use Rattle.theory.specs.Pattern.{Re, count, has}
use Rattle.theory.specs.Outcomes.{when}
use Rattle.theory.specs.Standing.{member}
use Rattle.words.specs.Sets.{has_bit}
use Rattle.traces.specs.Traces.{Carried, ends_at, wants}
use Rattle.traces.specs.Code.Pass.{Values, Thread, row, stamped, moved, pass}
use Rattle.threads.specs.declared.Slot.{Slot}
use Rattle.threads.specs.declared.State.{State}
use Rattle.threads.specs.Ways.{Given}
use Rattle.threads.specs.Slots.{Holds, Marked, IsBest}
use Rattle.threads.specs.Reads.{order, Sound, blank, AreThreads, Outside, Reads}

-- The outcomes of the numbers l, where u has their values: 0 is the end, and p + 1 the leaf p.
abbrev pub outcome_of : ℕ → (ℕ → Values) → ℕ → Carried Values
outcome_of n u zero = ends_at n (u 0)
outcome_of n u (suc p) = wants p (u (suc p))

abbrev pub outcomes_of : ℕ → (ℕ → Values) → List ℕ → List (Carried Values)
outcomes_of n u [] = []
outcomes_of n u (q ∷ l) = outcome_of n u q ∷ outcomes_of n u l

-- The numbers of row k.
abbrev pub row_of : List ℕ → List ℕ → ℕ → List ℕ
row_of rows lens k = take (get_or lens k 0) (drop (65 * k) rows)

-- u has their values: what slot `from` holds, which is none of the side's, with n for each value of their masks.
pub record Sources (rows lens marks : List ℕ) (k from side n : ℕ) (x : List Slot) (u : ℕ → Values) : Type 0 where
  pub outside : Outside side from
  pub values : Values
  pub holds : Holds x from values
  pub most : (q : ℕ) → T (member q (row_of rows lens k)) → q ≤ 64
  pub marked : (q : ℕ) → T (member q (row_of rows lens k)) → Marked (get_or marks (65 * k + q) 0) n values (u q)

-- The numbers l of row k are read; and all of it.
abbrev pub PartRead : List ℕ → List ℕ → List ℕ → ℕ → ℕ → ℕ → ℕ → State → List ℕ → State → Type 0
PartRead rows lens marks k from side n f l g = (u : ℕ → Values) → Sources rows lens marks k from side n f.slots u → Reads side n f (outcomes_of n u l) g

pub record RowRead (rows lens marks : List ℕ) (k from side n : ℕ) (f g : State) : Type 0 where
  pub sound : Sound g
  pub reads : PartRead rows lens marks k from side n f (row_of rows lens k) g

-- The mask is that of the byte b.
abbrev pub Takes : Re → ℕ → ℕ → Type 0
Takes r mask b = (p : ℕ) → p < count r → has_bit mask p ≡ has r p b

-- The outcomes after a byte of the leaf p are read, from its slot of the other side.
pub record LeafRead (rows lens marks : List ℕ) (mask p side n : ℕ) (f g : State) : Type 0 where
  pub sound : Sound g
  pub reads : {r : Re} {masks : List ℕ} → Given r masks rows lens marks → (b : ℕ) → Takes r mask b → p < count r → {v : Values} → Holds f.slots (64 * (1 - side) + p) v
      → Reads side n f (when (has r p b) (stamped n v (row r p))) g

-- Leaves of the pattern.
abbrev pub Leaves : Re → List ℕ → Type 0
Leaves r l = (p : ℕ) → T (member p l) → p < count r

-- The outcomes after a byte of all leaves of f are read, in their order, from their slots of the other side.
pub record Stepped (rows lens marks : List ℕ) (mask side n : ℕ) (f g : State) : Type 0 where
  pub sound : Sound g
  pub reads : {r : Re} {masks : List ℕ} → Given r masks rows lens marks → (b : ℕ) → Takes r mask b → Leaves r (order f) → {ts : List Thread} → AreThreads (1 - side) f.slots (order f) ts
      → Reads side n (blank f.list f.slots) (moved r b n ts) g

-- The line w is passed over from the place i on: the best way is then that of the pass.
pub record Passed (masks rows lens marks w : List ℕ) (i : ℕ) (f : State) (b : Std.Option ℕ) (y : List Slot) (c : Std.Option ℕ) : Type 0 where
  pub passed : {r : Re} → Given r masks rows lens marks → ((k : ℕ) → get_or w k 0 < 256) → Leaves r (order f) → {ts : List Thread} → AreThreads 0 f.slots (order f) ts
      → (way : Option Thread) → IsBest f.slots b way → IsBest y c (pass r (drop i w) ts i way)
