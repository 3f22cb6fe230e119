-- Outcomes read one by one: the leaves that are entered, each with its values in a slot, up to the first end.
-- Assumes nothing.
use Rattle.std.specs.Prelude.{◌≡◌, ℕ, ◌+◌, ◌*◌, ◌≤◌, ◌<◌, true, false, cond, List, [], ◌∷◌, ◌++◌, length, take, T}
use Rattle.std.proofs.Math.Option.{Option, none, some}
use Rattle.theory.specs.Standing.{member}
use Rattle.theory.specs.Code.Members.{Once}
use Rattle.words.specs.Sets.{has_bit}
use Rattle.traces.specs.Traces.{Carried, ends_at, wants, want}
use Rattle.traces.specs.Fields.{first_way}
use Rattle.traces.specs.Code.Pass.{Values, Thread}
use Rattle.threads.specs.declared.Slot.{Slot}
use Rattle.threads.specs.declared.State.{State}
use Rattle.threads.specs.Slots.{Holds, Marked}

-- The leaves that are entered.
abbrev pub order : State → List ℕ
order f = take f.n f.list

-- They are below 64, each there once, and the bits are the same leaves.
pub record Sound (f : State) : Type 0 where
  pub long : length f.list ≡ 64
  pub slots : length f.slots ≡ 129
  pub size : f.n ≤ 64
  pub marked : (p : ℕ) → has_bit f.seen p ≡ member p (order f)
  pub below : (p : ℕ) → T (member p (order f)) → p < 64
  pub apart : Once (order f)

-- A state in which nothing is entered.
abbrev pub blank : List ℕ → List Slot → State
blank list x = record { list = list; n = 0; seen = 0; ended = false; slots = x }

-- The leaves l with their values v, as threads; and the leaves of threads.
abbrev pub threads : (ℕ → Values) → List ℕ → List Thread
threads v [] = []
threads v (p ∷ l) = (p, v p) ∷ threads v l

abbrev pub leaves_of : List Thread → List ℕ
leaves_of [] = []
leaves_of (t ∷ l) = t.0 ∷ leaves_of l

-- The leaves l are the threads ts: each has its values in its slot of the side, which is 0 or 1.
pub record AreThreads (side : ℕ) (x : List Slot) (l : List ℕ) (ts : List Thread) : Type 0 where
  pub values : ℕ → Values
  pub same : threads values l ≡ ts
  pub held : (p : ℕ) → T (member p l) → Holds x (64 * side + p) (values p)

-- The outcomes l read after the threads ts: a wanted leaf is entered unless it is there, and nothing counts after an end.
abbrev pub entered : List Thread → List (Carried Values) → List Thread
entered ts [] = ts
entered ts (ends_at k v ∷ l) = ts
entered ts (wants p v ∷ l) = entered (cond (member p (leaves_of ts)) ts (ts ++ ((p, v) ∷ []))) l

-- The thread that ended, if one did, has slot 128. Its end is the place n.
abbrev pub Found : ℕ → State → Option Thread → Type 0
Found n f none = f.ended ≡ false
Found n f (some t) = (f.ended ≡ true) × (t.0 ≡ n) × Holds f.slots 128 t.1

-- Slot s is none of the side's.
abbrev pub Outside : ℕ → ℕ → Type 0
Outside side s = (p : ℕ) → p < 64 → s ≡ 64 * side + p → ⊥

-- The outcomes l, all at the place n, are read from f to g. As long as no way ended, every slot but the side's is as it was.
pub record Reads (side n : ℕ) (f : State) (l : List (Carried Values)) (g : State) : Type 0 where
  pub threads : {ts : List Thread} → AreThreads side f.slots (order f) ts → AreThreads side g.slots (order g) (entered ts l)
  pub found : Found n g (first_way l)
  pub kept : g.ended ≡ false → {s : ℕ} → Outside side s → {v : Values} → Holds f.slots s v → Holds g.slots s v

-- The leaf p is read: its values are those of slot `from`, with n for each value of the mask m.
pub record LeafEntered (p m from side n : ℕ) (f g : State) : Type 0 where
  pub sound : Sound g
  pub ended : g.ended ≡ false
  pub reads : {v u : Values} → Holds f.slots from v → Marked m n v u → Reads side n f (want p u) g
