-- The slots: each has the sixteen values of a thread, with a mask of those that are set.
-- Assumes nothing.
use Rattle.std.specs.Prelude.{◌≡◌, ℕ, ◌<◌, cond, List, [], length, get_or, None, Some}
use Rattle.std.specs.Prelude as Std
use Rattle.std.specs.Int.Bits.{bit_or}
use Rattle.std.proofs.Math.Option.{Option, none, some}
use Rattle.words.specs.Sets.{has_bit}
use Rattle.traces.specs.Code.Pass.{Values, Thread}
use Rattle.threads.specs.declared.Slot.{Slot}
use Rattle.threads.specs.declared.Way.{Way}
use Rattle.threads.specs.Ways.{value_at, HoldsValues}

-- Slot s.
abbrev pub slot : List Slot → ℕ → Slot
slot x s = get_or x s (record { places = []; known = 0 })

-- It holds the values v.
pub record Holds (x : List Slot) (s : ℕ) (v : Values) : Type 0 where
  pub at : HoldsValues (slot x s).places (slot x s).known v

-- u is v with n for each value of the mask m.
pub record Marked (m n : ℕ) (v u : Values) : Type 0 where
  pub at : (j : ℕ) → j < 16 → value_at u j ≡ cond (has_bit m j) (some n) (value_at v j)

-- The slot b is a with the place n for each field of the mask m.
pub record Stamped (m n : ℕ) (a b : Slot) : Type 0 where
  pub known : b.known ≡ bit_or a.known m
  pub places : (j : ℕ) → j < 16 → get_or b.places j 0 ≡ cond (has_bit m j) n (get_or a.places j 0)

-- What was in slot `from` is now in slot `to`, with n for each value of the mask m; every other slot is as it was.
pub record Moved (from to m n : ℕ) (x y : List Slot) : Type 0 where
  pub long : length y ≡ length x
  pub moved : {v u : Values} → Holds x from v → Marked m n v u → Holds y to u
  pub others : {s : ℕ} {v : Values} → (s ≡ to → ⊥) → Holds x s v → Holds y s v

-- The thread that ended last, if one did, has slot 128; its end is beside the slots.
abbrev pub IsBest : List Slot → Std.Option ℕ → Option Thread → Type 0
IsBest x None none = Unit {0}
IsBest x None (some t) = ⊥
IsBest x (Some end) none = ⊥
IsBest x (Some end) (some t) = (end ≡ t.0) × Holds x 128 t.1

-- The way with that end and the places of slot 128.
abbrev pub handed_over : List Slot → Std.Option ℕ → Std.Option Way
handed_over x None = None
handed_over x (Some end) = Some (record { end = end; known = (slot x 128).known; places = (slot x 128).places })
