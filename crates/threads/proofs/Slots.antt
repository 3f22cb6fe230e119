-- The slots: one is stamped place by place, and moved, and the last is handed over.
-- Assumes nothing.
use mathlib.Core.Path.{◌≡◌, refl, ◌∙◌}
use mathlib.Core.Option.{none, some}
use Prim.Native.Nat.{ℕ, ◌+◌, ◌≤◌, ◌<◌}
use mathlib.Core.Bool.{Bool, true, false, ◌||◌, cond}
use mathlib.Core.List.{List}
use native.Mathlib.Omega.{arith}
use lib.ListN.{length, get_or, set, length-set}
use lib.Seq.{get_or-set_same, get_or-set_other}
use borrow.Author.Count.{below_more}
use Rattle.words.specs.Sets.{has_bit}
use Rattle.words.proofs.Bits.{or_bit}
use Rattle.std.specs.Prelude.{None, Some}
use Rattle.std.specs.Prelude as Std
use Rattle.traces.specs.Code.Pass.{Values}
use Rattle.threads.specs.declared.Slot.{Slot}
use Rattle.threads.specs.declared.Way.{Way}
use Rattle.threads.specs.Ways.{HoldsValues}
use Rattle.threads.specs.Slots.{slot, Holds, Stamped, Moved}

-- The first j places are stamped, and no other is changed.
pub record StampedBefore (m n : ℕ) (old new : List ℕ) (j : ℕ) : Type 0 where
  pub long : length new ≡ length old
  pub done : (i : ℕ) → i < j → get_or new i 0 ≡ cond (has_bit m i) n (get_or old i 0)
  pub others : (i : ℕ) → j ≤ i → get_or new i 0 ≡ get_or old i 0

pub stamped_none : {m n : ℕ} {old : List ℕ} → StampedBefore m n old old 0
stamped_none = record { long = refl; done = λ i h. absurd (omega arith); others = λ i h. refl }

module _ {m n : ℕ} {old new : List ℕ} where
  pub stamped_more : {j y : ℕ} → StampedBefore m n old new j → j < length new → y ≡ cond (has_bit m j) n (get_or new j 0) → StampedBefore m n old (set new j y) (j + 1)
  stamped_more {j} {y} s h is = record {
    long = length-set new j y ∙ s.long;
    done = below_more _ j (λ i k. get_or-set_other new j i y 0 (λ e. omega arith) ∙ s.done i k) (rw (get_or-set_same new j y 0 h, is, s.others j (omega arith)));
    others = λ i k. get_or-set_other new j i y 0 (λ e. omega arith) ∙ s.others i (omega arith);
  }

-- A slot that is stamped is put in its place.
pub stamped_moved : {from to m n : ℕ} (x : List Slot) {b : Slot} → to < length x → Stamped m n (slot x from) b → Moved from to m n x (set x to b)
stamped_moved {from} {to} {m} {n} x {b} t s = record {
  long = length-set x to b;
  moved = λ h k. record {
    at = λ j c.
        k.at j c
        ∙ rw (h.at j c, get_or-set_same x to b _ t, s.known, or_bit (slot x from).known m j, s.places j c) (merged (has_bit m j) (has_bit (slot x from).known j) n (get_or (slot x from).places j 0));
  };
  others = λ {s = i} k h. record { at = λ j c. rw (get_or-set_other x to i b _ k) (h.at j c) };
}
  where
    merged : (a b : Bool) (x z : ℕ) → cond a (some x) (cond b (some z) none) ≡ cond (b || a) (some (cond a x z)) none
    merged true true x z = refl
    merged true false x z = refl
    merged false true x z = refl
    merged false false x z = refl

-- The first j places of slot 128 are copied.
pub record Copied (x : List Slot) (places : List ℕ) (j : ℕ) : Type 0 where
  pub long : length places ≡ 16
  pub done : (i : ℕ) → i < j → get_or places i 0 ≡ get_or (slot x 128).places i 0

-- The way ends there, with the values of slot 128,
pub record OfBest (x : List Slot) (e : ℕ) (w : Way) : Type 0 where
  pub end : w.end ≡ e
  pub holds : {v : Values} → Holds x 128 v → HoldsValues w.places w.known v

-- and is the best one, if there is one.
abbrev pub HandedOver : List Slot → Std.Option ℕ → Std.Option Way → Type 0
HandedOver x None None = Unit {0}
HandedOver x None (Some w) = ⊥
HandedOver x (Some e) None = ⊥
HandedOver x (Some e) (Some w) = OfBest x e w

-- The way with these places that ends there, if one does.
abbrev pub way_with : Std.Option ℕ → ℕ → List ℕ → Std.Option Way
way_with None known places = None
way_with (Some e) known places = Some (record { end = e; known = known; places = places })

module _ {x : List Slot} {places : List ℕ} where
  pub copied_none : length places ≡ 16 → Copied x places 0
  copied_none long = record { long = long; done = λ i h. absurd (omega arith) }

  pub copied_more : {j : ℕ} → Copied x places j → j < 16 → Copied x (set places j (get_or (slot x 128).places j 0)) (j + 1)
  copied_more {j} s h = record {
    long = length-set places j _ ∙ s.long;
    done = below_more _ j (λ i k. get_or-set_other places j i _ 0 (λ e. omega arith) ∙ s.done i k) (get_or-set_same places j _ 0 (omega (arith, s.long)));
  }

  pub copied_all : (best : Std.Option ℕ) {j : ℕ} → Copied x places j → 16 ≤ j → HandedOver x best (way_with best (slot x 128).known places)
  copied_all None s all = tt
  copied_all (Some e) s all = record { end = refl; holds = λ h i k. rw (s.done i (omega arith)) (h.at i k) }
