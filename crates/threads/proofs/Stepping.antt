-- A byte is read: the rows of the leaves that take it, in their order, up to the first end.
-- Assumes nothing.
use mathlib.Core.Path.{◌≡◌, refl, sym, ap, ◌∙◌}
use Prim.Native.Nat.{ℕ, suc, ◌+◌, ◌-◌, ◌*◌, ◌≤◌, ◌<◌}
use mathlib.Core.Bool.{true, false, true≢false}
use mathlib.Core.List.{List, [], ◌∷◌, ◌++◌, append-nil, append_assoc}
use native.Mathlib.Omega.{arith}
use native.Mathlib.Numerals.{add-one}
use native.Mathlib.Decide.{dec_lt}
use lib.ListN.{length, get_or, take, drop, take-append-drop}
use lib.Seq.{take-suc, take_all}
use lib.Dec.{T}
use Rattle.theory.specs.Pattern.{Re, count}
use Rattle.theory.specs.Standing.{member}
use Rattle.words.specs.Sets.{has_bit}
use Rattle.words.proofs.Bits.{no_more}
use Rattle.traces.specs.Traces.{Carried}
use Rattle.traces.specs.Code.Pass.{Values, Thread, row, moved}
use Rattle.threads.specs.Ways.{Given}
use Rattle.threads.specs.declared.Slot.{Slot}
use Rattle.threads.specs.declared.State.{State}
use Rattle.threads.specs.Reads.{order, Sound, blank, threads, AreThreads, Outside, Reads}
use Rattle.threads.specs.Steps.{RowRead, Takes, LeafRead, Leaves, Stepped}
use Rattle.threads.proofs.Reading.{threads_append, reads_none, reads_append, reads_over}
use Rattle.threads.proofs.Rows.{get_d_member}
use Rattle.threads.proofs.Tables.{row_reads}

-- A mask of 64 bits has no leaf from 64 on.
pub leaf_small : (mask p : ℕ) → mask < 18446744073709551616 → has_bit mask p ≡ true → p < 64
leaf_small mask p h e = go (dec_lt p 64)
  where
    go : Dec (p < 64) → p < 64
    go (yes k) = k
    go (no k) = absurd (true≢false (sym e ∙ no_more mask p h (omega arith)))

-- The slots of the other side.
other_side : (side p : ℕ) → side ≤ 1 → p < 64 → Outside side (64 * (1 - side) + p)
other_side side p h k q l e = omega arith

module _ {rows lens marks : List ℕ} {mask p side n : ℕ} {f : State} where
  -- A leaf that takes the byte, and one that does not.
  pub leaf_taken : {g : State} → side ≤ 1 → has_bit mask p ≡ true → RowRead rows lens marks (p + 1) (64 * (1 - side) + p) side n f g → LeafRead rows lens marks mask p side n f g
  unfolding row
  leaf_taken s e a = record {
    sound = a.sound;
    reads = λ d b t h k. rw (sym (t p h) ∙ e) (row_reads d (suc p) (omega arith) (rw (add-one p) at a) (other_side side p s (omega (arith, d.most))) k);
  }

  pub leaf_not : Sound f → f.ended ≡ false → has_bit mask p ≡ false → LeafRead rows lens marks mask p side n f f
  leaf_not s going e = record { sound = s; reads = λ d b t h k. rw (sym (t p h) ∙ e) (reads_none going) }

moved_append : (r : Re) (b n : ℕ) (ts us : List Thread) → moved r b n (ts ++ us) ≡ moved r b n ts ++ moved r b n us
moved_append r b n [] us = refl
moved_append r b n (t ∷ ts) us = rw (moved_append r b n ts us, append_assoc)

-- The outcomes of the first i leaves are read, of the leaves l, whose slots were x.
pub record StepBefore (rows lens marks : List ℕ) (mask : ℕ) (l old : List ℕ) (side n : ℕ) (x : List Slot) (i : ℕ) (g : State) : Type 0 where
  pub sound : Sound g
  pub reads : {r : Re} {masks : List ℕ} → Given r masks rows lens marks → (b : ℕ) → Takes r mask b → Leaves r l
      → {ts : List Thread} (w : AreThreads (1 - side) x l ts) → Reads side n (blank old x) (moved r b n (threads w.values (take i l))) g

-- The same of a state with that list, those leaves and those slots.
under : {side : ℕ} {x : List Slot} {l : List ℕ} {ts : List Thread} (f : State) → f.slots ≡ x → order f ≡ l → AreThreads side f.slots (order f) ts → AreThreads side x l ts
under {side} {x} {l} {ts} f k o w = let v : AreThreads side x (order f) ts = rw k at w in rw o at v

from_old : {side n : ℕ} {x : List Slot} {old : List ℕ} {m : List (Carried Values)} {g : State} (f : State) → f.list ≡ old → f.slots ≡ x → Reads side n (blank old x) m g → Reads side n (blank f.list f.slots) m g
from_old {side} {n} {x} {old} {m} {g} f e k a = rw (e, k) a

module _ {rows lens marks : List ℕ} {mask : ℕ} {l old : List ℕ} {side n : ℕ} {x : List Slot} where
  pub step_none : Sound (blank old x) → StepBefore rows lens marks mask l old side n x 0 (blank old x)
  step_none s = record { sound = s; reads = λ d b t h w. reads_none refl }

  module _ {i : ℕ} {g : State} (before : StepBefore rows lens marks mask l old side n x i g) where
    -- All of them, or as many as count.
    pub step_all : (f : State) → f.list ≡ old → f.slots ≡ x → order f ≡ l → length l ≤ i → Stepped rows lens marks mask side n f g
    step_all f e k o h = record {
      sound = before.sound;
      reads = λ {r} d b t z w. from_old f e k (rw (take_all i l h, (under f k o w).same) at (before.reads d b t (rw o at z) (under f k o w)));
    }

    pub step_over : (f : State) → f.list ≡ old → f.slots ≡ x → order f ≡ l → g.ended ≡ true → Stepped rows lens marks mask side n f g
    step_over f e k o over = record {
      sound = before.sound;
      reads = λ {r} d b t z {ts} w.
          let v : AreThreads (1 - side) x l ts = under f k o w in
          let past = threads v.values (take i l) in
          let rest = threads v.values (drop i l) in
          let parts : ts ≡ past ++ rest = sym v.same ∙ ap (threads v.values) (sym (take-append-drop i l)) ∙ threads_append v.values (take i l) _ in
          from_old f e k (rw (parts, moved_append r b n past rest) (reads_over _ (before.reads d b t (rw o at z) v) (λ c. true≢false (sym over ∙ c))));
    }

    -- One more.
    module _ {p : ℕ} (going : g.ended ≡ false) (s : side ≤ 1) (here : i < length l) (is : p ≡ get_or l i 0) where
      there : T (member p l)
      there = rw is (get_d_member l i here)

      pub step_more : {h : State} → LeafRead rows lens marks mask p side n g h → StepBefore rows lens marks mask l old side n x (i + 1) h
      step_more a = record {
        sound = a.sound;
        reads = λ {r} d b t k w.
            let c : p < count r = k p there in
            let past = before.reads d b t k w in
            let kept = past.kept going (other_side side p s (omega (arith, d.most))) (w.held p there) in
            rw (add-one i, take-suc l i 0 here, sym is, threads_append w.values (take i l) (p ∷ []), moved_append r b n (threads w.values (take i l)) _, append-nil)
            (reads_append past going (a.reads d b t c kept));
      }
