-- A row is read: its numbers one by one, up to the first end.
-- Assumes nothing.
use mathlib.Core.Path.{◌≡◌, refl, sym, ap, ◌∙◌, subst}
use Prim.Native.Nat.{ℕ, zero, suc, ◌+◌, ◌-◌, ◌*◌, ◌≤◌, ◌<◌, min}
use mathlib.Core.Bool.{false}
use mathlib.Core.List.{List, [], ◌∷◌, ◌++◌}
use native.Mathlib.Omega.{arith}
use native.Mathlib.Numerals.{add-one}
use lib.ListN.{length, get_or, take, drop}
use lib.Seq.{take-suc, take_all, split_at}
use lib.Dec.{T, eqb, eqb_refl}
use Rattle.theory.specs.Standing.{member}
use Rattle.theory.proofs.Tests.{or_left, or_right}
use Rattle.traces.specs.Traces.{ends_at, wants, want}
use Rattle.traces.specs.Code.Pass.{Values}
use Rattle.threads.specs.declared.Slot.{Slot}
use Rattle.threads.specs.declared.State.{State}
use Rattle.threads.specs.Slots.{Holds, Marked, Moved}
use Rattle.threads.specs.Reads.{Sound, Reads, LeafEntered}
use Rattle.threads.specs.Steps.{outcome_of, outcomes_of, row_of, Sources, PartRead, RowRead}
use Rattle.threads.proofs.Reading.{reads_none, reads_append, ended_in, end_sound, reads_end}

-- What stands in a list is a member of it.
pub get_d_member : (l : List ℕ) (j : ℕ) → j < length l → T (member (get_or l j 0) l)
get_d_member [] j h = absurd (omega arith)
get_d_member (q ∷ l) zero h = or_left (eqb q q) (member q l) (eqb_refl q)
get_d_member (q ∷ l) (suc j) h = or_right (eqb (get_or l j 0) q) (member (get_or l j 0) l) (get_d_member l j (omega arith))

outcomes_append : (n : ℕ) (u : ℕ → Values) (l m : List ℕ) → outcomes_of n u (l ++ m) ≡ outcomes_of n u l ++ outcomes_of n u m
outcomes_append n u [] m = refl
outcomes_append n u (q ∷ l) m = ap (λ o. outcome_of n u q ∷ o) (outcomes_append n u l m)

outcome_leaf : (n : ℕ) (u : ℕ → Values) (q : ℕ) → 0 < q → outcome_of n u q ≡ wants (q - 1) (u q)
outcome_leaf n u zero h = absurd (omega arith)
outcome_leaf n u (suc p) h = let e : suc p - 1 ≡ p = omega arith in rw e

-- The first i numbers of row k are read.
pub record RowBefore (rows lens marks : List ℕ) (k from side n : ℕ) (f : State) (i : ℕ) (g : State) : Type 0 where
  pub sound : Sound g
  pub going : g.ended ≡ false
  pub reads : PartRead rows lens marks k from side n f (take i (row_of rows lens k)) g

module _ {rows lens marks : List ℕ} {k from side n : ℕ} {f : State} where
  pub row_none : Sound f → f.ended ≡ false → RowBefore rows lens marks k from side n f 0 f
  row_none s e = record { sound = s; going = e; reads = λ u c. reads_none e }

  module _ {row : List ℕ} {i : ℕ} {g : State} (row-is : row ≡ row_of rows lens k) (before : RowBefore rows lens marks k from side n f i g) where
    reads : PartRead rows lens marks k from side n f (take i row) g
    reads = rw row-is before.reads

    pub row_all : length row ≤ i → RowRead rows lens marks k from side n f g
    row_all h = record { sound = before.sound; reads = rw row-is at (rw (take_all i row h) at reads) }

    -- The number at the place i.
    module _ (here : i < length row) where
      there : T (member (get_or row i 0) (row_of rows lens k))
      there = subst (λ l. T (member (get_or row i 0) l)) row-is (get_d_member row i here)

      -- What was read keeps the slot that is read from.
      module _ (u : ℕ → Values) (c : Sources rows lens marks k from side n f.slots u) where
        past : Reads side n f (outcomes_of n u (take i row)) g
        past = reads u c

        held : Holds g.slots from c.values
        held = past.kept before.going c.outside c.holds

        marked : (x : ℕ) → x ≡ get_or row i 0 → Marked (get_or marks (65 * k + x) 0) n c.values (u x)
        marked x e = c.marked x (rw e there)

      -- It is the end.
      pub row_end : {x : ℕ} {y : List Slot} → side ≤ 1 → x ≡ min (get_or row i 0) 64 → x ≡ 0 → Moved from 128 (get_or marks (65 * k + x) 0) n g.slots y
          → RowRead rows lens marks k from side n f (ended_in g y)
      row_end {x} {y} s z e m = record {
        sound = end_sound before.sound m;
        reads = λ u c. rw (sym row-is, parts u) (reads_append (past u c) before.going (reads_end before.sound m _ s (held u c) (marked u c x (e ∙ sym zeroth))));
      }
        where
          zeroth : get_or row i 0 ≡ 0
          zeroth = omega (arith, z, e)

          parts : (u : ℕ → Values) → outcomes_of n u row ≡ outcomes_of n u (take i row) ++ (ends_at n (u x) ∷ outcomes_of n u (drop (suc i) row))
          parts u = ap (outcomes_of n u) (split_at row i 0 here) ∙ outcomes_append n u (take i row) _ ∙ rw (zeroth, e)

      -- It is a leaf.
      pub row_more : {x : ℕ} {h : State} → x ≡ min (get_or row i 0) 64 → 0 < x → LeafEntered (x - 1) (get_or marks (65 * k + x) 0) from side n g h → RowBefore rows lens marks k from side n f (i + 1) h
      row_more {x} {h} e z a = record {
        sound = a.sound;
        going = a.ended;
        reads = λ u c. more u c (omega (arith, c.most (get_or row i 0) there));
      }
        where
          more : (u : ℕ → Values) (c : Sources rows lens marks k from side n f.slots u) → x ≡ get_or row i 0 → Reads side n f (outcomes_of n u (take (i + 1) (row_of rows lens k))) h
          more u c is =
              let parts : outcomes_of n u (take (i + 1) row) ≡ outcomes_of n u (take i row) ++ want (x - 1) (u x) =
              rw (add-one i, take-suc row i 0 here, outcomes_append n u (take i row) _, sym is, outcome_leaf n u x z) in
              rw (sym row-is, parts) (reads_append (past u c) before.going (a.reads (held u c) (marked u c x is)))
