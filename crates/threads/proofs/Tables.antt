-- The tables of a pattern: its rows as numbers, each with its values, are the rows of the pass.
-- Assumes nothing.
use mathlib.Core.Path.{◌≡◌, refl, sym, ap, ◌∙◌}
use Prim.Native.Nat.{ℕ, zero, suc, ◌+◌, ◌-◌, ◌≤◌, ◌<◌}
use mathlib.Core.Bool.{Bool, true, false, ◌||◌, cond}
use mathlib.Core.List.{List, [], ◌∷◌, ◌++◌}
use mathlib.Core.Option.{some}
use native.Mathlib.Omega.{arith}
use lib.Dec.{T, eqb, ltb, eqb_refl}
use borrow.Author.Tests.{ltb-true, ltb-false, ne_eqb, eq-eqb}
use Rattle.theory.specs.Pattern.{Re, count}
use Rattle.theory.specs.Standing.{member, once}
use Rattle.theory.proofs.Tests.{true_T, or_left, or_right}
use Rattle.theory.proofs.Members.{member_append, gather_member}
use Rattle.words.specs.Sets.{has_bit}
use Rattle.traces.specs.Traces.{Carried, ends_at, wants}
use Rattle.traces.specs.Code.Pass.{Values, Sets, stamp, mapped, item, items, firsts, stamped}
use Rattle.traces.specs.Code.Marks.{Shows, carried_by, sets_of, row_sets}
use Rattle.traces.proofs.Firsts.{items_firsts}
use Rattle.threads.specs.Ways.{Given}
use Rattle.threads.specs.declared.Slot.{Slot}
use Rattle.threads.specs.declared.State.{State}
use Rattle.threads.specs.Slots.{Holds, Marked}
use Rattle.threads.specs.Reads.{Outside, Reads}
use Rattle.threads.specs.Steps.{outcome_of, outcomes_of, row_of, Sources, RowRead}
use Rattle.threads.proofs.Leaves.{row_below}

-- A mask that shows the sets stamps as they do.
marked_stamp : (m n : ℕ) (v : Values) (s : Sets) → Shows m s → Marked m n v (stamp n v s)
marked_stamp m n v s h = record { at = λ j k. go j k (ltb j 8) refl }
  where
    go : (j : ℕ) → j < 16 → (c : Bool) → ltb j 8 ≡ c
        → cond c (cond (member (suc j) s.opens) (some n) (v.starts (suc j))) (cond (member (suc (j - 8)) s.closes) (some n) (v.ends (suc (j - 8))))
        ≡ cond (has_bit m j) (some n) (cond c (v.starts (suc j)) (v.ends (suc (j - 8))))
    go j k true e = rw (h.opens j (ltb-true j 8 e))
    go j k false e = let low = ltb-false j 8 e in let same : 8 + (j - 8) ≡ j = omega arith in rw (ap (has_bit m) (sym same) ∙ h.closes (j - 8) (omega arith))

-- Each outcome once, by its number and what the number carries the first time.
module _ (n : ℕ) (h : Sets → Values) where
  mapped_cons : (o : Carried Sets) (l : List (Carried Sets)) (u : ℕ → Values) → u (item o) ≡ h (carried_by o) → {m : List (Carried Values)} → m ≡ mapped (λ k. n) h l → outcome_of n u (item o) ∷ m ≡ mapped (λ k. n) h (o ∷ l)
  mapped_cons (ends_at k s) l u e d = rw (e, d)
  mapped_cons (wants p s) l u e d = rw (e, d)

  outcomes_firsts : (u : ℕ → Values) (seen : List ℕ) (l : List (Carried Sets)) → ((q : ℕ) → (T (member q seen) → ⊥) → u q ≡ h (sets_of q l))
      → outcomes_of n u (items (firsts seen l)) ≡ mapped (λ k. n) h (firsts seen l)
  outcomes_firsts u seen [] e = refl
  outcomes_firsts u seen (o ∷ l) e = go (member (item o) seen) refl (outcomes_firsts u seen l) (outcomes_firsts u more l)
    where
      more : List ℕ
      more = seen ++ (item o ∷ [])

      other : (q : ℕ) → (T (member q seen) → ⊥) → (q ≡ item o → ⊥) → u q ≡ h (sets_of q l)
      other q z c = e q z ∙ rw (ne_eqb q (item o) c)

      in_more : (q : ℕ) → T (member q seen || (eqb q (item o) || false)) → T (member q more)
      in_more q t = rw (member_append q seen (item o ∷ [])) t

      go : (c : Bool) → member (item o) seen ≡ c
          → (((q : ℕ) → (T (member q seen) → ⊥) → u q ≡ h (sets_of q l)) → outcomes_of n u (items (firsts seen l)) ≡ mapped (λ k. n) h (firsts seen l))
          → (((q : ℕ) → (T (member q more) → ⊥) → u q ≡ h (sets_of q l)) → outcomes_of n u (items (firsts more l)) ≡ mapped (λ k. n) h (firsts more l))
          → outcomes_of n u (items (cond c (firsts seen l) (o ∷ firsts more l))) ≡ mapped (λ k. n) h (cond c (firsts seen l) (o ∷ firsts more l))
      go true z x y = x (λ q w. other q w λ i. w (rw i (true_T (member (item o) seen) z)))
      go false z x y =
          mapped_cons o (firsts more l) u (e (item o) (λ t. rw z at t) ∙ rw (eq-eqb (item o) (item o) refl))
          (y (λ q w. other q (λ t. w (in_more q (or_left (member q seen) (eqb q (item o) || false) t)))
          (λ i. w (in_more q (or_right (member q seen) (eqb q (item o) || false) (or_left (eqb q (item o)) false (rw i (eqb_refl (item o)))))))))

  outcomes_once : (l : List (Carried Sets)) → outcomes_of n (λ q. h (sets_of q l)) (once (items l)) ≡ mapped (λ k. n) h (firsts [] l)
  outcomes_once l = rw (← items_firsts l) (outcomes_firsts (λ q. h (sets_of q l)) [] l (λ q w. refl))

-- A row that is read is a row of the pass.
module _ {r : Re} {masks rows lens marks : List ℕ} (d : Given r masks rows lens marks) (k : ℕ) (here : k ≤ count r) where
  small : (q : ℕ) → T (member q (row_of rows lens k)) → q ≤ 64
  small zero t = omega arith
  small (suc q) t = omega (arith, row_below r d.numbered k q (rw (d.listed k here, sym (items_firsts (row_sets k r))) at t), d.most)

  sources : {from side n : ℕ} {x : List Slot} {v : Values} → Outside side from → Holds x from v → Sources rows lens marks k from side n x (λ q. stamp n v (sets_of q (row_sets k r)))
  sources {n = n} {v = v} o h = record {
    outside = o;
    values = v;
    holds = h;
    most = small;
    marked = λ q t. marked_stamp _ n v (sets_of q (row_sets k r)) (d.marked k q here (rw (d.listed k here, gather_member q [] (items (row_sets k r))) at t));
  }

  pub row_reads : {from side n : ℕ} {f g : State} {v : Values} → RowRead rows lens marks k from side n f g → Outside side from → Holds f.slots from v
      → Reads side n f (stamped n v (firsts [] (row_sets k r))) g
  row_reads {n = n} {v = v} a o h = rw (d.listed k here, outcomes_once n (stamp n v) (row_sets k r)) at (a.reads _ (sources o h))
