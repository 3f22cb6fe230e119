-- The search finds what steps lead to: with N turns for numbers below N, nothing is left pending.
-- Assumes nothing.
use mathlib.Core.Path.{◌≡◌, refl, sym, ◌∙◌, subst}
use mathlib.Core.Logic.{inl, inr, ◌↔◌}
use Prim.Native.Nat.{ℕ, zero, suc, ◌+◌, ◌<◌}
use mathlib.Core.Bool.{Bool, true, false, not, ◌&&◌, cond, true≢false}
use mathlib.Core.List.{List, [], ◌∷◌}
use native.Mathlib.Omega.{arith}
use native.Mathlib.Decide.{ℕ_discrete}
use lib.Dec.{T, T_not, not_T, eqb, eqb→eq, eqb_refl}
use Rattle.theory.specs.Standing.{member, from, filter}
use Rattle.theory.specs.Code.Members.{Once, nil, cons}
use Rattle.theory.proofs.Tests.{T_true, true_T, or_left, or_right, or_cases, and_split, and_join, either}
use Rattle.extends.specs.Code.Closing.{Reach, begin, onward, Closing, Taken}
use Rattle.extends.specs.Code.Worklist.{Lists, mark, mark_all, work, search, Begins, Steps}
use Rattle.extends.proofs.Lists.{passing, once_tail}
use Rattle.extends.proofs.Closing.{Adds, Drops, closing_begin, closing_mark, closing_owe, closing_take, closing_done, taken_none, taken_mark, taken_take, taken_most}

-- A list with y in front.
adds_cons : (y : ℕ) (l : List ℕ) → Adds (λ x. member x l) (λ x. x ≡ y) (λ x. member x (y ∷ l))
adds_cons y l =
    record {
      old = λ x t. or_right (eqb x y) (member x l) t;
      new = λ x e. subst (λ z. T (member z (y ∷ l))) (sym e) (or_left (eqb y y) (member y l) (eqb_refl y));
      cases = λ x t. either (λ e. inr (eqb→eq x y e)) inl (or_cases (eqb x y) (member x l) t);
    }

drops_head : (y : ℕ) (l : List ℕ) → (T (member y l) → ⊥) → Drops (λ x. member x (y ∷ l)) (λ x. x ≡ y) (λ x. member x l)
drops_head y l n =
    record {
      old = λ x t. or_right (eqb x y) (member x l) t;
      gone = λ x e t. n (subst (λ z. T (member z l)) e t);
      cases = λ x t. either (λ e. inl (eqb→eq x y e)) inr (or_cases (eqb x y) (member x l) t);
    }

module _ (Begin : ℕ → Type 0) (Step : ℕ → ℕ → Type 0) where
  -- The lists of a search of which d numbers were taken.
  record Going (s : Lists) (O : ℕ → Type 0) (d : ℕ) : Type 0 where
    closing : Closing Begin Step (λ x. member x s.marked) (λ x. member x s.pending) O
    taken : Taken (λ x. member x s.marked) (λ x. member x s.pending) d
    once : Once s.pending

  going_mark : (s : Lists) (y : ℕ) (l : List ℕ) {d : ℕ} → Going s (λ x. T (member x (y ∷ l))) d → Going (mark s y) (λ x. T (member x l)) d
  going_mark s y l {d} g = go (member y s.marked) refl
    where
      go : (c : Bool) → member y s.marked ≡ c → Going (cond c s (record { marked = y ∷ s.marked; pending = y ∷ s.pending })) (λ x. T (member x l)) d
      go true e =
          record {
            closing =
                closing_owe g.closing
                (λ x t. either (λ q. inl (rw (eqb→eq x y q) (true_T (member y s.marked) e))) inr (or_cases (eqb x y) (member x l) t))
                (λ x t. or_right (eqb x y) (member x l) t);
            taken = g.taken;
            once = g.once;
          }
      go false e =
          let fresh : T (member y s.marked) → ⊥ = λ t. true≢false (sym (T_true (member y s.marked) t) ∙ e) in
          record {
            closing =
                closing_owe (closing_mark g.closing (λ x q. subst (λ z. T (member z (y ∷ l))) (sym q) (or_left (eqb y y) (member y l) (eqb_refl y))) (adds_cons y s.marked) (adds_cons y s.pending))
                (λ x t. either (λ q. inl (or_left (eqb x y) (member x s.marked) q)) inr (or_cases (eqb x y) (member x l) t))
                (λ x t. or_right (eqb x y) (member x l) t);
            taken = taken_mark g.taken (λ x q t. fresh (subst (λ z. T (member z s.marked)) q t)) (adds_cons y s.marked) (adds_cons y s.pending);
            once = cons (λ t. fresh (g.closing.pending y t)) g.once;
          }

  going_all : (s : Lists) (l : List ℕ) {d : ℕ} → Going s (λ x. T (member x l)) d → Going (mark_all s l) (λ x. ⊥) d
  going_all s [] g = g
  going_all s (y ∷ l) g = going_all (mark s y) l (going_mark s y l g)

-- A set without y.
without : (S : ℕ → Bool) (y : ℕ) → Drops S (λ x. x ≡ y) (λ x. S x && not (eqb x y))
without S y =
    record {
      old = λ x t. (and_split (S x) (not (eqb x y)) t).0;
      gone = λ x e t. T_not (eqb x y) (and_split (S x) (not (eqb x y)) t).1 (rw e (eqb_refl y));
      cases = λ x t. elim (ℕ_discrete x y) [ yes e ↦ inl e | no n ↦ inr (and_join (S x) (not (eqb x y)) t (not_T (eqb x y) λ q. n (eqb→eq x y q))) ];
    }

module _ (N : ℕ) (first : ℕ → Bool) (step : ℕ → ℕ → Bool) where
  abbrev Found : ℕ → Type 0
  Found = Reach (Begins N first step) (Steps N first step)

  found_below : {x : ℕ} → Found x → x < N
  found_below (begin b) = b.0
  found_below (onward h s) = s.0

  abbrev Search : Lists → (ℕ → Type 0) → ℕ → Type 0
  Search = Going (Begins N first step) (Steps N first step)

  work_finds : (k d : ℕ) → k + d ≡ N → (m t : List ℕ) → Search (record { marked = m; pending = t }) (λ x. ⊥) d → (x : ℕ) → T (member x (work N first step k m t)) ↔ Found x
  unfolding work
  work_finds zero d e m t g =
      closing_done g.closing (λ x o. o) λ x p.
      let c = taken_most (taken_take g.taken x refl (g.closing.pending x p) p (without (λ y. member y t) x)) N (λ y i. found_below (g.closing.sound y i)) in
      omega arith
  work_finds (suc k) d e m [] g = closing_done g.closing (λ x o. o) (λ x p. p)
  work_finds (suc k) d e m (x ∷ t) g =
      let o = once_tail g.once in
      let drop = drops_head x t o.0 in
      let p = or_left (eqb x x) (member x t) (eqb_refl x) in
      let s : Lists = record { marked = m; pending = t } in
      let l = filter (step x) (from 0 N) in
      work_finds k (suc d) (omega arith) (mark_all s l).marked (mark_all s l).pending
      (going_all (Begins N first step) (Steps N first step) s l record {
        closing =
            closing_owe (closing_take g.closing (λ y i. i) (λ y e. subst (λ z. T (member z (x ∷ t))) (sym e) p) drop)
            (λ y (z, e, i). inr ((passing (step x) N y).0 (i.0, subst (λ v. T (step v y)) e i.1)))
            (λ y i. (x, refl, (passing (step x) N y).1 i));
        taken = taken_take g.taken x refl (g.closing.pending x p) p drop;
        once = o.1;
      })

  -- The search finds what steps lead to.
  pub search_finds : (x : ℕ) → T (member x (search N first step)) ↔ Found x
  unfolding search
  search_finds =
      let s : Lists = record { marked = []; pending = [] } in
      let l = filter first (from 0 N) in
      work_finds N 0 (omega arith) (mark_all s l).marked (mark_all s l).pending
      (going_all (Begins N first step) (Steps N first step) s l record {
        closing = closing_owe (closing_begin (λ x t. t) (λ x t. t)) (λ y i. inr ((passing first N y).0 i)) (λ y i. (passing first N y).1 i);
        taken = taken_none;
        once = nil;
      })
