-- The standing of a line that grew by a byte is the next of its standing: what a standing forgets of its list counts for nothing.
-- Assumes nothing.
use mathlib.Core.Path.{◌≡◌, refl, sym, ap, ◌∙◌, subst}
use Prim.Native.Nat.{ℕ, suc, ◌≤◌, ◌<◌}
use mathlib.Core.Bool.{Bool, true, false, ◌||◌, cond, true≢false}
use mathlib.Core.List.{List, [], ◌∷◌, ◌++◌, append-nil, append_assoc}
use native.Mathlib.Omega.{arith}
use lib.ListN.{length, length-append}
use lib.Dec.{T, eqb, eqb→eq, eqb_refl}
use Rattle.theory.specs.Pattern.{Re, count, Numbered}
use Rattle.theory.specs.Outcomes.{Outcome, ends_at, wants, outcomes}
use Rattle.theory.specs.Code.Follow.{Next, start, after, has_end}
use Rattle.theory.specs.Standing.{fronts, wanted, first_is, some_is, member, gather, once, from, set_of, Standing, standing}
use Rattle.theory.specs.Code.Next.{afters, next}
use Rattle.theory.proofs.Outcomes.{AllOut, none, end, wish, all_map}
use Rattle.theory.proofs.Equations.{Leaf, outcomes_all}
use Rattle.theory.proofs.Extend.{place, grow, extend, leaf_range, outcomes_end}
use Rattle.theory.proofs.Tests.{T_true, true_T, not_true, or_cases, or_false, either}
use Rattle.theory.specs.Code.Members.{any}
use Rattle.theory.proofs.Members.{any_of, any_same, Within, member_append, gather_append, gather_absorb, gather_member, filter_of, filter_passes, filter_same, member_from}

-- What is read off two lists joined.
module _ {K : Type 0} where
  pub fronts_append : (l m : List (Outcome K)) → fronts (l ++ m) ≡ fronts l ++ cond (has_end l) [] (fronts m)
  fronts_append [] m = refl
  fronts_append (ends_at k ∷ l) m = refl
  fronts_append (wants p ∷ l) m = rw (fronts_append l m)

  pub wanted_append : (l m : List (Outcome K)) → wanted (l ++ m) ≡ wanted l ++ wanted m
  wanted_append [] m = refl
  wanted_append (ends_at k ∷ l) m = wanted_append l m
  wanted_append (wants p ∷ l) m = rw (wanted_append l m)

  pub has_end_append : (l m : List (Outcome K)) → has_end (l ++ m) ≡ has_end l || has_end m
  has_end_append [] m = refl
  has_end_append (ends_at k ∷ l) m = refl
  has_end_append (wants p ∷ l) m = has_end_append l m

  -- A list with no end has all its leaves before the first.
  pub fronts_all : (l : List (Outcome K)) → has_end l ≡ false → fronts l ≡ wanted l
  fronts_all [] e = refl
  fronts_all (ends_at k ∷ l) e = absurd (true≢false e)
  fronts_all (wants p ∷ l) e = rw (fronts_all l e)

-- What is read off a list at the place n.
module _ (n : ℕ) where
  pub fronts_place : (l : List Next) → fronts (place n l) ≡ fronts l
  fronts_place [] = refl
  fronts_place (ends_at u ∷ l) = refl
  fronts_place (wants p ∷ l) = rw (fronts_place l)

  pub wanted_place : (l : List Next) → wanted (place n l) ≡ wanted l
  wanted_place [] = refl
  wanted_place (ends_at u ∷ l) = wanted_place l
  wanted_place (wants p ∷ l) = rw (wanted_place l)

  pub has_end_place : (l : List Next) → has_end (place n l) ≡ has_end l
  has_end_place [] = refl
  has_end_place (ends_at u ∷ l) = refl
  has_end_place (wants p ∷ l) = has_end_place l

  pub first_is_place : (l : List Next) (m : List (Outcome ℕ)) → first_is n (place n l ++ m) ≡ has_end l || first_is n m
  first_is_place [] m = refl
  first_is_place (ends_at u ∷ l) m = T_true (eqb n n) (eqb_refl n)
  first_is_place (wants p ∷ l) m = first_is_place l m

  pub some_is_place : (l : List Next) (m : List (Outcome ℕ)) → some_is n (place n l ++ m) ≡ has_end l || some_is n m
  some_is_place [] m = refl
  some_is_place (ends_at u ∷ l) m = rw (T_true (eqb n n) (eqb_refl n))
  some_is_place (wants p ∷ l) m = some_is_place l m

once_within : (l : List ℕ) → Within l (once l) × Within (once l) l
once_within l = (λ p t. rw (gather_member p [] l) t, λ p t. rw (gather_member p [] l) at t)

module _ (r : Re) (b : ℕ) where
  -- (a) and (b) from the leaves before the first end alone, (c) and (d) from all of them.
  module _ (n : ℕ) where
    pub grow_fronts : (l : List (Outcome ℕ)) → fronts (grow r b n l) ≡ fronts (afters r b (fronts l))
    unfolding grow
    grow_fronts [] = refl
    grow_fronts (ends_at k ∷ l) = refl
    grow_fronts (wants p ∷ l) = rw (fronts_append, fronts_append, fronts_place, has_end_place, grow_fronts l)

    pub grow_wanted : (l : List (Outcome ℕ)) → wanted (grow r b n l) ≡ wanted (afters r b (wanted l))
    unfolding grow
    grow_wanted [] = refl
    grow_wanted (ends_at k ∷ l) = grow_wanted l
    grow_wanted (wants p ∷ l) = rw (wanted_append, wanted_append, wanted_place, grow_wanted l)

    old_end : (k : ℕ) → k ≤ n → eqb k (suc n) ≡ false
    old_end k h = not_true (eqb k (suc n)) λ t. omega (arith, eqb→eq k (suc n) t)

    pub grow_first : {Q : ℕ → Type 0} {l : List (Outcome ℕ)} → AllOut (λ k. k ≤ n) Q l → first_is (suc n) (grow r b n l) ≡ has_end (afters r b (fronts l))
    unfolding grow
    grow_first none = refl
    grow_first (end {k = k} h t) = old_end k h
    grow_first (wish q t) = rw (first_is_place, has_end_append, grow_first t)

    pub grow_some : {Q : ℕ → Type 0} {l : List (Outcome ℕ)} → AllOut (λ k. k ≤ n) Q l → some_is (suc n) (grow r b n l) ≡ has_end (afters r b (wanted l))
    unfolding grow
    grow_some none = refl
    grow_some (end {k = k} h t) = rw (old_end k h) (grow_some t)
    grow_some (wish q t) = rw (some_is_place, has_end_append, grow_some t)

  -- As sets.
  pub afters_member : (q : ℕ) (l : List ℕ) → member q (wanted (afters r b l)) ≡ any (λ p. member q (wanted (after r b p))) l
  afters_member q [] = refl
  afters_member q (p ∷ l) = rw (wanted_append, member_append, afters_member q l)

  pub afters_end : (l : List ℕ) → has_end (afters r b l) ≡ any (λ p. has_end (after r b p)) l
  afters_end [] = refl
  afters_end (p ∷ l) = rw (has_end_append, afters_end l)

  pub afters_append : (l m : List ℕ) → afters r b (l ++ m) ≡ afters r b l ++ afters r b m
  afters_append [] m = refl
  afters_append (p ∷ l) m = rw (afters_append l m, append_assoc)

  -- A leaf that was there before adds nothing.
  pub again : (s : List ℕ) (p : ℕ) (l : List ℕ) → T (member p s) → once (fronts (afters r b (s ++ (p ∷ l)))) ≡ once (fronts (afters r b (s ++ l)))
  again s p l m =
      rw (afters_append s (p ∷ l), afters_append s l, fronts_append (afters r b s) (afters r b (p ∷ l)), fronts_append (afters r b s) (afters r b l))
      (go (has_end (afters r b s)) refl)
    where
      go : (c : Bool) → has_end (afters r b s) ≡ c
          → once (fronts (afters r b s) ++ cond c [] (fronts (afters r b (p ∷ l)))) ≡ once (fronts (afters r b s) ++ cond c [] (fronts (afters r b l)))
      go true e = refl
      go false e =
          let noEnd : has_end (after r b p) ≡ false =
          not_true (has_end (after r b p)) λ t.
          true≢false (sym (T_true (has_end (afters r b s)) (rw (afters_end s) (any_of (λ q. has_end (after r b q)) s p m t))) ∙ e) in
          let seen : Within (fronts (after r b p)) (once (fronts (afters r b s))) =
          λ q t. rw (gather_member q [] (fronts (afters r b s)), fronts_all (afters r b s) e, afters_member q s)
          (any_of (λ c. member q (wanted (after r b c))) s p m (rw (fronts_all (after r b p) noEnd) at t)) in
          rw (
            fronts_append (after r b p) (afters r b l),
            noEnd,
            gather_append [] (fronts (afters r b s)) (fronts (after r b p) ++ fronts (afters r b l)),
            gather_append (once (fronts (afters r b s))) (fronts (after r b p)) (fronts (afters r b l)),
            gather_absorb (once (fronts (afters r b s))) (fronts (after r b p)) seen,
            gather_append [] (fronts (afters r b s)) (fronts (afters r b l)),
          )

  pub forget : (s l : List ℕ) → once (fronts (afters r b (gather s l))) ≡ once (fronts (afters r b (s ++ l)))
  forget s [] = rw append-nil
  forget s (p ∷ l) = forget (cond (member p s) s (s ++ (p ∷ []))) l ∙ go (member p s) refl
    where
      go : (c : Bool) → member p s ≡ c → once (fronts (afters r b (cond c s (s ++ (p ∷ [])) ++ l))) ≡ once (fronts (afters r b (s ++ (p ∷ l))))
      go true e = sym (again s p l (true_T (member p s) e))
      go false e = rw append_assoc

  afters_same_end : (l m : List ℕ) → Within l m → Within m l → has_end (afters r b l) ≡ has_end (afters r b m)
  afters_same_end l m g h = rw (afters_end l, afters_end m) (any_same _ l m g h)

  afters_same_set : (l m : List ℕ) → Within l m → Within m l → set_of r (wanted (afters r b l)) ≡ set_of r (wanted (afters r b m))
  afters_same_set l m g h =
      filter_same _ _ (from 0 (count r)) λ q. rw (afters_member q l, afters_member q m) (any_same _ l m g h)

-- The set of a list of leaves.
pub wanted_in : {K : Type 0} {P : K → Type 0} {Q : ℕ → Type 0} {l : List (Outcome K)} → AllOut P Q l → (p : ℕ) → T (member p (wanted l)) → Q p
wanted_in none p m = absurd m
wanted_in (end h t) p m = wanted_in t p m
wanted_in {Q = Q} (wish {p = q} {l = l} h t) p m =
    either (λ e. subst Q (sym (eqb→eq p q e)) h) (λ c. wanted_in t p c) (or_cases (eqb p q) (member p (wanted l)) m)

pub set_of_below : (r : Re) (l : List ℕ) → Within (set_of r l) l
set_of_below r l p m = filter_passes (λ q. member q l) (from 0 (count r)) p m

pub set_of_above : (r : Re) (l : List ℕ) → ((p : ℕ) → T (member p l) → p < count r) → Within l (set_of r l)
set_of_above r l h p m = filter_of (λ q. member q l) (from 0 (count r)) p m (member_from p 0 (count r) (omega arith) (omega (arith, h p m)))

-- THE STEP.
pub step : (r : Re) → Numbered 0 r → (w : List ℕ) (b : ℕ) → standing r (w ++ (b ∷ [])) ≡ next r (standing r w) b
unfolding standing next
step r d w b =
    let l = outcomes r w 0 in
    let grown : outcomes r (w ++ (b ∷ [])) 0 ≡ grow r b (length w) l = extend w b r 0 d 0 (omega arith) in
    let size : length (w ++ (b ∷ [])) ≡ suc (length w) = omega (arith, length-append w (b ∷ [])) in
    let inside : AllOut (λ k. k ≤ length w) (Leaf r) l = all_map (λ k c. omega arith) (λ p c. c) (outcomes_all r w 0) in
    let leaves : (p : ℕ) → T (member p (wanted l)) → p < count r = λ p m. let c = leaf_range 0 d (wanted_in inside p m) in omega arith in
    let o : once (fronts (outcomes r (w ++ (b ∷ [])) 0)) ≡ once (fronts (afters r b (once (fronts l)))) =
    rw (grown, grow_fronts r b (length w) l) (sym (forget r b [] (fronts l))) in
    let f : first_is (length (w ++ (b ∷ []))) (outcomes r (w ++ (b ∷ [])) 0) ≡ has_end (afters r b (once (fronts l))) =
    rw (size, grown, grow_first r b (length w) inside)
    (afters_same_end r b (fronts l) (once (fronts l)) (once_within (fronts l)).0 (once_within (fronts l)).1) in
    let a : set_of r (wanted (outcomes r (w ++ (b ∷ [])) 0)) ≡ set_of r (wanted (afters r b (set_of r (wanted l)))) =
    rw (grown, grow_wanted r b (length w) l)
    (afters_same_set r b (wanted l) (set_of r (wanted l)) (set_of_above r (wanted l) leaves) (set_of_below r (wanted l))) in
    let s : some_is (length (w ++ (b ∷ []))) (outcomes r (w ++ (b ∷ [])) 0) ≡ has_end (afters r b (set_of r (wanted l))) =
    rw (size, grown, grow_some r b (length w) inside)
    (afters_same_end r b (wanted l) (set_of r (wanted l)) (set_of_above r (wanted l) leaves) (set_of_below r (wanted l))) in
    λ i. record { order = o i; first = f i; all = a i; some = s i }

-- (a) and (b) from (a) alone, (c) and (d) from (c) alone.
module _ (r : Re) (s t : Standing) (b : ℕ) where
  pub next_greedy : s.order ≡ t.order → ((next r s b).order ≡ (next r t b).order) × ((next r s b).first ≡ (next r t b).first)
  unfolding next
  next_greedy e = (ap (λ l. once (fronts (afters r b l))) e, ap (λ l. has_end (afters r b l)) e)

  pub next_posix : s.all ≡ t.all → ((next r s b).all ≡ (next r t b).all) × ((next r s b).some ≡ (next r t b).some)
  unfolding next
  next_posix e = (ap (λ l. set_of r (wanted (afters r b l))) e, ap (λ l. has_end (afters r b l)) e)

-- THE FIRST STANDING, from what depends on no line.
pub step_start : (r : Re) → standing r [] ≡ record { order = once (fronts (start r)); first = has_end (start r); all = set_of r (wanted (start r)); some = has_end (start r) }
unfolding standing
step_start r =
    let e : outcomes r [] 0 ≡ place 0 (start r) = outcomes_end r [] in
    let o : once (fronts (outcomes r [] 0)) ≡ once (fronts (start r)) = rw (e, fronts_place) in
    let f : first_is 0 (outcomes r [] 0) ≡ has_end (start r) = rw (e, ← append-nil (place 0 (start r)), first_is_place, or_false) in
    let a : set_of r (wanted (outcomes r [] 0)) ≡ set_of r (wanted (start r)) = rw (e, wanted_place) in
    let s : some_is 0 (outcomes r [] 0) ≡ has_end (start r) = rw (e, ← append-nil (place 0 (start r)), some_is_place, or_false) in
    λ i. record { order = o i; first = f i; all = a i; some = s i }
