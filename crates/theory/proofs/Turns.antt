-- The laws of r*'s two choices: what an empty turn leaves in the list, and where the end without a turn stands.
-- The other laws of the order of preference look into neither, so that either may change here alone.
-- Assumes nothing.
use mathlib.Core.Path.{◌≡◌, refl, ap}
use mathlib.Core.Logic.{◌⊎◌, inl, inr}
use Prim.Native.Nat.{ℕ}
use mathlib.Core.Bool.{Bool, true, false, cond}
use mathlib.Core.List.Memᴰ
use mathlib.Core.List.Memᴰ.{head}
use mathlib.Core.List.Memᴰ.{tail}
use mathlib.Core.List.{List, [], ◌∷◌, Memᴰ as Mem}
use lib.Dec.{T, eqb, eqb→eq, eqb_refl, ltb}
use Rattle.theory.specs.Pattern.{Manner, eager, lazy}
use Rattle.theory.specs.Outcomes.{Outcome, ends_at, wants, replace, and_then, empty_turn, after_turn, then_leave}
use Rattle.theory.specs.Standing.{some_is}
use Rattle.theory.proofs.Tests.{or_left, or_right, or_cases, either}
use Rattle.theory.proofs.Outcomes.{AllOut, none, end, replace_append, all_append, some_in, some_cases, some_left, some_right}

module _ {K : Type 0} {P : K → Type 0} {Q : ℕ → Type 0} where
  pub all_empty_turn : (i : K) → P i → AllOut P Q (empty_turn i)
  unfolding empty_turn
  all_empty_turn i h = end h none

  pub all_then_leave : (how : Manner) {l : List (Outcome K)} (i : K) → AllOut P Q l → P i → AllOut P Q (then_leave how l i)
  unfolding then_leave
  all_then_leave eager i h c = all_append h (end c none)
  all_then_leave lazy i h c = end c h

-- Moved to other places, by h, they are what they are at those.
module _ {K L : Type 0} (h : K → L) (g : ℕ → List (Outcome L)) where
  pub replace_empty_turn : (i : K) → replace (λ k. ends_at (h k) ∷ []) g (empty_turn i) ≡ empty_turn (h i)
  unfolding empty_turn
  replace_empty_turn i = refl

  pub replace_then_leave : (how : Manner) (l : List (Outcome K)) (i : K) → replace (λ k. ends_at (h k) ∷ []) g (then_leave how l i) ≡ then_leave how (replace (λ k. ends_at (h k) ∷ []) g l) (h i)
  unfolding then_leave
  replace_then_leave eager l i = replace_append (λ k. ends_at (h k) ∷ []) g l (ends_at i ∷ [])
  replace_then_leave lazy l i = refl

-- A list whose ends are taken for empty turns is itself.
pub and_then_empty_turn : {K : Type 0} (l : List (Outcome K)) → and_then l empty_turn ≡ l
unfolding empty_turn
and_then_empty_turn [] = refl
and_then_empty_turn (ends_at k ∷ l) = ap (λ m. ends_at k ∷ m) (and_then_empty_turn l)
and_then_empty_turn (wants p ∷ l) = ap (λ m. wants p ∷ m) (and_then_empty_turn l)

-- The ends of r* are those of its turns, and i.
pub some_leave : (how : Manner) (i : ℕ) (l : List (Outcome ℕ)) → T (some_is i (then_leave how l i))
unfolding then_leave
some_leave lazy i l = or_left (eqb i i) (some_is i l) (eqb_refl i)
some_leave eager i l = some_right i l (ends_at i ∷ []) (or_left (eqb i i) false (eqb_refl i))

pub some_turns : (how : Manner) (i k : ℕ) (l : List (Outcome ℕ)) → T (some_is k l) → T (some_is k (then_leave how l i))
unfolding then_leave
some_turns lazy i k l t = or_right (eqb i k) (some_is k l) t
some_turns eager i k l t = some_left k l (ends_at i ∷ []) t

pub some_star : (how : Manner) (i k : ℕ) (l : List (Outcome ℕ)) → T (some_is k (then_leave how l i)) → T (some_is k l) ⊎ (i ≡ k)
unfolding then_leave
some_star lazy i k l t = either (λ e. inr (eqb→eq i k e)) inl (or_cases (eqb i k) (some_is k l) t)
some_star eager i k l t = either inl (λ m. inr (either (λ e. eqb→eq i k e) (λ n. absurd n) (or_cases (eqb i k) false m))) (some_cases k l (ends_at i ∷ []) t)

-- An empty turn ends nowhere but at i.
pub some_empty_turn : (i k : ℕ) → T (some_is k (empty_turn i)) → i ≡ k
some_empty_turn i k t = some_in (all_empty_turn {P = λ j. i ≡ j} {Q = λ p. Unit {0}} i refl) k t

-- A turn that ends at k.
pub all_after_turn : {P Q : ℕ → Type 0} {l : List (Outcome ℕ)} (i k : ℕ) → P i → (T (ltb i k) → AllOut P Q l) → AllOut P Q (after_turn i k l)
all_after_turn {P} {Q} {l} i k c = go (ltb i k)
  where
    go : (t : Bool) → (T t → AllOut P Q l) → AllOut P Q (cond t l (empty_turn i))
    go true h = h tt
    go false h = all_empty_turn i c

pub after_turn_congr : {l m : List (Outcome ℕ)} (i k : ℕ) → (T (ltb i k) → l ≡ m) → after_turn i k l ≡ after_turn i k m
after_turn_congr {l} {m} i k = go (ltb i k)
  where
    go : (t : Bool) → (T t → l ≡ m) → cond t l (empty_turn i) ≡ cond t m (empty_turn i)
    go true h = h tt
    go false h = refl

pub replace_after_turn : (h : ℕ → ℕ) (g : ℕ → List (Outcome ℕ)) (i k : ℕ) (l : List (Outcome ℕ)) → ltb (h i) (h k) ≡ ltb i k
    → replace (λ j. ends_at (h j) ∷ []) g (after_turn i k l) ≡ after_turn (h i) (h k) (replace (λ j. ends_at (h j) ∷ []) g l)
replace_after_turn h g i k l e = rw e (go (ltb i k))
  where
    go : (t : Bool) → replace (λ j. ends_at (h j) ∷ []) g (cond t l (empty_turn i)) ≡ cond t (replace (λ j. ends_at (h j) ∷ []) g l) (empty_turn (h i))
    go true = refl
    go false = replace_empty_turn h g i

pub some_after_turn : (i k j : ℕ) (l : List (Outcome ℕ)) → T (some_is j (after_turn i k l)) → (T (ltb i k) × T (some_is j l)) ⊎ (i ≡ j)
some_after_turn i k j l = go (ltb i k)
  where
    go : (t : Bool) → T (some_is j (cond t l (empty_turn i))) → (T t × T (some_is j l)) ⊎ (i ≡ j)
    go true m = inl (tt, m)
    go false m = inr (some_empty_turn i j m)

-- The outcomes of r* are those of its turns, and "ends at i"; those of a turn that ends at k are those of r* from k, or "ends at i".
pub in_then_leave : {o : Outcome ℕ} (how : Manner) (i : ℕ) (l : List (Outcome ℕ)) → Mem o (then_leave how l i) → Mem o l ⊎ (o ≡ ends_at i)
unfolding then_leave
in_then_leave lazy i l m = either inr inl (Memᴰ.cases_cons m)
in_then_leave eager i l m = either inl (λ t. inr (Memᴰ.eq_of_singleton t)) (Memᴰ.append_cases l m)

pub of_turns : {o : Outcome ℕ} {l : List (Outcome ℕ)} (how : Manner) (i : ℕ) → Mem o l → Mem o (then_leave how l i)
unfolding then_leave
of_turns lazy i m = tail m
of_turns eager i m = Memᴰ.append_left (ends_at i ∷ []) m

pub of_leave : {o : Outcome ℕ} (how : Manner) (i : ℕ) (l : List (Outcome ℕ)) → o ≡ ends_at i → Mem o (then_leave how l i)
unfolding then_leave
of_leave lazy i l e = head e
of_leave eager i l e = Memᴰ.append_right l (head e)

pub in_after_turn : {o : Outcome ℕ} {l : List (Outcome ℕ)} (i k : ℕ) → Mem o (after_turn i k l) → (T (ltb i k) × Mem o l) ⊎ (o ≡ ends_at i)
unfolding empty_turn
in_after_turn {o} {l} i k = go (ltb i k)
  where
    go : (t : Bool) → Mem o (cond t l (empty_turn i)) → (T t × Mem o l) ⊎ (o ≡ ends_at i)
    go true m = inl (tt, m)
    go false m = inr (Memᴰ.eq_of_singleton m)

pub of_after_turn : {o : Outcome ℕ} {l : List (Outcome ℕ)} (i k : ℕ) → T (ltb i k) → Mem o l → Mem o (after_turn i k l)
of_after_turn {o} {l} i k = go (ltb i k)
  where
    go : (t : Bool) → T t → Mem o l → Mem o (cond t l (empty_turn i))
    go true c m = m
    go false c m = absurd c
