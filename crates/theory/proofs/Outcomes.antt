-- Laws of `replace`: it goes through `++`, two in a row are one, and it looks only at what the list holds.
-- Assumes nothing.
use mathlib.Core.Path.{◌≡◌, refl, subst}
use mathlib.Core.Logic.{◌⊎◌}
use Prim.Native.Nat.{ℕ}
use mathlib.Core.Bool.{◌||◌}
use mathlib.Core.List.{List, [], ◌∷◌, ◌++◌, append_assoc}
use lib.Dec.{T, eqb, eqb→eq}
use Rattle.theory.specs.Outcomes.{Outcome, ends_at, wants, replace}
use Rattle.theory.specs.Standing.{some_is}
use Rattle.theory.proofs.Tests.{or_left, or_right, or_cases, or_assoc, either}

-- The ends of a list, in its order.
abbrev pub ends : List (Outcome ℕ) → List ℕ
ends [] = []
ends (ends_at k ∷ l) = k ∷ ends l
ends (wants p ∷ l) = ends l

-- Each end of a list is in P, and each wanted leaf in Q.
pub data AllOut {K : Type 0} (P : K → Type 0) (Q : ℕ → Type 0) : List (Outcome K) → Type 0 where
  none : AllOut P Q []
  end : {k : K} {l : List (Outcome K)} → P k → AllOut P Q l → AllOut P Q (ends_at k ∷ l)
  wish : {p : ℕ} {l : List (Outcome K)} → Q p → AllOut P Q l → AllOut P Q (wants p ∷ l)

module _ {K L : Type 0} where
  pub replace_append : (f : K → List (Outcome L)) (g : ℕ → List (Outcome L)) (l m : List (Outcome K)) → replace f g (l ++ m) ≡ replace f g l ++ replace f g m
  replace_append f g [] m = refl
  replace_append f g (ends_at k ∷ l) m = rw (replace_append f g l m, append_assoc)
  replace_append f g (wants p ∷ l) m = rw (replace_append f g l m, append_assoc)

  pub replace_congr : {f f' : K → List (Outcome L)} {g g' : ℕ → List (Outcome L)} {l : List (Outcome K)} → AllOut (λ k. f k ≡ f' k) (λ p. g p ≡ g' p) l → replace f g l ≡ replace f' g' l
  replace_congr none = refl
  replace_congr (end e h) = rw (e, replace_congr h)
  replace_congr (wish e h) = rw (e, replace_congr h)

pub replace_replace : {K L M : Type 0} (f : K → List (Outcome L)) (g : ℕ → List (Outcome L)) (f' : L → List (Outcome M)) (g' : ℕ → List (Outcome M)) (l : List (Outcome K))
    → replace f' g' (replace f g l) ≡ replace (λ k. replace f' g' (f k)) (λ p. replace f' g' (g p)) l
replace_replace f g f' g' [] = refl
replace_replace f g f' g' (ends_at k ∷ l) = rw (replace_append, replace_replace f g f' g' l)
replace_replace f g f' g' (wants p ∷ l) = rw (replace_append, replace_replace f g f' g' l)

module _ {K : Type 0} {P P' : K → Type 0} {Q Q' : ℕ → Type 0} where
  pub all_map : {l : List (Outcome K)} → ((k : K) → P k → P' k) → ((p : ℕ) → Q p → Q' p) → AllOut P Q l → AllOut P' Q' l
  all_map a b none = none
  all_map a b (end {k = k} x h) = end (a k x) (all_map a b h)
  all_map a b (wish {p = p} x h) = wish (b p x) (all_map a b h)

module _ {K : Type 0} {P : K → Type 0} {Q : ℕ → Type 0} where
  pub all_append : {l m : List (Outcome K)} → AllOut P Q l → AllOut P Q m → AllOut P Q (l ++ m)
  all_append none h' = h'
  all_append (end x h) h' = end x (all_append h h')
  all_append (wish x h) h' = wish x (all_append h h')

pub all_replace : {K L : Type 0} {P : K → Type 0} {Q : ℕ → Type 0} {P' : L → Type 0} {Q' : ℕ → Type 0} {f : K → List (Outcome L)} {g : ℕ → List (Outcome L)} {l : List (Outcome K)}
    → ((k : K) → P k → AllOut P' Q' (f k)) → ((p : ℕ) → Q p → AllOut P' Q' (g p)) → AllOut P Q l → AllOut P' Q' (replace f g l)
all_replace a b none = none
all_replace a b (end {k = k} x h) = all_append (a k x) (all_replace a b h)
all_replace a b (wish {p = p} x h) = all_append (b p x) (all_replace a b h)

-- The ends of two lists joined.
pub some_append : (k : ℕ) (l m : List (Outcome ℕ)) → some_is k (l ++ m) ≡ some_is k l || some_is k m
some_append k [] m = refl
some_append k (ends_at j ∷ l) m = rw (some_append k l m, or_assoc)
some_append k (wants p ∷ l) m = some_append k l m

pub some_cases : (k : ℕ) (l m : List (Outcome ℕ)) → T (some_is k (l ++ m)) → T (some_is k l) ⊎ T (some_is k m)
some_cases k l m t = or_cases (some_is k l) (some_is k m) (rw (some_append k l m) at t)

pub some_left : (k : ℕ) (l m : List (Outcome ℕ)) → T (some_is k l) → T (some_is k (l ++ m))
some_left k l m t = rw (some_append k l m) (or_left (some_is k l) (some_is k m) t)

pub some_right : (k : ℕ) (l m : List (Outcome ℕ)) → T (some_is k m) → T (some_is k (l ++ m))
some_right k l m t = rw (some_append k l m) (or_right (some_is k l) (some_is k m) t)

-- An end of a list is in P if all its ends are.
pub some_in : {P Q : ℕ → Type 0} {l : List (Outcome ℕ)} → AllOut P Q l → (k : ℕ) → T (some_is k l) → P k
some_in none k m = absurd m
some_in {P = P} (end {k = j} {l = l} h t) k m = either (λ e. subst P (eqb→eq j k e) h) (λ c. some_in t k c) (or_cases (eqb j k) (some_is k l) m)
some_in (wish h t) k m = some_in t k m
