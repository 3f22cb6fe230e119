-- Lists with the same set of outcomes: their laws, and what is read off the set, which is all that is POSIX.
-- Assumes nothing.
use mathlib.Core.Path.{◌≡◌, refl, sym, ap, subst}
use mathlib.Core.Logic.{◌⊎◌, inl, inr}
use Prim.Native.Nat.{ℕ}
use mathlib.Core.List.Memᴰ
use mathlib.Core.List.Memᴰ.{head}
use mathlib.Core.List.Memᴰ.{tail}
use mathlib.Core.List.{List, [], ◌∷◌, ◌++◌, Memᴰ as Mem}
use native.Mathlib.Omega.{arith}
use lib.Dec.{T, eqb, eqb→eq, eqb_refl}
use Rattle.theory.specs.Outcomes.{Outcome, ends_at, wants, and_then}
use Rattle.theory.specs.Spans.{greatest_end}
use Rattle.theory.specs.Standing.{wanted, some_is, member}
use Rattle.theory.proofs.Tests.{same_test, or_left, or_right, or_cases, either}
use Rattle.theory.proofs.Cut.{greatest_same}

end_place : {j k : ℕ} → ◌≡◌ {A = Outcome ℕ} (ends_at j) (ends_at k) → j ≡ k
end_place e = cc

leaf_number : {p q : ℕ} → ◌≡◌ {A = Outcome ℕ} (wants p) (wants q) → p ≡ q
leaf_number e = cc

end_not_wish : {k p : ℕ} → ◌≡◌ {A = Outcome ℕ} (ends_at k) (wants p) → ⊥
end_not_wish e = let z : ◌≡◌ {A = ℕ} 0 1 = cc in omega arith

-- `m` has all the outcomes that `l` has.
abbrev pub Into : List (Outcome ℕ) → List (Outcome ℕ) → Type 0
Into l m = (o : Outcome ℕ) → Mem o l → Mem o m

abbrev pub Same : List (Outcome ℕ) → List (Outcome ℕ) → Type 0
Same l m = Into l m × Into m l

module _ (f : ℕ → List (Outcome ℕ)) where
  pub then_found : {o : Outcome ℕ} (l : List (Outcome ℕ)) → Mem o (and_then l f) → ((k : ℕ) × Mem (ends_at k) l × Mem o (f k)) ⊎ ((p : ℕ) × Mem (wants p) l × (o ≡ wants p))
  then_found [] m = absurd (Memᴰ.not-nil m)
  then_found (ends_at k ∷ l) m =
      either (λ t. inl (k, head refl, t)) (λ t. either (λ (j, a, b). inl (j, tail a, b)) (λ (p, a, b). inr (p, tail a, b)) (then_found l t)) (Memᴰ.append_cases (f k) m)
  then_found (wants p ∷ l) m =
      either (λ e. inr (p, head refl, e)) (λ t. either (λ (j, a, b). inl (j, tail a, b)) (λ (q, a, b). inr (q, tail a, b)) (then_found l t)) (Memᴰ.cases_cons m)

  pub then_end : {o : Outcome ℕ} {k : ℕ} (l : List (Outcome ℕ)) → Mem (ends_at k) l → Mem o (f k) → Mem o (and_then l f)
  then_end [] m t = absurd (Memᴰ.not-nil m)
  then_end {o} {k} (ends_at j ∷ l) m t =
      either (λ e. Memᴰ.append_left (and_then l f) (subst (λ c. Mem o (f c)) (end_place e) t)) (λ n. Memᴰ.append_right (f j) (then_end l n t)) (Memᴰ.cases_cons m)
  then_end (wants p ∷ l) m t = either (λ e. absurd (end_not_wish e)) (λ n. tail (then_end l n t)) (Memᴰ.cases_cons m)

  pub then_wish : {p : ℕ} (l : List (Outcome ℕ)) → Mem (wants p) l → Mem (wants p) (and_then l f)
  then_wish [] m = m
  then_wish (ends_at j ∷ l) m = either (λ e. absurd (end_not_wish (sym e))) (λ n. Memᴰ.append_right (f j) (then_wish l n)) (Memᴰ.cases_cons m)
  then_wish (wants p ∷ l) m = either (λ e. head e) (λ n. tail (then_wish l n)) (Memᴰ.cases_cons m)

into_append : {l l' m m' : List (Outcome ℕ)} → Into l l' → Into m m' → Into (l ++ m) (l' ++ m')
into_append {l} {l'} {m} {m'} a b o t = either (λ n. Memᴰ.append_left m' (a o n)) (λ n. Memᴰ.append_right l' (b o n)) (Memᴰ.append_cases l t)

pub into_then : {f g : ℕ → List (Outcome ℕ)} {l m : List (Outcome ℕ)} → Into l m → ((k : ℕ) → Into (f k) (g k)) → Into (and_then l f) (and_then m g)
into_then {f} {g} {l} {m} a b o t =
    either (λ (k, n, u). then_end g m (a (ends_at k) n) (b k o u)) (λ (p, n, e). subst (λ c. Mem c (and_then m g)) (sym e) (then_wish g m (a (wants p) n))) (then_found f l t)

pub same_append : {l l' m m' : List (Outcome ℕ)} → Same l l' → Same m m' → Same (l ++ m) (l' ++ m')
same_append a b = (into_append a.0 b.0, into_append a.1 b.1)

pub same_then : {f g : ℕ → List (Outcome ℕ)} {l m : List (Outcome ℕ)} → Same l m → ((k : ℕ) → Same (f k) (g k)) → Same (and_then l f) (and_then m g)
same_then a b = (into_then a.0 (λ k. (b k).0), into_then a.1 (λ k. (b k).1))

pub same_trans : {l m n : List (Outcome ℕ)} → Same l m → Same m n → Same l n
same_trans a b = (λ o t. b.0 o (a.0 o t), λ o t. a.1 o (b.1 o t))

pub same_swap : (l m : List (Outcome ℕ)) → Same (l ++ m) (m ++ l)
same_swap l m = (go l m, go m l)
  where
    go : (l m : List (Outcome ℕ)) → Into (l ++ m) (m ++ l)
    go l m o t = either (λ n. Memᴰ.append_right m n) (λ n. Memᴰ.append_left l n) (Memᴰ.append_cases l t)

-- What is read off the set: whether some end is k, and whether p is wanted.
some_of_in : (k : ℕ) (l : List (Outcome ℕ)) → T (some_is k l) → Mem (ends_at k) l
some_of_in k [] t = absurd t
some_of_in k (ends_at j ∷ l) t = either (λ e. head (ap ends_at (sym (eqb→eq j k e)))) (λ n. tail (some_of_in k l n)) (or_cases (eqb j k) (some_is k l) t)
some_of_in k (wants p ∷ l) t = tail (some_of_in k l t)

in_some : (k : ℕ) (l : List (Outcome ℕ)) → Mem (ends_at k) l → T (some_is k l)
in_some k [] m = absurd (Memᴰ.not-nil m)
in_some k (ends_at j ∷ l) m = either (λ e. or_left (eqb j k) (some_is k l) (subst (λ c. T (eqb j c)) (sym (end_place e)) (eqb_refl j))) (λ n. or_right (eqb j k) (some_is k l) (in_some k l n)) (Memᴰ.cases_cons m)
in_some k (wants p ∷ l) m = either (λ e. absurd (end_not_wish e)) (λ n. in_some k l n) (Memᴰ.cases_cons m)

wanted_of_in : (p : ℕ) (l : List (Outcome ℕ)) → T (member p (wanted l)) → Mem (wants p) l
wanted_of_in p [] t = absurd t
wanted_of_in p (ends_at j ∷ l) t = tail (wanted_of_in p l t)
wanted_of_in p (wants q ∷ l) t = either (λ e. head (ap wants (eqb→eq p q e))) (λ n. tail (wanted_of_in p l n)) (or_cases (eqb p q) (member p (wanted l)) t)

in_wanted : (p : ℕ) (l : List (Outcome ℕ)) → Mem (wants p) l → T (member p (wanted l))
in_wanted p [] m = absurd (Memᴰ.not-nil m)
in_wanted p (ends_at j ∷ l) m = either (λ e. absurd (end_not_wish (sym e))) (λ n. in_wanted p l n) (Memᴰ.cases_cons m)
in_wanted p (wants q ∷ l) m = either (λ e. or_left (eqb p q) (member p (wanted l)) (subst (λ c. T (eqb c q)) (sym (leaf_number e)) (eqb_refl q))) (λ n. or_right (eqb p q) (member p (wanted l)) (in_wanted p l n)) (Memᴰ.cases_cons m)

module _ {l m : List (Outcome ℕ)} (s : Same l m) where
  pub set_some : (k : ℕ) → some_is k l ≡ some_is k m
  set_some k = same_test (some_is k l) (some_is k m) (λ t. in_some k m (s.0 (ends_at k) (some_of_in k l t))) (λ t. in_some k l (s.1 (ends_at k) (some_of_in k m t)))

  pub set_wanted : (p : ℕ) → member p (wanted l) ≡ member p (wanted m)
  set_wanted p = same_test (member p (wanted l)) (member p (wanted m)) (λ t. in_wanted p m (s.0 (wants p) (wanted_of_in p l t))) (λ t. in_wanted p l (s.1 (wants p) (wanted_of_in p m t)))

  pub set_greatest : greatest_end l ≡ greatest_end m
  set_greatest = greatest_same l m (λ k t. subst T (set_some k) t) (λ k t. subst T (sym (set_some k)) t)
