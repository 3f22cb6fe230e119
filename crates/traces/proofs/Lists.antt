-- Laws of `replace`, `plain` and `carry`.
-- Assumes nothing.
use mathlib.Core.Path.{◌≡◌, refl, ap}
use Prim.Native.Nat.{ℕ}
use mathlib.Core.List.{List, [], ◌∷◌, ◌++◌, append_assoc}
use native.Mathlib.Omega.{arith}
use Rattle.theory.specs.Outcomes.{Outcome}
use Rattle.theory.specs.Outcomes as Plain
use Rattle.theory.proofs.Outcomes.{AllOut}
use Rattle.traces.specs.Traces.{Carried, ends_at, wants, replace, and_then, end, plain, carry}

module _ {C D : Type 0} where
  pub replace_append : (f g : ℕ → C → List (Carried D)) (l m : List (Carried C)) → replace f g (l ++ m) ≡ replace f g l ++ replace f g m
  replace_append f g [] m = refl
  replace_append f g (ends_at k v ∷ l) m = rw (replace_append f g l m, append_assoc)
  replace_append f g (wants p v ∷ l) m = rw (replace_append f g l m, append_assoc)

  -- It looks only at what the list holds.
  pub replace_congr : {P Q : ℕ → Type 0} {f f' g g' : ℕ → C → List (Carried D)} (l : List (Carried C)) → AllOut P Q (plain l)
      → ((k : ℕ) (v : C) → P k → f k v ≡ f' k v) → ((p : ℕ) (v : C) → Q p → g p v ≡ g' p v) → replace f g l ≡ replace f' g' l
  replace_congr [] h a b = refl
  replace_congr (ends_at k v ∷ l) (AllOut.end x h) a b = rw (a k v x, replace_congr l h a b)
  replace_congr (wants p v ∷ l) (AllOut.wish x h) a b = rw (b p v x, replace_congr l h a b)

pub replace_replace : {C D E : Type 0} (f g : ℕ → C → List (Carried D)) (f' g' : ℕ → D → List (Carried E)) (l : List (Carried C))
    → replace f' g' (replace f g l) ≡ replace (λ k v. replace f' g' (f k v)) (λ p v. replace f' g' (g p v)) l
replace_replace f g f' g' [] = refl
replace_replace f g f' g' (ends_at k v ∷ l) = rw (replace_append, replace_replace f g f' g' l)
replace_replace f g f' g' (wants p v ∷ l) = rw (replace_append, replace_replace f g f' g' l)

-- Without what they carry.
pub plain_append : {C : Type 0} (l m : List (Carried C)) → plain (l ++ m) ≡ plain l ++ plain m
plain_append [] m = refl
plain_append (ends_at k v ∷ l) m = rw (plain_append l m)
plain_append (wants p v ∷ l) m = rw (plain_append l m)

pub plain_none : {C : Type 0} (l : List (Carried C)) → plain l ≡ [] → l ≡ []
plain_none [] e = refl
plain_none (ends_at k v ∷ l) e = absurd (let z : ◌≡◌ {A = ℕ} 0 1 = cc in omega arith)
plain_none (wants p v ∷ l) e = absurd (let z : ◌≡◌ {A = ℕ} 0 1 = cc in omega arith)

pub plain_carry : {C : Type 0} (v : C) (l : List (Outcome ℕ)) → plain (carry v l) ≡ l
plain_carry v [] = refl
plain_carry v (Outcome.ends_at k ∷ l) = ap (λ m. Outcome.ends_at k ∷ m) (plain_carry v l)
plain_carry v (Outcome.wants p ∷ l) = ap (λ m. Outcome.wants p ∷ m) (plain_carry v l)

pub plain_and_then : {C : Type 0} (f : ℕ → C → List (Carried C)) (F : ℕ → List (Outcome ℕ)) → ((k : ℕ) (v : C) → plain (f k v) ≡ F k) → (l : List (Carried C))
    → plain (and_then l f) ≡ Plain.and_then (plain l) F
plain_and_then f F a [] = refl
plain_and_then f F a (ends_at k v ∷ l) = rw (plain_append, a k v, plain_and_then f F a l)
plain_and_then f F a (wants p v ∷ l) = rw (plain_and_then f F a l)

-- A list of ends alone.
pub replace_ends : {C : Type 0} {P : ℕ → Type 0} (g : ℕ → C → List (Carried C)) (v : C) {l : List (Outcome ℕ)} → AllOut P (λ p. ⊥) l → replace end g (carry v l) ≡ carry v l
replace_ends g v AllOut.none = refl
replace_ends g v (AllOut.end {k = k} x h) = ap (λ m. ends_at k v ∷ m) (replace_ends g v h)
replace_ends g v (AllOut.wish x h) = absurd x
