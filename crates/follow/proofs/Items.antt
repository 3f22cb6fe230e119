-- Lists of outcomes: their numbers, and what the first outcome of a number carries.
-- Assumes nothing.
use mathlib.Core.Path.{◌≡◌, refl, sym, ap}
use Prim.Native.Nat.{ℕ, zero, suc}
use mathlib.Core.Bool.{Bool, true, false, ◌||◌, cond}
use mathlib.Core.List.{List, [], ◌∷◌, ◌++◌, map}
use lib.Dec.{T, eqb}
use borrow.Author.Tests.{eqb-true}
use Rattle.theory.specs.Standing.{member, gather, once}
use Rattle.theory.proofs.Members.{gather_append}
use Rattle.traces.specs.Traces.{Carried, ends_at, wants}
use Rattle.traces.specs.Code.Pass.{Sets, item, items}
use Rattle.traces.specs.Code.Sets.{join, joined}
use Rattle.traces.specs.Code.Marks.{carried_by, sets_of}

-- The numbers of a list that goes on.
pub items_append : (l m : List (Carried Sets)) → items (l ++ m) ≡ items l ++ items m
items_append [] m = refl
items_append (o ∷ l) m = ap (λ v. item o ∷ v) (items_append l m)

pub items_joined : (s : Sets) (m : List (Carried Sets)) → items (joined s m) ≡ items m
items_joined s [] = refl
items_joined s (ends_at k u ∷ m) = ap (λ v. 0 ∷ v) (items_joined s m)
items_joined s (wants p u ∷ m) = ap (λ v. suc p ∷ v) (items_joined s m)

pub once_append : (l m : List (Carried Sets)) → once (items (l ++ m)) ≡ gather (once (items l)) (items m)
once_append l m = rw (items_append l m, gather_append [] (items l) (items m))

-- What the first outcome q of it carries.
first_joined : (s u v w : Sets) (c d : Bool) → (T d → v ≡ join s w) → T (c || d) → cond c (join s u) v ≡ join s (cond c u w)
first_joined s u v w true d f t = refl
first_joined s u v w false d f t = f t

module _ (q : ℕ) where
  pub sets_append : (l m : List (Carried Sets)) → sets_of q (l ++ m) ≡ cond (member q (items l)) (sets_of q l) (sets_of q m)
  sets_append [] m = refl
  sets_append (o ∷ l) m = go (eqb q (item o)) (sets_append l m)
    where
      go : (c : Bool) → sets_of q (l ++ m) ≡ cond (member q (items l)) (sets_of q l) (sets_of q m)
          → cond c (carried_by o) (sets_of q (l ++ m)) ≡ cond (c || member q (items l)) (cond c (carried_by o) (sets_of q l)) (sets_of q m)
      go true e = refl
      go false e = e

  pub sets_joined : (s : Sets) (m : List (Carried Sets)) → T (member q (items m)) → sets_of q (joined s m) ≡ join s (sets_of q m)
  sets_joined s [] t = absurd t
  sets_joined s (ends_at k u ∷ m) t = first_joined s u _ _ (eqb q 0) (member q (items m)) (sets_joined s m) t
  sets_joined s (wants p u ∷ m) t = first_joined s u _ _ (eqb q (suc p)) (member q (items m)) (sets_joined s m) t

-- The outcome p with the fields s, and each number of a list with its fields.
abbrev pub outcome : ℕ → Sets → Carried Sets
outcome zero s = ends_at 0 s
outcome (suc p) s = wants p s

pub outcome_item : (p : ℕ) (s : Sets) → item (outcome p s) ≡ p
outcome_item zero s = refl
outcome_item (suc p) s = refl

pub outcome_sets : (p : ℕ) (s : Sets) → carried_by (outcome p s) ≡ s
outcome_sets zero s = refl
outcome_sets (suc p) s = refl

abbrev pub outcomes : (ℕ → Sets) → List ℕ → List (Carried Sets)
outcomes f v = map (λ p. outcome p (f p)) v

pub outcomes_items : (f : ℕ → Sets) (v : List ℕ) → items (outcomes f v) ≡ v
outcomes_items f [] = refl
outcomes_items f (p ∷ v) = rw (outcome_item p (f p), outcomes_items f v)

pub outcomes_sets : (f : ℕ → Sets) (q : ℕ) (v : List ℕ) → T (member q v) → sets_of q (outcomes f v) ≡ f q
outcomes_sets f q [] t = absurd t
outcomes_sets f q (p ∷ v) t = rw (outcome_item p (f p), outcome_sets p (f p)) (go (eqb q p) refl (outcomes_sets f q v) t)
  where
    go : (c : Bool) → eqb q p ≡ c → (T (member q v) → sets_of q (outcomes f v) ≡ f q) → T (c || member q v) → cond c (f p) (sets_of q (outcomes f v)) ≡ f q
    go true e below t = ap f (sym (eqb-true q p e))
    go false e below t = below t
