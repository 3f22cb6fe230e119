-- Laws of `firsts`: what comes a second time counts for nothing. Without their sets the rows are theory's closures.
-- Assumes nothing.
use mathlib.Core.Path.{◌≡◌, refl, sym, ap, ap₂, ◌∙◌, subst}
use Prim.Native.Nat.{ℕ, suc}
use mathlib.Core.Bool.{Bool, true, false, ◌||◌, cond}
use mathlib.Core.List.{List, [], ◌∷◌, ◌++◌, append-nil, append_assoc}
use lib.Dec.{T, eqb, eqb→eq, eqb_refl}
use Rattle.theory.specs.Pattern.{Re}
use Rattle.theory.specs.Outcomes.{Outcome}
use Rattle.theory.specs.Standing.{member, gather, once}
use Rattle.theory.specs.Code.Follow.{Next}
use Rattle.theory.specs.Code.Follow as Plain-rows
use Rattle.theory.specs.Code.Closure.{closure, closure_after}
use Rattle.theory.specs.Code.Closure as Plain-items
use Rattle.theory.proofs.Tests.{true_T, or_left, or_right, or_cases, either}
use Rattle.theory.proofs.Members.{Within, member_append}
use Rattle.theory.proofs.Extend.{place}
use Rattle.theory.proofs.Closure.{closure_right, closure_after_right}
use Rattle.traces.specs.Traces.{Carried, ends_at, wants, plain}
use Rattle.traces.specs.Code.Rows.{start, follow}
use Rattle.traces.specs.Code.Pass.{neither, note, item, items, firsts, first_row, row}
use Rattle.traces.proofs.Rows.{plain_start, plain_follow}

-- What has been seen.
more_seen : (u s : List ℕ) (i : ℕ) → Within u s → T (member i s) → Within (u ++ (i ∷ [])) s
more_seen u s i h m q t =
    either (h q) (λ c. either (λ e. subst (λ x. T (member x s)) (sym (eqb→eq q i e)) m) (λ x. absurd x) (or_cases (eqb q i) false c))
    (or_cases (member q u) (member q (i ∷ [])) (rw (member_append q u (i ∷ [])) at t))

within_append : (s v : List ℕ) → Within s (s ++ v)
within_append s v q t = rw (member_append q s v) (or_left (member q s) (member q v) t)

last_seen : (s : List ℕ) (i : ℕ) → T (member i (s ++ (i ∷ [])))
last_seen s i = rw (member_append i s (i ∷ [])) (or_right (member i s) (eqb i i || false) (or_left (eqb i i) false (eqb_refl i)))

module _ {C : Type 0} where
  -- Each outcome once, as theory's `gather` has it.
  pub gather_firsts : (seen : List ℕ) (l : List (Carried C)) → gather seen (items l) ≡ seen ++ items (firsts seen l)
  gather_firsts seen [] = sym (append-nil seen)
  gather_firsts seen (o ∷ l) = go (member (item o) seen) (gather_firsts seen l) (gather_firsts (seen ++ (item o ∷ [])) l)
    where
      go : (c : Bool) → gather seen (items l) ≡ seen ++ items (firsts seen l)
          → gather (seen ++ (item o ∷ [])) (items l) ≡ (seen ++ (item o ∷ [])) ++ items (firsts (seen ++ (item o ∷ [])) l)
          → gather (cond c seen (seen ++ (item o ∷ []))) (items l) ≡ seen ++ items (cond c (firsts seen l) (o ∷ firsts (seen ++ (item o ∷ [])) l))
      go true x y = x
      go false x y = y ∙ append_assoc seen (item o ∷ []) (items (firsts (seen ++ (item o ∷ [])) l))

  pub items_firsts : (l : List (Carried C)) → items (firsts [] l) ≡ once (items l)
  items_firsts l = sym (gather_firsts [] l)

  -- Two lists joined: the second without what the first had.
  abbrev pub both : List ℕ → List (Carried C) → List ℕ
  both s l = s ++ items (firsts s l)

  pub firsts_append : (s : List ℕ) (l m : List (Carried C)) → firsts s (l ++ m) ≡ firsts s l ++ firsts (both s l) m
  firsts_append s [] m = rw append-nil
  firsts_append s (o ∷ l) m = go (member (item o) s) (firsts_append s l m) (firsts_append (s ++ (item o ∷ [])) l m)
    where
      go : (c : Bool) → firsts s (l ++ m) ≡ firsts s l ++ firsts (both s l) m → firsts (s ++ (item o ∷ [])) (l ++ m) ≡ firsts (s ++ (item o ∷ [])) l ++ firsts (both (s ++ (item o ∷ [])) l) m
          → cond c (firsts s (l ++ m)) (o ∷ firsts (s ++ (item o ∷ [])) (l ++ m))
          ≡ cond c (firsts s l) (o ∷ firsts (s ++ (item o ∷ [])) l) ++ firsts (s ++ items (cond c (firsts s l) (o ∷ firsts (s ++ (item o ∷ [])) l))) m
      go true x y = x
      go false x y = ap (λ z. o ∷ z) (y ∙ ap (λ z. firsts (s ++ (item o ∷ [])) l ++ firsts z m) (append_assoc s (item o ∷ []) (items (firsts (s ++ (item o ∷ [])) l))))

  -- Once is enough.
  firsts_firsts : (s u : List ℕ) (l : List (Carried C)) → Within u s → firsts s (firsts u l) ≡ firsts s l
  firsts_firsts s u [] h = refl
  firsts_firsts s u (o ∷ l) h =
      go (member (item o) u) refl (member (item o) s) refl (firsts_firsts s u l h) (firsts_firsts s (u ++ (item o ∷ [])) l) (firsts_firsts (s ++ (item o ∷ [])) (u ++ (item o ∷ [])) l)
    where
      go : (c : Bool) → member (item o) u ≡ c → (e : Bool) → member (item o) s ≡ e
          → firsts s (firsts u l) ≡ firsts s l
          → (Within (u ++ (item o ∷ [])) s → firsts s (firsts (u ++ (item o ∷ [])) l) ≡ firsts s l)
          → (Within (u ++ (item o ∷ [])) (s ++ (item o ∷ [])) → firsts (s ++ (item o ∷ [])) (firsts (u ++ (item o ∷ [])) l) ≡ firsts (s ++ (item o ∷ [])) l)
          → firsts s (cond c (firsts u l) (o ∷ firsts (u ++ (item o ∷ [])) l)) ≡ cond e (firsts s l) (o ∷ firsts (s ++ (item o ∷ [])) l)
      go true m true n x y z = x
      go true m false n x y z = absurd (subst T n (h (item o) (true_T (member (item o) u) m)))
      go false m true n x y z = rw n (y (more_seen u s (item o) h (true_T (member (item o) s) n)))
      go false m false n x y z =
          rw n (ap (λ v. o ∷ v)
          (z (more_seen u (s ++ (item o ∷ [])) (item o) (λ q t. within_append s (item o ∷ []) q (h q t)) (last_seen s (item o)))))

  pub firsts_once : (s : List ℕ) (l : List (Carried C)) → firsts s (firsts [] l) ≡ firsts s l
  firsts_once s l = firsts_firsts s [] l (λ q t. absurd t)

  -- Lists that are the same once, one after another.
  pub firsts_both : (s : List ℕ) (l l' m m' : List (Carried C)) → firsts s l ≡ firsts s l' → ((u : List ℕ) → firsts u m ≡ firsts u m') → firsts s (l ++ m) ≡ firsts s (l' ++ m')
  firsts_both s l l' m m' e d = firsts_append s l m ∙ ap₂ (λ (a b : List (Carried C)). a ++ b) e (d (both s l) ∙ ap (λ a. firsts (s ++ items a) m') e) ∙ sym (firsts_append s l' m')

-- The rows without their sets are theory's closures.
items_place : {C : Type 0} (l : List (Carried C)) (m : List Next) → plain l ≡ place 0 m → items l ≡ Plain-items.items m
items_place l m e = by_plain l ∙ ap numbers e ∙ by_place m
  where
    numbers : List (Outcome ℕ) → List ℕ
    numbers [] = []
    numbers (Outcome.ends_at k ∷ l) = 0 ∷ numbers l
    numbers (Outcome.wants p ∷ l) = suc p ∷ numbers l

    by_plain : {C : Type 0} (l : List (Carried C)) → items l ≡ numbers (plain l)
    by_plain [] = refl
    by_plain (ends_at k v ∷ l) = ap (λ n. 0 ∷ n) (by_plain l)
    by_plain (wants p v ∷ l) = ap (λ n. suc p ∷ n) (by_plain l)

    by_place : (m : List Next) → numbers (place 0 m) ≡ Plain-items.items m
    by_place [] = refl
    by_place (Outcome.ends_at u ∷ m) = ap (λ n. 0 ∷ n) (by_place m)
    by_place (Outcome.wants p ∷ m) = ap (λ n. suc p ∷ n) (by_place m)

module _ (r : Re) where
  pub row_items : (p : ℕ) → items (row r p) ≡ closure_after r p
  unfolding row
  row_items p = items_firsts (follow note r p 0 neither) ∙ ap once (items_place (follow note r p 0 neither) (Plain-rows.follow r p) (plain_follow note r p 0 neither)) ∙ sym (closure_after_right r p)

  pub first_row_items : items (first_row r) ≡ closure r
  unfolding first_row
  first_row_items = items_firsts (start note r 0 neither) ∙ ap once (items_place (start note r 0 neither) (Plain-rows.start r) (plain_start note r 0 neither)) ∙ sym (closure_right r)
