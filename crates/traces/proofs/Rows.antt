-- The rows without what they carry are theory's: `start` and `follow` at the place n.
-- Assumes nothing.
use mathlib.Core.Path.{◌≡◌, refl, sym, ap, ◌∙◌}
use Prim.Native.Nat.{ℕ}
use mathlib.Core.Bool.{Bool, true, false}
use mathlib.Core.List.{List, [], ◌∷◌}
use lib.Dec.{eqb}
use Rattle.theory.specs.Pattern.{Re, empty, leaf, seq, alt, star, field, has}
use Rattle.theory.specs.Outcomes.{Outcome, empty_turn, when}
use Rattle.theory.specs.Outcomes as Plain
use Rattle.theory.specs.Code.Follow.{Next}
use Rattle.theory.specs.Code.Follow as Plain-rows
use Rattle.theory.proofs.Outcomes.{AllOut}
use Rattle.theory.proofs.Outcomes as Plain-laws
use Rattle.theory.proofs.Turns.{replace_empty_turn, replace_then_leave}
use Rattle.theory.proofs.Extend.{place}
use Rattle.traces.specs.Traces.{Mark, opened, end, and_then, plain, carry, close}
use Rattle.traces.specs.Code.Rows.{start, follow, after}
use Rattle.traces.proofs.Lists.{plain_append, plain_carry, plain_and_then}
use Rattle.traces.proofs.Forget.{plain_then_leave}

-- To read a list at the place n and go on from there by lists that depend on no line.
and_then_place : (n : ℕ) (f : ℕ → List (Outcome ℕ)) (l : List Next) → Plain.and_then (place n l) f ≡ Plain.and_then l (λ _. f n)
and_then_place n f [] = refl
and_then_place n f (Outcome.ends_at u ∷ l) = rw (and_then_place n f l)
and_then_place n f (Outcome.wants p ∷ l) = rw (and_then_place n f l)

place_and_then : (n : ℕ) (f : Unit {0} → List Next) (l : List Next) → place n (Plain.and_then l f) ≡ Plain.and_then l (λ u. place n (f u))
place_and_then n f l = Plain-laws.replace_replace f Plain.want (λ _. Outcome.ends_at n ∷ []) Plain.want l

place_on : (n : ℕ) (F : ℕ → List (Outcome ℕ)) (m : List Next) → F n ≡ place n m → (l : List Next) → Plain.and_then (place n l) F ≡ place n (Plain.and_then l (λ _. m))
place_on n F m e l = and_then_place n F l ∙ ap (λ x. Plain.and_then l (λ _. x)) e ∙ sym (place_and_then n (λ _. m) l)

same_place : (n : ℕ) (l : List Next) → Plain.and_then (place n l) (λ k. Outcome.ends_at k ∷ []) ≡ place n l
same_place n l = and_then_place n (λ k. Outcome.ends_at k ∷ []) l

module _ {C : Type 0} (mark : Mark → C → C) where
  pub plain_start : (r : Re) (n : ℕ) (v : C) → plain (start mark r n v) ≡ place n (Plain-rows.start r)
  unfolding start Plain-rows.start
  plain_start empty n v = refl
  plain_start (leaf p s) n v = refl
  plain_start (seq x y) n v =
      plain_and_then (start mark y) (λ k. place k (Plain-rows.start y)) (plain_start y) (start mark x n v)
      ∙ rw (plain_start x n v) (place_on n (λ k. place k (Plain-rows.start y)) (Plain-rows.start y) refl (Plain-rows.start x))
  plain_start (alt x y) n v =
      plain_append (start mark x n v) (start mark y n v)
      ∙ rw (plain_start x n v, plain_start y n v) (sym (Plain-laws.replace_append (λ _. Outcome.ends_at n ∷ []) Plain.want (Plain-rows.start x) (Plain-rows.start y)))
  plain_start (star how x) n v =
      plain_then_leave how (and_then (start mark x n v) (λ k u. carry u (empty_turn k))) n v
      ∙ ap (λ l. Plain.then_leave how l n)
      (plain_and_then (λ k u. carry u (empty_turn k)) empty_turn (λ k u. plain_carry u (empty_turn k)) (start mark x n v)
      ∙ rw (plain_start x n v) (place_on n empty_turn (empty_turn tt) (sym (replace_empty_turn (λ _. n) Plain.want tt)) (Plain-rows.start x)))
      ∙ sym (replace_then_leave (λ _. n) Plain.want how (Plain.and_then (Plain-rows.start x) empty_turn) tt)
  plain_start (field f x) n v =
      plain_and_then (close mark f) (λ k. Outcome.ends_at k ∷ []) (λ k u. refl) (start mark x n (mark (opened f n) v))
      ∙ rw (plain_start x n (mark (opened f n) v)) (same_place n (Plain-rows.start x))

  pub plain_follow : (r : Re) (p n : ℕ) (v : C) → plain (follow mark r p n v) ≡ place n (Plain-rows.follow r p)
  unfolding follow Plain-rows.follow
  plain_follow empty p n v = refl
  plain_follow (leaf q s) p n v = go (eqb p q)
    where
      go : (c : Bool) → plain (when c (end n v)) ≡ place n (when c (Plain-rows.here ∷ []))
      go true = refl
      go false = refl
  plain_follow (seq x y) p n v =
      plain_append (and_then (follow mark x p n v) (start mark y)) (follow mark y p n v)
      ∙ rw (
        plain_and_then (start mark y) (λ k. place k (Plain-rows.start y)) (plain_start y) (follow mark x p n v),
        plain_follow x p n v,
        plain_follow y p n v,
        place_on n (λ k. place k (Plain-rows.start y)) (Plain-rows.start y) refl (Plain-rows.follow x p),
      )
      (sym (Plain-laws.replace_append (λ _. Outcome.ends_at n ∷ []) Plain.want (Plain.and_then (Plain-rows.follow x p) (λ _. Plain-rows.start y)) (Plain-rows.follow y p)))
  plain_follow (alt x y) p n v =
      plain_append (follow mark x p n v) (follow mark y p n v)
      ∙ rw (plain_follow x p n v, plain_follow y p n v) (sym (Plain-laws.replace_append (λ _. Outcome.ends_at n ∷ []) Plain.want (Plain-rows.follow x p) (Plain-rows.follow y p)))
  plain_follow (star how x) p n v =
      plain_and_then (start mark (star how x)) (λ k. place k (Plain-rows.start (star how x))) (plain_start (star how x)) (follow mark x p n v)
      ∙ rw (plain_follow x p n v) (place_on n (λ k. place k (Plain-rows.start (star how x))) (Plain-rows.start (star how x)) refl (Plain-rows.follow x p))
  plain_follow (field f x) p n v =
      plain_and_then (close mark f) (λ k. Outcome.ends_at k ∷ []) (λ k u. refl) (follow mark x p n v)
      ∙ rw (plain_follow x p n v) (same_place n (Plain-rows.follow x p))

  pub plain_after : (r : Re) (b p n : ℕ) (v : C) → plain (after mark r b p n v) ≡ place n (Plain-rows.after r b p)
  plain_after r b p n v = go (has r p b)
    where
      go : (c : Bool) → plain (when c (follow mark r p n v)) ≡ place n (when c (Plain-rows.follow r p))
      go true = plain_follow r p n v
      go false = refl

-- Their ends are all at n.
pub place_all : (n : ℕ) (l : List Next) → AllOut (λ k. k ≡ n) (λ p. Unit {0}) (place n l)
place_all n [] = AllOut.none
place_all n (Outcome.ends_at u ∷ l) = AllOut.end refl (place_all n l)
place_all n (Outcome.wants p ∷ l) = AllOut.wish tt (place_all n l)
