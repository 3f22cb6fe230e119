-- Without what they carry the outcomes are theory's. So the span is the greedy span.
-- Assumes nothing.
use mathlib.Core.Path.{◌≡◌, refl, ap, ◌∙◌}
use Prim.Native.Nat.{ℕ, zero, suc}
use mathlib.Core.Bool.{Bool, true, false, cond}
use mathlib.Core.List.{List, [], ◌∷◌}
use mathlib.Core.Option.{map}
use lib.ListN.{length, drop}
use lib.Dec.{ltb}
use Rattle.theory.specs.Pattern.{Manner, eager, lazy, Re, empty, leaf, seq, alt, star, field}
use Rattle.theory.specs.Outcomes.{Outcome, empty_turn, leaf_outcomes, outcomes}
use Rattle.theory.specs.Outcomes as Plain
use Rattle.theory.specs.Spans.{first_end}
use Rattle.theory.proofs.Turns.{and_then_empty_turn}
use Rattle.traces.specs.Traces.{Mark, opened, Carried, ends_at, wants, plain, carry, after_turn, then_leave, star_outcomes, close, carried}
use Rattle.traces.specs.Fields.{first_way}
use Rattle.traces.proofs.Lists.{plain_append, plain_carry, plain_and_then}

module _ {C : Type 0} where
  pub plain_then_leave : (how : Manner) (l : List (Carried C)) (i : ℕ) (v : C) → plain (then_leave how l i v) ≡ Plain.then_leave how (plain l) i
  unfolding then_leave Plain.then_leave
  plain_then_leave eager l i v = plain_append l (ends_at i v ∷ [])
  plain_then_leave lazy l i v = refl

  plain_after_turn : (i k : ℕ) (v : C) (l : List (Carried C)) → plain (after_turn i k v l) ≡ Plain.after_turn i k (plain l)
  plain_after_turn i k v l = go (ltb i k)
    where
      go : (t : Bool) → plain (cond t l (carry v (empty_turn i))) ≡ cond t (plain l) (empty_turn i)
      go true = refl
      go false = plain_carry v (empty_turn i)

  plain_star : (how : Manner) (f : ℕ → C → List (Carried C)) (F : ℕ → List (Outcome ℕ)) → ((i : ℕ) (v : C) → plain (f i v) ≡ F i)
      → (d i : ℕ) (v : C) → plain (star_outcomes how f d i v) ≡ Plain.star_outcomes how F d i
  unfolding star_outcomes Plain.star_outcomes
  plain_star how f F h zero i v = refl
  plain_star how f F h (suc d) i v =
      plain_then_leave how _ i v
      ∙ ap (λ l. Plain.then_leave how l i)
      (plain_and_then _ (λ k. Plain.after_turn i k (Plain.star_outcomes how F d k))
      (λ k u. plain_after_turn i k u (star_outcomes how f d k u) ∙ ap (Plain.after_turn i k) (plain_star how f F h d k u)) (f i v)
      ∙ rw (h i v))

  -- The first end stays the first.
  first_plain : (l : List (Carried C)) → map (λ way. way.0) (first_way l) ≡ first_end (plain l)
  first_plain [] = refl
  first_plain (ends_at k v ∷ l) = refl
  first_plain (wants p v ∷ l) = first_plain l

module _ {C : Type 0} (mark : Mark → C → C) where
  -- FORGETTING what the ways carry gives the list of outcomes.
  pub forgets : (r : Re) (w : List ℕ) (i : ℕ) (v : C) → plain (carried mark r w i v) ≡ outcomes r w i
  unfolding carried outcomes empty_turn
  forgets empty w i v = refl
  forgets (leaf p s) w i v = plain_carry v (leaf_outcomes p s i (drop i w))
  forgets (seq x y) w i v = plain_and_then (carried mark y w) (outcomes y w) (forgets y w) (carried mark x w i v) ∙ rw (forgets x w i v)
  forgets (alt x y) w i v = plain_append (carried mark x w i v) (carried mark y w i v) ∙ rw (forgets x w i v, forgets y w i v)
  forgets (star how x) w i v = plain_star how (carried mark x w) (outcomes x w) (forgets x w) (suc (length w)) i v
  forgets (field f x) w i v =
      plain_and_then (close mark f) empty_turn (λ k u. refl) (carried mark x w i (mark (opened f i) v))
      ∙ and_then_empty_turn (plain (carried mark x w i (mark (opened f i) v)))
      ∙ forgets x w i (mark (opened f i) v)

  -- The most preferred way ends at the greedy end.
  pub way_end : (r : Re) (w : List ℕ) (i : ℕ) (v : C) → map (λ way. way.0) (first_way (carried mark r w i v)) ≡ first_end (outcomes r w i)
  way_end r w i v = first_plain (carried mark r w i v) ∙ ap first_end (forgets r w i v)
