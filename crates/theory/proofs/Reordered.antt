-- Patterns that differ in preferences alone have the same sets of outcomes, and so the same POSIX spans and the same (c) and (d) of each standing.
-- Assumes nothing.
use mathlib.Core.Path.{◌≡◌, refl, ap, ap₂, ◌∙◌}
use Prim.Native.Nat.{ℕ, zero, suc, ◌+◌}
use mathlib.Core.Bool.{Bool, true, false, cond}
use mathlib.Core.List.{List}
use native.Mathlib.Omega.{arith}
use lib.ListN.{length}
use lib.Dec.{ltb}
use Rattle.theory.specs.Pattern.{Manner, Re, count}
use Rattle.theory.specs.Outcomes.{Outcome, and_then, empty_turn, after_turn, star_outcomes, outcomes}
use Rattle.theory.specs.Spans.{leftmost, posix}
use Rattle.theory.specs.Standing.{wanted, member, from, filter, standing}
use Rattle.theory.specs.Base.{Reordered, same_empty, same_leaf, in_seq, in_alt, swapped, in_star, in_field}
use Rattle.theory.proofs.Tests.{either}
use Rattle.theory.proofs.Members.{filter_same}
use Rattle.theory.proofs.Turns.{in_then_leave, of_turns, of_leave}
use Rattle.theory.proofs.Sets.{Into, Same, into_then, same_append, same_then, same_trans, same_swap, set_some, set_wanted, set_greatest}

-- Where the leaving stands adds no outcome and drops none.
star_into : (how how' : Manner) {f g : ℕ → List (Outcome ℕ)} → ((i : ℕ) → Into (f i) (g i)) → (d i : ℕ) → Into (star_outcomes how f d i) (star_outcomes how' g d i)
unfolding star_outcomes
star_into how how' h zero i o t = t
star_into how how' {f} {g} h (suc d) i o t =
    either
    (λ n. of_turns how' i (into_then (h i) (λ k. go (ltb i k) (star_into how how' h d k)) o n))
    (λ e. of_leave how' i (and_then (g i) (λ k. after_turn i k (star_outcomes how' g d k))) e)
    (in_then_leave how i (and_then (f i) (λ k. after_turn i k (star_outcomes how f d k))) t)
  where
    go : {l m : List (Outcome ℕ)} (c : Bool) → Into l m → Into (cond c l (empty_turn i)) (cond c m (empty_turn i))
    go true a = a
    go false a = λ o t. t

pub reordered_same : {r r' : Re} → Reordered r r' → (w : List ℕ) (i : ℕ) → Same (outcomes r w i) (outcomes r' w i)
unfolding outcomes
reordered_same same_empty w i = (λ o t. t, λ o t. t)
reordered_same same_leaf w i = (λ o t. t, λ o t. t)
reordered_same (in_seq a b) w i = same_then (reordered_same a w i) (reordered_same b w)
reordered_same (in_alt a b) w i = same_append (reordered_same a w i) (reordered_same b w i)
reordered_same (swapped {x' = x} {y' = y} a b) w i = same_trans (same_append (reordered_same a w i) (reordered_same b w i)) (same_swap (outcomes x w i) (outcomes y w i))
reordered_same (in_star {how = how} {how' = how'} a) w i =
    (star_into how how' (λ k. (reordered_same a w k).0) (suc (length w)) i, star_into how' how (λ k. (reordered_same a w k).1) (suc (length w)) i)
reordered_same (in_field a) w i = reordered_same a w i

reordered_count : {r r' : Re} → Reordered r r' → count r ≡ count r'
unfolding count
reordered_count same_empty = refl
reordered_count same_leaf = refl
reordered_count (in_seq a b) = ap₂ ◌+◌ (reordered_count a) (reordered_count b)
reordered_count (in_alt a b) = ap₂ ◌+◌ (reordered_count a) (reordered_count b)
reordered_count (swapped a b) = let e = reordered_count a in let f = reordered_count b in omega arith
reordered_count (in_star a) = reordered_count a
reordered_count (in_field a) = reordered_count a

module _ {r r' : Re} (a : Reordered r r') (w : List ℕ) where
  -- THE POSIX SPAN DEPENDS ON NO PREFERENCE,
  pub reordered_posix : posix r w ≡ posix r' w
  unfolding posix
  reordered_posix = λ t. leftmost (λ i. set_greatest (reordered_same a w i) t) (suc (length w)) 0

  -- NOR DO (c) AND (d) of a standing.
  pub reordered_standing : ((standing r w).all ≡ (standing r' w).all) × ((standing r w).some ≡ (standing r' w).some)
  unfolding standing
  reordered_standing = (
    filter_same _ _ (from 0 (count r)) (set_wanted (reordered_same a w 0)) ∙ ap (λ n. filter (λ p. member p (wanted (outcomes r' w 0))) (from 0 n)) (reordered_count a),
    set_some (reordered_same a w 0) (length w),
  )
