-- The leaves that the pass wants are the pattern's.
-- Assumes nothing.
use mathlib.Core.Path.{◌≡◌, refl, ap}
use Prim.Native.Nat.{ℕ, zero, suc, ◌<◌}
use mathlib.Core.Bool.{Bool, true, false}
use mathlib.Core.List.{List, [], ◌∷◌, ◌++◌}
use native.Mathlib.Omega.{arith}
use lib.Dec.{T}
use Rattle.theory.specs.Pattern.{Re, count, has, Numbered}
use Rattle.theory.specs.Outcomes.{when}
use Rattle.theory.specs.Standing.{member}
use Rattle.theory.specs.Code.Follow.{Next, start, follow}
use Rattle.theory.specs.Code.Closure as Plain-items
use Rattle.theory.proofs.Tests.{or_cases, either}
use Rattle.theory.proofs.Members.{member_append, gather_member}
use Rattle.theory.proofs.Extend.{leaf_range}
use Rattle.theory.proofs.Nexts.{Leaves, start_all, follow_all}
use Rattle.theory.proofs.Step.{wanted_in}
use Rattle.theory.proofs.Closure.{closure_right, closure_after_right, member_wants}
use Rattle.traces.specs.Traces.{Carried, ends_at, wants}
use Rattle.traces.specs.Code.Pass.{Values, Sets, item, items, firsts, first_row, row, stamped, Thread, moved}
use Rattle.traces.specs.Code.Marks.{row_sets}
use Rattle.traces.proofs.Firsts.{row_items, first_row_items}

module _ (r : Re) (d : Numbered 0 r) where
  wanted_below : (l : List Next) → Leaves r l → (q : ℕ) → T (member (suc q) (Plain-items.items l)) → q < count r
  wanted_below l h q t = let c = leaf_range 0 d (wanted_in h q (rw (member_wants q l) at t)) in omega arith

  pub row_below : (k q : ℕ) → T (member (suc q) (items (firsts [] (row_sets k r)))) → q < count r
  unfolding first_row row
  row_below zero q t = wanted_below (start r) (start_all r) q (rw (first_row_items r, closure_right r, gather_member (suc q) [] (Plain-items.items (start r))) at t)
  row_below (suc p) q t = wanted_below (follow r p) (follow_all r p) q (rw (row_items r p, closure_after_right r p, gather_member (suc q) [] (Plain-items.items (follow r p))) at t)

  -- At a place of the line, from the values of a thread.
  pub stamped_below : (k n : ℕ) (v : Values) (q : ℕ) → T (member (suc q) (items (stamped n v (firsts [] (row_sets k r))))) → q < count r
  stamped_below k n v q t = row_below k q (rw (same (firsts [] (row_sets k r))) at t)
    where
      same : (l : List (Carried Sets)) → items (stamped n v l) ≡ items l
      same [] = refl
      same (ends_at k s ∷ l) = ap (λ m. 0 ∷ m) (same l)
      same (wants p s ∷ l) = ap (λ m. suc p ∷ m) (same l)

items_append : {C : Type 0} (l m : List (Carried C)) → items (l ++ m) ≡ items l ++ items m
items_append [] m = refl
items_append (o ∷ l) m = ap (λ i. item o ∷ i) (items_append l m)

-- After a byte.
pub moved_below : (r : Re) → Numbered 0 r → (b n : ℕ) (ts : List Thread) (q : ℕ) → T (member (suc q) (items (moved r b n ts))) → q < count r
unfolding row
moved_below r d b n [] q t = absurd t
moved_below r d b n (u ∷ ts) q t =
    either (taken (has r u.0 b)) (moved_below r d b n ts q)
    (or_cases (member (suc q) (items first)) (member (suc q) (items rest)) (rw (items_append first rest, member_append (suc q) (items first) (items rest)) at t))
  where
    first : List (Carried Values)
    first = when (has r u.0 b) (stamped n u.1 (row r u.0))

    rest : List (Carried Values)
    rest = moved r b n ts

    taken : (c : Bool) → T (member (suc q) (items (when c (stamped n u.1 (row r u.0))))) → q < count r
    taken true i = stamped_below r d (suc u.0) n u.1 q i
    taken false i = absurd i
