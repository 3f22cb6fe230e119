-- What a part begins with and what follows its leaves: every leaf that is wanted there is one of the part's.
-- Assumes nothing.
use Prim.Native.Nat.{ℕ}
use mathlib.Core.List.{List, [], ◌∷◌}
use lib.Dec.{eqb}
use Rattle.theory.specs.Pattern.{Re, empty, leaf, seq, alt, star, field}
use Rattle.theory.specs.Outcomes.{ends_at, wants}
use Rattle.theory.specs.Code.Follow.{Next, start, follow}
use Rattle.theory.proofs.Outcomes.{AllOut, none, end, wish, all_map, all_append, all_replace}
use Rattle.theory.proofs.Equations.{Leaf, seq_left, seq_right, alt_left, alt_right, under, inside, all_when, outcomes_all}
use Rattle.theory.proofs.Extend.{place, outcomes_end}

abbrev pub Leaves : Re → List Next → Type 0
Leaves r l = AllOut (λ _. Unit {0}) (Leaf r) l

pub start_all : (r : Re) → Leaves r (start r)
start_all r = go (start r) (rw (outcomes_end r []) at (outcomes_all r [] 0))
  where
    go : {P : ℕ → Type 0} (l : List Next) → AllOut P (Leaf r) (place 0 l) → Leaves r l
    go [] h = none
    go (ends_at u ∷ l) (end x h) = end tt (go l h)
    go (wants p ∷ l) (wish x h) = wish x (go l h)

pub follow_all : (r : Re) (p : ℕ) → Leaves r (follow r p)
unfolding follow
follow_all empty p = none
follow_all (leaf q s) p = all_when (eqb p q) (λ t. end tt none)
follow_all (seq x y) p =
    all_append (all_replace (λ k u. all_map (λ _ v. v) (λ q l. seq_right l) (start_all y)) (λ q l. wish (seq_left l) none) (follow_all x p)) (all_map (λ _ v. v) (λ q l. seq_right l) (follow_all y p))
follow_all (alt x y) p = all_append (all_map (λ _ v. v) (λ q l. alt_left l) (follow_all x p)) (all_map (λ _ v. v) (λ q l. alt_right l) (follow_all y p))
follow_all (star how x) p = all_replace (λ k u. start_all (star how x)) (λ q l. wish (under l) none) (follow_all x p)
follow_all (field f x) p = all_map (λ _ v. v) (λ q l. inside l) (follow_all x p)
