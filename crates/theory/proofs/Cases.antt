-- Small cases of the definitions, by computation; each tells paper 01's rule from a mistake that is near it.
-- Assumes nothing.
use mathlib.Core.Path.{◌≡◌, refl}
use Prim.Native.Nat.{ℕ}
use mathlib.Core.Bool.{true}
use mathlib.Core.List.{[], ◌∷◌}
use lib.Dec.{eqb}
use Rattle.theory.specs.Pattern.{eager, lazy, Re, empty, leaf, seq, alt, star, opt, count}
use Rattle.theory.specs.Outcomes.{empty_turn, then_leave, star_outcomes, outcomes}
use Rattle.theory.specs.Spans.{nowhere, span, greedy, posix}
use Rattle.theory.specs.Standing.{standing, is_witness}

-- Leaf p of the byte b.
abbrev byte : ℕ → ℕ → Re
byte p b = leaf p (eqb b)

-- a|ab
abbrev short_first : Re
short_first = alt (byte 0 97) (seq (byte 1 97) (byte 2 98))

-- The first alternative comes first: `a|ab` on ab is 0 1 for greedy, and 0 2 for POSIX.
pub first_alternative : greedy short_first (97 ∷ 98 ∷ []) ≡ span 0 1
unfolding greedy outcomes
first_alternative = refl

pub greatest_end_lem : posix short_first (97 ∷ 98 ∷ []) ≡ span 0 2
unfolding posix outcomes
greatest_end_lem = refl

-- The leftmost start counts, not the longest span: `b*` on ab is 0 0.
pub leftmost_start : posix (star eager (byte 0 98)) (97 ∷ 98 ∷ []) ≡ span 0 0
unfolding posix outcomes star_outcomes empty_turn then_leave
leftmost_start = refl

-- A turn that took a byte goes on: `a*` on aa is 0 2.
pub turns_go_on : greedy (star eager (byte 0 97)) (97 ∷ 97 ∷ []) ≡ span 0 2
unfolding greedy outcomes star_outcomes empty_turn then_leave
turns_go_on = refl

-- `a*` ends without a turn: on b it is 0 0.
pub no_turn : greedy (star eager (byte 0 97)) (98 ∷ []) ≡ span 0 0
unfolding greedy outcomes star_outcomes empty_turn then_leave
no_turn = refl

-- An empty turn ends the loop: `(|a)*` on aa is 0 0 for greedy, 0 2 for POSIX, and unlike with witness 61.
abbrev empty_or_a : Re
empty_or_a = star eager (alt empty (byte 0 97))

pub empty_turn_lem : greedy empty_or_a (97 ∷ 97 ∷ []) ≡ span 0 0
unfolding greedy outcomes star_outcomes empty_turn then_leave
empty_turn_lem = refl

pub empty_turn_posix : posix empty_or_a (97 ∷ 97 ∷ []) ≡ span 0 2
unfolding posix outcomes star_outcomes empty_turn then_leave
empty_turn_posix = refl

pub empty_turn_witness : is_witness (standing empty_or_a (97 ∷ [])) ≡ true
unfolding standing outcomes star_outcomes empty_turn then_leave
empty_turn_witness = refl

-- It stays in its place, before what comes after it in the turn: (a) of the empty line has no leaf.
pub empty_turn_place : (standing empty_or_a []).order ≡ []
unfolding standing outcomes count star_outcomes empty_turn then_leave
empty_turn_place = refl

-- A lazy repeat prefers to leave: `a*?` on aa is 0 0 for greedy, and 0 2 for POSIX.
abbrev lazy_a : Re
lazy_a = star lazy (byte 0 97)

pub lazy_leaves : greedy lazy_a (97 ∷ 97 ∷ []) ≡ span 0 0
unfolding greedy outcomes star_outcomes empty_turn then_leave
lazy_leaves = refl

pub lazy_posix : posix lazy_a (97 ∷ 97 ∷ []) ≡ span 0 2
unfolding posix outcomes star_outcomes empty_turn then_leave
lazy_posix = refl

-- It takes as few turns as the rest allows: `a*?b` on aab is 0 3.
pub lazy_turns : greedy (seq lazy_a (byte 1 98)) (97 ∷ 97 ∷ 98 ∷ []) ≡ span 0 3
unfolding greedy outcomes star_outcomes empty_turn then_leave
lazy_turns = refl

-- `a??` on a is 0 0.
pub lazy_option : greedy (opt lazy (byte 0 97)) (97 ∷ []) ≡ span 0 0
unfolding greedy outcomes
lazy_option = refl

-- The line's end is a start, too: `a*` on the empty line is 0 0, and `a` has none.
pub last_start : greedy (star eager (byte 0 97)) [] ≡ span 0 0
unfolding greedy outcomes star_outcomes empty_turn then_leave
last_start = refl

pub no_start : posix (byte 0 97) [] ≡ nowhere
unfolding posix outcomes
no_start = refl

-- (a) is a list in order of first appearance, and no set: of `(ab|a)*` after a it is 1, 0, 2.
pub order_kept : (standing (star eager (alt (seq (byte 0 97) (byte 1 98)) (byte 2 97))) (97 ∷ [])).order ≡ 1 ∷ 0 ∷ 2 ∷ []
unfolding standing outcomes star_outcomes empty_turn then_leave
order_kept = refl

-- (c) goes on after the first end: of `a|ab` after a it has leaf 2, and (a) has none.
pub set_uncut : (standing short_first (97 ∷ [])).all ≡ 2 ∷ []
unfolding standing outcomes count
set_uncut = refl

pub order_cut : (standing short_first (97 ∷ [])).order ≡ []
unfolding standing outcomes
order_cut = refl

-- So `a|ab` has the witness ab.
pub a_witness : is_witness (standing short_first (97 ∷ 98 ∷ [])) ≡ true
unfolding standing outcomes
a_witness = refl
