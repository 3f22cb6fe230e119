-- Small cases of the fields, by computation: by definition, and by the pass.
-- Assumes nothing.
use mathlib.Core.Path.{◌≡◌, refl}
use Prim.Native.Nat.{ℕ}
use mathlib.Core.List.{List, [], ◌∷◌}
use lib.Dec.{eqb}
use Rattle.theory.specs.Pattern.{eager, lazy, Re, empty, leaf, seq, alt, star, field, opt, has}
use Rattle.theory.specs.Outcomes.{empty_turn, outcomes}
use Rattle.theory.specs.Outcomes as Plain
use Rattle.theory.specs.Spans.{greedy}
use Rattle.traces.specs.Traces.{then_leave, star_outcomes, carried}
use Rattle.traces.specs.Fields.{Field, absent, between, field_at}
use Rattle.traces.specs.Code.Rows.{start, follow}
use Rattle.traces.specs.Code.Pass.{first_row, row, pass, pass_from, field_by}

-- Leaf p of the byte b.
abbrev byte : ℕ → ℕ → Re
byte p b = leaf p (eqb b)

-- Of the greedy span of w, which starts at i, the field f is v.
abbrev Is : Re → List ℕ → ℕ → ℕ → Field → Type 0
Is r w i f v = (field_at r w f ≡ v) × (field_by f (pass_from r w i) ≡ v)

-- `(a|(b))*` on ba: field 1 in its last turn, field 2 as the turn before left it.
abbrev or_b : Re
or_b = star eager (field 1 (alt (byte 0 97) (field 2 (byte 1 98))))

pub last_turn : Is or_b (98 ∷ 97 ∷ []) 0 1 (between 1 2) × Is or_b (98 ∷ 97 ∷ []) 0 2 (between 0 1)
unfolding field_at greedy outcomes Plain.star_outcomes Plain.then_leave empty_turn carried star_outcomes then_leave pass_from pass first_row row start follow has
last_turn = ((refl, refl), (refl, refl))

-- "An empty turn counts as a turn": `(a*)*` on aa has one at the line's end, and on the empty line one at 0.
abbrev stars : Re
stars = star eager (field 1 (star eager (byte 0 97)))

pub empty_turn_lem : Is stars (97 ∷ 97 ∷ []) 0 1 (between 2 2) × Is stars [] 0 1 (between 0 0)
unfolding field_at greedy outcomes Plain.star_outcomes Plain.then_leave empty_turn carried star_outcomes then_leave pass_from pass first_row row start follow has
empty_turn_lem = ((refl, refl), (refl, refl))

-- `(a)*` on the empty line: no turn.
pub no_turn : Is (star eager (field 1 (byte 0 97))) [] 0 1 absent
unfolding field_at greedy outcomes Plain.star_outcomes Plain.then_leave empty_turn carried star_outcomes then_leave pass_from pass first_row row start follow has
no_turn = (refl, refl)

-- `(a)|(b)` on b: the way never enters field 1.
pub never_entered : Is (alt (field 1 (byte 0 97)) (field 2 (byte 1 98))) (98 ∷ []) 0 1 absent
unfolding field_at greedy outcomes Plain.star_outcomes Plain.then_leave empty_turn carried star_outcomes then_leave pass_from pass first_row row start follow has
never_entered = (refl, refl)

-- `(a){2}` on aa: both copies are field 1.
pub copies : Is (seq (field 1 (byte 0 97)) (field 1 (byte 1 97))) (97 ∷ 97 ∷ []) 0 1 (between 1 2)
unfolding field_at greedy outcomes Plain.star_outcomes Plain.then_leave empty_turn carried star_outcomes then_leave pass_from pass first_row row start follow has
copies = (refl, refl)

-- `(a){0}(b)` on b: nothing is written out of field 1.
abbrev none_of_a : Re
none_of_a = seq empty (field 2 (byte 0 98))

pub under_zero : Is none_of_a (98 ∷ []) 0 1 absent × Is none_of_a (98 ∷ []) 0 2 (between 0 1)
unfolding field_at greedy outcomes Plain.star_outcomes Plain.then_leave empty_turn carried star_outcomes then_leave pass_from pass first_row row start follow has
under_zero = ((refl, refl), (refl, refl))

-- `(a)*?b` on aab: as few turns as the rest allows, and the last of them; `(a)??` on a: the way leaves without one.
pub lazy_turn : Is (seq (star lazy (field 1 (byte 0 97))) (byte 1 98)) (97 ∷ 97 ∷ 98 ∷ []) 0 1 (between 1 2)
unfolding field_at greedy outcomes Plain.star_outcomes Plain.then_leave empty_turn carried star_outcomes then_leave pass_from pass first_row row start follow has
lazy_turn = (refl, refl)

pub lazy_option : Is (opt lazy (field 1 (byte 0 97))) (97 ∷ []) 0 1 absent
unfolding field_at greedy outcomes Plain.star_outcomes Plain.then_leave empty_turn carried star_outcomes then_leave pass_from pass first_row row start follow has
lazy_option = (refl, refl)

-- `(a?)b` on b: an empty field has a place.
pub empty_field : Is (seq (field 1 (opt eager (byte 0 97))) (byte 1 98)) (98 ∷ []) 0 1 (between 0 0)
unfolding field_at greedy outcomes Plain.star_outcomes Plain.then_leave empty_turn carried star_outcomes then_leave pass_from pass first_row row start follow has
empty_field = (refl, refl)

-- `(a)b` on bab: the span starts at 1, and places count from the line's start.
pub later_start : Is (seq (field 1 (byte 0 97)) (byte 1 98)) (98 ∷ 97 ∷ 98 ∷ []) 1 1 (between 1 2)
unfolding field_at greedy outcomes Plain.star_outcomes Plain.then_leave empty_turn carried star_outcomes then_leave pass_from pass first_row row start follow has
later_start = (refl, refl)
