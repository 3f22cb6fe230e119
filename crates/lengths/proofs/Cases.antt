-- Small cases of the definitions, by computation; each tells paper 02's rule from a mistake that is near it.
-- Assumes nothing.
use mathlib.Core.Path.{◌≡◌, refl}
use Prim.Native.Nat.{ℕ}
use mathlib.Core.Bool.{true}
use mathlib.Core.List.{[]}
use Rattle.grammar.specs.Grammar.{plain, range, one, Repeat, once, many, more, maybe, exactly, at_least, between, lazily, Alternation, last, or, nothing, part, Atom, byte, class, group}
use Rattle.lengths.specs.Lengths.{Longest, limit, no_limit, lengths}

abbrev a : Atom
a = byte (plain 97)

abbrev b : Atom
b = byte (plain 98)

abbrev c : Atom
c = byte (plain 99)

-- One atom with its repeat; a pattern in brackets with its repeat.
abbrev alone : Atom → Repeat → Alternation
alone x r = last (part x r nothing)

abbrev grouped : Alternation → Repeat → Alternation
grouped t r = alone (group t) r

-- The empty pattern, and the star of `a`.
abbrev void : Alternation
void = last nothing

abbrev stars : Alternation
stars = alone a many

-- The lengths of a pattern are l and g.
abbrev From : ℕ → Longest → Alternation → Type 0
From l g t = lengths t ≡ record { least = l; greatest = g }

-- `a|ab` and `ab|c`: from 1 to 2, whichever comes first.
pub short_first : From 1 (limit 2) (or (part a once nothing) (last (part a once (part b once nothing))))
unfolding lengths
short_first = refl

pub long_first : From 1 (limit 2) (or (part a once (part b once nothing)) (last (part c once nothing)))
unfolding lengths
long_first = refl

-- `a{2,3}`: from 2 to 3.
pub two_to_three : From 2 (limit 3) (alone a (between (one 50) (one 51)))
unfolding lengths
two_to_three = refl

-- `a*`, `a+` and `a{2,}` have no limit, and their least is 0, 1 and 2; `a?` is from 0 to 1.
pub star_from_zero : From 0 no_limit stars
unfolding lengths
star_from_zero = refl

pub plus_from_one : From 1 no_limit (alone a more)
unfolding lengths
plus_from_one = refl

pub two_or_more : From 2 no_limit (alone a (at_least (one 50)))
unfolding lengths
two_or_more = refl

pub one_or_none : From 0 (limit 1) (alone a maybe)
unfolding lengths
one_or_none = refl

-- `a*?` and `a??`: the sign changes nothing.
pub lazy_star : From 0 no_limit (alone a (lazily many))
unfolding lengths
lazy_star = refl

pub lazy_maybe : From 0 (limit 1) (alone a (lazily maybe))
unfolding lengths
lazy_maybe = refl

-- `()*` and `(a{0})*` stand over a part whose greatest is 0: 0.
pub star_over_nothing : From 0 (limit 0) (grouped void many)
unfolding lengths
star_over_nothing = refl

pub star_over_no_copy : From 0 (limit 0) (grouped (alone a (exactly (one 48))) many)
unfolding lengths
star_over_no_copy = refl

-- `(a*){0}` and `(a*){0,0}` do not keep the star: 0; nor does `((a*){0})*`, nor, from the outermost bracket, `((a*)b){0}c`.
pub not_kept : From 0 (limit 0) (grouped stars (exactly (one 48)))
unfolding lengths
not_kept = refl

pub not_kept_between : From 0 (limit 0) (grouped stars (between (one 48) (one 48)))
unfolding lengths
not_kept_between = refl

pub star_over_not_kept : From 0 (limit 0) (grouped (grouped stars (exactly (one 48))) many)
unfolding lengths
star_over_not_kept = refl

pub nothing_kept : From 1 (limit 1) (last (part (group (last (part (group stars) once (part b once nothing)))) (exactly (one 48)) (part c once nothing)))
unfolding lengths
nothing_kept = refl

-- `(a*){0,1}`, `(a*){0,3}` and `(a*)?` keep it.
pub kept : From 0 no_limit (grouped stars (between (one 48) (one 49)))
unfolding lengths
kept = refl

pub kept_to_three : From 0 no_limit (grouped stars (between (one 48) (one 51)))
unfolding lengths
kept_to_three = refl

pub kept_maybe : From 0 no_limit (grouped stars maybe)
unfolding lengths
kept_maybe = refl

-- `[^\x00-\xff]` holds no byte, and counts as 1.
pub empty_set : From 1 (limit 1) (alone (class true (range (plain 0) (plain 255)) []) once)
unfolding lengths
empty_set = refl
