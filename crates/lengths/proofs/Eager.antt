-- Lazy signs change nothing: both lengths of a tree without them are the tree's.
-- Assumes nothing.
use mathlib.Core.Path.{◌≡◌, refl, ap, ap₂, ◌∙◌}
use Rattle.grammar.specs.Grammar.{Repeat, once, many, more, maybe, exactly, at_least, between, lazily, Alternation, last, or, Sequence, nothing, part, Atom, byte, dot, class, group}
use Rattle.grammar.specs.Eager.{eager_repeat, eagerly, eager_sequence, eager_atom}
use Rattle.lengths.specs.Lengths.{Extent, in_row, one_of, under_repeat, lengths, lengths_within, lengths_atom}

repeat_eagerly : (r : Repeat) (x : Extent) → under_repeat (eager_repeat r) x ≡ under_repeat r x
repeat_eagerly once x = refl
repeat_eagerly many x = refl
repeat_eagerly more x = refl
repeat_eagerly maybe x = refl
repeat_eagerly (exactly m) x = refl
repeat_eagerly (at_least m) x = refl
repeat_eagerly (between m n) x = refl
repeat_eagerly (lazily r) x = repeat_eagerly r x

mutual
  unfolding lengths eagerly

  -- LAZY SIGNS CHANGE NOTHING.
  pub lengths_eagerly : (t : Alternation) → lengths (eagerly t) ≡ lengths t
  lengths_eagerly (last q) = within_eagerly q
  lengths_eagerly (or q t) = ap₂ one_of (within_eagerly q) (lengths_eagerly t)

  within_eagerly : (q : Sequence) → lengths_within (eager_sequence q) ≡ lengths_within q
  within_eagerly nothing = refl
  within_eagerly (part a r q) = ap₂ in_row (repeat_eagerly r (lengths_atom (eager_atom a)) ∙ ap (under_repeat r) (atom_eagerly a)) (within_eagerly q)

  atom_eagerly : (a : Atom) → lengths_atom (eager_atom a) ≡ lengths_atom a
  atom_eagerly (byte x) = refl
  atom_eagerly dot = refl
  atom_eagerly (class c x l) = refl
  atom_eagerly (group t) = lengths_eagerly t
