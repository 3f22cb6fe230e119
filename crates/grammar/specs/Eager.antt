-- "The POSIX reading treats the sign as the plain repeat" (request 5): a tree without the `?` of its lazy repeats.
-- Assumes nothing.
use Rattle.grammar.specs.Grammar.{Repeat, once, many, more, maybe, exactly, at_least, between, lazily, Alternation, last, or, Sequence, nothing, part, Atom, byte, dot, class, group}

abbrev pub eager_repeat : Repeat → Repeat
eager_repeat once = once
eager_repeat many = many
eager_repeat more = more
eager_repeat maybe = maybe
eager_repeat (exactly m) = exactly m
eager_repeat (at_least m) = at_least m
eager_repeat (between m n) = between m n
eager_repeat (lazily r) = eager_repeat r

unfoldable mutual
  pub eagerly : Alternation → Alternation
  eagerly (last q) = last (eager_sequence q)
  eagerly (or q t) = or (eager_sequence q) (eagerly t)

  pub eager_sequence : Sequence → Sequence
  eager_sequence nothing = nothing
  eager_sequence (part a r q) = part (eager_atom a) (eager_repeat r) (eager_sequence q)

  pub eager_atom : Atom → Atom
  eager_atom (byte x) = byte x
  eager_atom dot = dot
  eager_atom (class c x l) = class c x l
  eager_atom (group t) = group (eagerly t)
