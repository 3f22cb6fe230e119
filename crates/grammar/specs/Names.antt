-- The named sets that stand in a pattern: what holds of each of them.
-- Assumes nothing.
use Rattle.std.specs.Prelude.{List, [], ◌∷◌}
use Rattle.grammar.specs.Grammar.{Name, Item, single, range, named, Alternation, last, or, Sequence, nothing, part, Atom, byte, dot, class, group}

abbrev pub EachItem : (Name → Type 0) → List Item → Type 0
EachItem P [] = Unit {0}
EachItem P (single x ∷ l) = EachItem P l
EachItem P (range x y ∷ l) = EachItem P l
EachItem P (named n ∷ l) = P n × EachItem P l

unfoldable mutual
  pub EachName : (Name → Type 0) → Alternation → Type 0
  EachName P (last q) = EachWithin P q
  EachName P (or q t) = EachWithin P q × EachName P t

  pub EachWithin : (Name → Type 0) → Sequence → Type 0
  EachWithin P nothing = Unit {0}
  EachWithin P (part a r q) = EachAtom P a × EachWithin P q

  pub EachAtom : (Name → Type 0) → Atom → Type 0
  EachAtom P (byte x) = Unit {0}
  EachAtom P dot = Unit {0}
  EachAtom P (class c x l) = EachItem P (x ∷ l)
  EachAtom P (group t) = EachName P t

-- None stands in it.
abbrev pub Unnamed : Alternation → Type 0
Unnamed t = EachName (λ n. ⊥) t
