-- The brackets of a pattern's text, which "job files name what they want by" (request 2): how many there are, and where the ninth stands.
-- Assumes nothing.
use Rattle.std.specs.Prelude.{ℕ, suc, ◌+◌, ◌-◌, List, [], ◌∷◌, ◌++◌, length, get_or}
use Rattle.grammar.specs.Grammar.{repeat_text, Alternation, last, or, Sequence, nothing, part, Atom, byte, dot, class, group, alternation, sequence, atom}

-- How many opening `(` a part of the text has. A `\(` is none and neither is a `(` in a class; one under `{0}` counts.
abbrev mutual
  pub brackets : Alternation → ℕ
  brackets (last q) = brackets_within q
  brackets (or q t) = brackets_within q + brackets t

  pub brackets_within : Sequence → ℕ
  brackets_within nothing = 0
  brackets_within (part a r q) = brackets_atom a + brackets_within q

  pub brackets_atom : Atom → ℕ
  brackets_atom (byte x) = 0
  brackets_atom dot = 0
  brackets_atom (class c x l) = 0
  brackets_atom (group t) = suc (brackets t)

-- For each of them, in order, the text from it on; s is the text after the part.
abbrev mutual
  pub openings : Alternation → List ℕ → List (List ℕ)
  openings (last q) s = openings_within q s
  openings (or q t) s = openings_within q (124 ∷ alternation t s) ++ openings t s

  pub openings_within : Sequence → List ℕ → List (List ℕ)
  openings_within nothing s = []
  openings_within (part a r q) s = openings_atom a (repeat_text r (sequence q s)) ++ openings_within q s

  pub openings_atom : Atom → List ℕ → List (List ℕ)
  openings_atom (byte x) s = []
  openings_atom dot s = []
  openings_atom (class c x l) s = []
  openings_atom (group t) s = atom (group t) s ∷ openings t (41 ∷ s)

-- "More than eight opening `(` .. is refused here."
abbrev pub max_fields : ℕ
max_fields = 8

-- "The place of the ninth": how many bytes stand before it.
unfoldable pub ninth : Alternation → ℕ
ninth t = length (alternation t []) - length (get_or (openings t []) max_fields [])
