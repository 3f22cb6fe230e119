-- "Repeats are written out", and "leaves of the written-out pattern are numbered from 0, left to right". Fields are numbered by the text's opening brackets (request 2).
-- Assumes nothing.
use Rattle.std.specs.Prelude.{ℕ, zero, suc, ◌+◌, ◌-◌, Bool, not, ◌&&◌, cond, List, [], ◌∷◌, ◌++◌, replicate, eqb, ltb}
use Rattle.theory.specs.Pattern.{Manner, eager, lazy, Re, empty, leaf, seq, star, alt, field, opt, number}
use Rattle.grammar.specs.Grammar.{Name, value, digits_value, Repeat, once, many, more, maybe, exactly, at_least, between, lazily, Alternation, last, or, Sequence, nothing, part, Atom, byte, dot, class, group}
use Rattle.grammar.specs.Sets.{in_named, in_class}
use Rattle.grammar.specs.Brackets.{brackets_within, brackets_atom, max_fields}

-- A leaf with its set of bytes, its number still to come. No number from 256 on is a byte.
abbrev pub leaf_of : (ℕ → Bool) → Re
leaf_of f = leaf 0 (λ b. ltb b 256 && f b)

-- A sequence of parts.
unfoldable pub chain : List Re → Re
chain [] = empty
chain (x ∷ []) = x
chain (x ∷ y ∷ l) = seq x (chain (y ∷ l))

-- "k optional copies, each inside the one before."
unfoldable pub optional : Manner → ℕ → Re → List Re
optional how zero x = []
optional how (suc k) x = opt how (chain (x ∷ optional how k x)) ∷ []

-- "r`+` is r then r`*`. r`{m,}` is m copies then r`*`. r`{m,n}` is m copies, then n−m optional copies. r`{0}` is the empty sequence."
-- A lazy repeat "prefers to leave .., and the optional copies of a count do likewise. r`+?` is r then r`*?`, and r`{m,}?` is m copies then r`*?`."
abbrev pub repeat_by : Manner → Repeat → Re → Re
repeat_by how once x = x
repeat_by how many x = star how x
repeat_by how more x = chain (x ∷ star how x ∷ [])
repeat_by how maybe x = opt how x
repeat_by how (exactly m) x = chain (replicate (digits_value m) x)
repeat_by how (at_least m) x = chain (replicate (digits_value m) x ++ (star how x ∷ []))
repeat_by how (between m n) x = chain (replicate (digits_value m) x ++ optional how (digits_value n - digits_value m) x)
repeat_by how (lazily r) x = repeat_by lazy r x

abbrev pub repeat_of : Repeat → Re → Re
repeat_of r x = repeat_by eager r x

-- The bracket after n others: "field 1 is the first opening `(`, and so on". A ninth bracket and those after it are no fields.
unfoldable pub bracketed : ℕ → Re → Re
bracketed n x = cond (ltb n max_fields) (field (suc n) x) x

-- The parts after n opening brackets, their leaves not yet numbered, by the named sets. "`.` is every byte but 10." "Copies written out by a repeat belong to the same
-- field."
unfoldable mutual
  pub shape : (Name → ℕ → Bool) → Alternation → ℕ → Re
  shape sets (last q) n = chain (parts sets q n)
  shape sets (or q t) n = alt (chain (parts sets q n)) (shape sets t (n + brackets_within q))

  pub parts : (Name → ℕ → Bool) → Sequence → ℕ → List Re
  parts sets nothing n = []
  parts sets (part a r q) n = repeat_of r (shape_atom sets a n) ∷ parts sets q (n + brackets_atom a)

  pub shape_atom : (Name → ℕ → Bool) → Atom → ℕ → Re
  shape_atom sets (byte x) n = leaf_of (λ b. eqb b (value x))
  shape_atom sets dot n = leaf_of (λ b. not (eqb b 10))
  shape_atom sets (class c x l) n = leaf_of (in_class sets c (x ∷ l))
  shape_atom sets (group t) n = bracketed n (shape sets t (suc n))

-- The "written-out pattern" of a tree. "Spans and verdicts are then those of the sets loaded" (request 9): those of the table that is loaded.
unfoldable pub write_out : List ℕ → Alternation → Re
write_out loaded t = number 0 (shape (in_named loaded) t 0)
