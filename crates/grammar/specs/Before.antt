-- The beginnings of patterns, which the refusals cite: what may stand before a place that is not inside an atom or a repeat.
-- Assumes nothing.
use Rattle.std.specs.Prelude.{ℕ, suc, ◌+◌, ◌≤◌, ◌<◌, Bool, true, false, List, ◌∷◌}
use Rattle.grammar.specs.Grammar.{Repeat, once, many, more, maybe, exactly, at_least, between, lazily, unmarked, repeat_text, Atom, atom, WfAtom, WfRepeat}
use Rattle.grammar.specs.Limits.{max_depth, depth_atom}

pub data Before : Type 0 where
  start : Before
  barred : Before → Before  -- .. then `|`
  opened : Before → Before  -- .. then `(`, not closed yet
  after : Before → Atom → Repeat → Before  -- .. then an atom with its repeat

-- The text of a beginning, then s.
abbrev pub text : Before → List ℕ → List ℕ
text start s = s
text (barred o) s = text o (124 ∷ s)
text (opened o) s = text o (40 ∷ s)
text (after o a r) s = text o (atom a (repeat_text r s))

-- The brackets open.
abbrev pub opens : Before → ℕ
opens start = 0
opens (barred o) = opens o
opens (opened o) = suc (opens o)
opens (after o a r) = opens o

abbrev pub is_once : Repeat → Bool
is_once once = true
is_once many = false
is_once more = false
is_once maybe = false
is_once (exactly m) = false
is_once (at_least m) = false
is_once (between m n) = false
is_once (lazily r) = false

-- Right after an atom: neither at the start of a sequence nor after a repeat.
abbrev pub ready : Before → Bool
ready start = false
ready (barred o) = false
ready (opened o) = false
ready (after o a r) = is_once r

-- Right after a repeat that a `?` may follow.
abbrev pub softens : Before → Bool
softens start = false
softens (barred o) = false
softens (opened o) = false
softens (after o a r) = unmarked r

-- Well-formed, and no deeper than 16.
abbrev pub WfBefore : Before → Type 0
WfBefore start = Unit {0}
WfBefore (barred o) = WfBefore o
WfBefore (opened o) = WfBefore o × (opens o < max_depth)
WfBefore (after o a r) = WfBefore o × WfAtom a × WfRepeat r × (opens o + depth_atom a ≤ max_depth)
