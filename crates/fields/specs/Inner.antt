-- A bracket of the text that stands inside another, by their numbers.
-- Assumes nothing.
use Rattle.std.specs.Prelude.{ℕ, suc, ◌+◌, ◌≤◌, ◌<◌, ◌≡◌, ◌⊎◌}
use Rattle.grammar.specs.Grammar.{Alternation, last, or, Sequence, nothing, part, Atom, byte, dot, class, group}
use Rattle.grammar.specs.Brackets.{brackets, brackets_within, brackets_atom}

-- After n brackets: the bracket g stands inside the bracket f.
abbrev mutual
  pub Inner : ℕ → ℕ → Alternation → ℕ → Type 0
  Inner f g (last q) n = InnerWithin f g q n
  Inner f g (or q t) n = InnerWithin f g q n ⊎ Inner f g t (n + brackets_within q)

  pub InnerWithin : ℕ → ℕ → Sequence → ℕ → Type 0
  InnerWithin f g nothing n = ⊥
  InnerWithin f g (part a r q) n = InnerAtom f g a n ⊎ InnerWithin f g q (n + brackets_atom a)

  pub InnerAtom : ℕ → ℕ → Atom → ℕ → Type 0
  InnerAtom f g (byte x) n = ⊥
  InnerAtom f g dot n = ⊥
  InnerAtom f g (class c x l) n = ⊥
  InnerAtom f g (group t) n = ((f ≡ suc n) × (suc n < g) × (g ≤ suc n + brackets t)) ⊎ Inner f g t (suc n)
