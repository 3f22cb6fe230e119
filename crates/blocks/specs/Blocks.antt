-- A line's leftmost start and its POSIX end in one pass forward: blocks in order of start, a leaf only in the first block that has it.
-- Assumes nothing.
use Rattle.std.specs.Prelude.{ℕ, suc, not, cond, List, [], ◌∷◌, ◌++◌}
use Rattle.theory.specs.Pattern.{Re}
use Rattle.theory.specs.Spans.{Span, nowhere, span}
use Rattle.theory.specs.Standing.{wanted, member, filter, set_of}
use Rattle.theory.specs.Code.Follow.{start, has_end}
use Rattle.theory.specs.Code.Next.{afters}

-- A start, and leaves that it wants at the place where the pass is.
pub record Block : Type 0 where
  pub from : ℕ
  pub leaves : List ℕ

-- Where the pass is: the blocks in order of start, and the best span found so far. New starts open while there is none.
pub record State : Type 0 where
  pub blocks : List Block
  pub best : Span

-- The first leaves of a pattern.
abbrev pub firsts : Re → List ℕ
firsts r = set_of r (wanted (start r))

-- The leaves that those of a set want after the byte b, without those that are taken.
abbrev pub carried : Re → ℕ → List ℕ → List ℕ → List ℕ
carried r b taken l = filter (λ p. not (member p taken)) (set_of r (wanted (afters r b l)))

-- "An empty block goes."
abbrev pub keep : ℕ → List ℕ → List Block
keep i [] = []
keep i (p ∷ l) = record { from = i; leaves = p ∷ l } ∷ []

abbrev pub onto : List Block → State → State
onto l s = record { blocks = l ++ s.blocks; best = s.best }

-- The byte b at the place j carries each block's set on, without the leaves that an earlier block has. "A block that gets an end closes all later ones."
unfoldable pub carry : Re → ℕ → ℕ → Span → List ℕ → List Block → State
carry r b j best taken [] = record { blocks = []; best = best }
carry r b j best taken (x ∷ l) =
    cond (has_end (afters r b x.leaves))
    (record { blocks = keep x.from (carried r b taken x.leaves); best = span x.from (suc j) })
    (onto (keep x.from (carried r b taken x.leaves)) (carry r b j best (taken ++ carried r b taken x.leaves) l))

-- "While no block has had an end, a block for a new start is added behind the others."
abbrev pub opening : Re → ℕ → Span → List Block
opening r j nowhere = record { from = j; leaves = firsts r } ∷ []
opening r j (span i k) = []

-- The step by the byte b at the place j.
unfoldable pub step : Re → ℕ → ℕ → State → State
step r b j s = carry r b j s.best [] (s.blocks ++ opening r j s.best)

-- No block: the pass is between matches, or over.
abbrev pub bare : Span → State
bare best = record { blocks = []; best = best }
