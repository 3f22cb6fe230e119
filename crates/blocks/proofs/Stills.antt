-- A byte that keeps one block as it is at one place does so at every place, so that a run of such bytes may be passed over.
-- Assumes nothing.
use mathlib.Core.Path.{◌≡◌, ap}
use Prim.Native.Nat.{ℕ, suc, ◌<◌}
use mathlib.Core.Bool.{Bool, true, false, cond}
use mathlib.Core.List.{List, [], ◌∷◌, ◌++◌}
use native.Mathlib.Omega.{arith}
use lib.ListN.{length}
use Rattle.theory.specs.Pattern.{Re}
use Rattle.theory.specs.Spans.{Span, nowhere, span}
use Rattle.theory.specs.Code.Follow.{has_end}
use Rattle.theory.specs.Code.Next.{afters}
use Rattle.blocks.specs.Blocks.{Block, State, firsts, carried, keep, onto, carry, step, bare}

-- One block, and nothing found.
abbrev pub lone : ℕ → List ℕ → State
lone f l = record { blocks = record { from = f; leaves = l } ∷ []; best = nowhere }

abbrev found : Span → ℕ
found nowhere = 0
found (span i k) = 1

abbrev from_of : List Block → ℕ
from_of [] = 0
from_of (x ∷ l) = x.from

module _ (r : Re) (b f : ℕ) (l : List ℕ) where
  abbrev old : List ℕ
  old = carried r b [] l

  abbrev new : List ℕ
  new = carried r b old (firsts r)

  -- The step at the place k, by whether the block and the new start get an end.
  abbrev after : Bool → Bool → ℕ → State
  after c d k = cond c (record { blocks = keep f old; best = span f (suc k) }) (onto (keep f old) (cond d (record { blocks = keep k new; best = span k (suc k) }) (onto (keep k new) (bare nowhere))))

  -- Only the block is left, so there is none for the new start, whatever its place.
  same : (i k : ℕ) → f < i → (x y : List ℕ) → keep f x ++ (keep i y ++ []) ≡ record { from = f; leaves = l } ∷ [] → keep f x ++ (keep k y ++ []) ≡ record { from = f; leaves = l } ∷ []
  same i k h [] [] e = absurd (let z : ◌≡◌ {A = ℕ} 0 1 = ap length e in omega arith)
  same i k h [] (q ∷ y) e = absurd (let z : i ≡ f = ap from_of e in omega arith)
  same i k h (p ∷ x) [] e = e
  same i k h (p ∷ x) (q ∷ y) e = absurd (let z : ◌≡◌ {A = ℕ} 2 1 = ap length e in omega arith)

  pub still : (i k : ℕ) → f < i → step r b i (lone f l) ≡ lone f l → step r b k (lone f l) ≡ lone f l
  unfolding step carry
  still i k h e = go (has_end (afters r b l)) (has_end (afters r b (firsts r))) e
    where
      go : (c d : Bool) → after c d i ≡ lone f l → after c d k ≡ lone f l
      go true d e = absurd (let z : ◌≡◌ {A = ℕ} 1 0 = ap (λ s. found s.best) e in omega arith)
      go false true e = absurd (let z : ◌≡◌ {A = ℕ} 1 0 = ap (λ s. found s.best) e in omega arith)
      go false false e = ap (λ m. record { blocks = m; best = nowhere }) (same i k h old new (ap (λ s. s.blocks) e))
