-- `pairs::mark_all` meets its contract. The invariant: to mark the pairs of the leaves left completes the marking of all. The measure is the number whose bits are those leaves.
-- Assumes nothing.
use mathlib.Core.Path.{◌≡◌}
use mathlib.Core.List.{List}
use Prim.Native.Nat.{ℕ}
use lib.ListN.{length}
use Rattle.pairs.specs.Rows.{MarkedBy, sharing}
use Rattle.pairs.proofs.mark_all.Given as goal

abbrev pub invariant-loop-t : goal.invariant-loop-t
invariant-loop-t l =
    (length l.area ≡ length l.initial.area)
    × ((t : List ℕ) (r : ℕ) → MarkedBy (sharing l.shares l.rest l.to) l.area l.waiting t r → MarkedBy (sharing l.shares l.from l.to) l.initial.area l.waiting-2 t r)

abbrev pub decreases-loop-t : goal.decreases-loop-t
decreases-loop-t l = l.rest
