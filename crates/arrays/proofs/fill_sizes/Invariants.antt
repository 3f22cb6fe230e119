-- `arrays::fill_sizes` meets its contract. The invariant: the sizes below i are right, and small.
-- Assumes nothing.
use mathlib.Core.Path.{◌≡◌}
use lib.ListN.{length}
use Rattle.grammar.specs.Code.Tokens.{max_parts}
use Rattle.arrays.specs.Passes.{Sized, Small}
use Rattle.arrays.proofs.fill_sizes.Given as goal

abbrev pub invariant-loop-i : goal.invariant-loop-i
invariant-loop-i l = Sized l.kinds l.i l.sizes × Small l.sizes l.i × (length l.sizes ≡ max_parts)
