-- `arrays::size_at` meets its contract: the sizes before the place are small, so their sum is.
-- Assumes nothing.
use native.Mathlib.Omega.{arith}
use mathlib.Core.Path.{◌∙◌}
use Rattle.arrays.proofs.Sizes.{size_before}
use Rattle.arrays.proofs.size_at.Goals as goal

pub returns : goal.returns
returns c =
    let a = c.args in
    c.size_of.ensures ∙ size_before a.kind a.sizes.now a.i c.left_size.result (omega arith) c.left_size.ensures
