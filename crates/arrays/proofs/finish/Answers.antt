-- `arrays::finish` meets its contract: the three passes, one after the other, make the arrays of the pattern.
-- Assumes nothing.
use native.Mathlib.Omega.{arith}
use Rattle.arrays.proofs.Right.{finished_slices}
use Rattle.arrays.proofs.finish.Goals as goal

pub returns : goal.returns
returns c =
    record {
      finished =
          let a = c.args in
          finished_slices a.loaded.now a.s.now a.codes.now.items c.number_leaves.new.leaves.places c.number_leaves.new.kinds c.fill_sizes.new.sizes c.masks_of-masks.result a.codes.now.len c.min-n.result
          c.number_leaves.new.leaves.len c.min-n.ensures (omega arith) (omega arith) c.number_leaves.ensures c.fill_sizes.ensures c.masks_of-masks.ensures;
    }
