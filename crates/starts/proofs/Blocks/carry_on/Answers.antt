-- What is left: with an end, and without one.
-- Assumes nothing.
use mathlib.Core.Path.{refl}
use Rattle.starts.proofs.Carries.{one_more}
use Rattle.starts.proofs.Blocks.carry_on.Goals as goal

pub returns : goal.returns
returns c = rw c.then_some.ensures (one_more _ c.requires c.without-set.ensures c.keep.ensures refl)
