-- `table::first_unequal` meets its contract.
-- Assumes nothing.
use Rattle.std.proofs.Common.{arith, length}
use Rattle.std.proofs.lemmas.Grind.{common_steps}
use Rattle.table.proofs.Comparisons.{Unequal, unequal_place}
use Rattle.table.proofs.first_unequal.Goals as goal

pub returns : goal.returns
returns c = let a = c.args in let h : Unequal a.u.now a.v.now (length a.u.now) c.position.result = grind (arith, common_steps) in unequal_place _ _ _ _ h
