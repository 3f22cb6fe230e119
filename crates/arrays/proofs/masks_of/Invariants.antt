-- `arrays::masks_of` meets its contract. The invariant: the leaves below p are done, and the masks have the sets of the leaves that are.
-- Assumes nothing.
use lib.ListN.{length}
use Rattle.arrays.proofs.Masks.{Done}
use Rattle.arrays.proofs.masks_of.Given as goal

abbrev pub invariant-loop-p : goal.invariant-loop-p
invariant-loop-p l = Done l.loaded l.s l.places (length l.places) l.done l.p l.masks
