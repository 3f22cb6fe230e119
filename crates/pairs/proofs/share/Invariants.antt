-- `pairs::share` meets its contract. The invariant: the numbers so far, and what the leaves left share yet, is all that the mask has leaves share.
-- The measure is the number whose bits are the leaves left.
-- Assumes nothing.
use Rattle.pairs.proofs.Shares.{Sharing}
use Rattle.pairs.proofs.share.Given as goal

abbrev pub invariant-loop-t : goal.invariant-loop-t
invariant-loop-t l = Sharing l.initial.shares l.mask l.rest l.shares

abbrev pub decreases-loop-t : goal.decreases-loop-t
decreases-loop-t l = l.rest
