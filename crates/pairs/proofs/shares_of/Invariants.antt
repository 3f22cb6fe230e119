-- The invariant: the numbers have what the bytes so far have leaves share, those of the last mask too.
use Rattle.pairs.specs.Leaves.{Shared}
use Rattle.pairs.proofs.Shares.{SharesTo}
use Rattle.pairs.proofs.shares_of.Given as goal

abbrev pub invariant-loop-mask : goal.invariant-loop-mask
invariant-loop-mask l = SharesTo l.masks l.mask-index l.shares × Shared l.shares l.last l.shares
