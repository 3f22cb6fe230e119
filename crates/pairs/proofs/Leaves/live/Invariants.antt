-- `Leaves::live` meets its contract. The invariant: each leaf so far is live, and `more` is what a pass makes of them. The measure is how far their number is below 2^64.
-- Assumes nothing.
use Prim.Native.Nat.{◌-◌, ◌<◌}
use Rattle.pairs.specs.Leaves.{LivePass}
use Rattle.pairs.proofs.Live.{AllLive}
use Rattle.pairs.proofs.Leaves.live.Given as goal

abbrev pub invariant-loop-live : goal.invariant-loop-live
invariant-loop-live l = (l.more < 18446744073709551616) × AllLive l.self.shares.now l.self.sets.now l.self.ending l.live × LivePass l.self.shares.now l.self.sets.now l.self.ending l.live l.more

abbrev pub decreases-loop-live : goal.decreases-loop-live
decreases-loop-live l = 18446744073709551616 - l.live
