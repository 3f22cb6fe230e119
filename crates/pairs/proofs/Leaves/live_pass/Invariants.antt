-- `Leaves::live_pass` meets its contract. The invariant: the pass has dealt with the leaves from p on.
-- Assumes nothing.
use Prim.Native.Nat.{◌≤◌}
use Rattle.pairs.proofs.Live.{PassTo}
use Rattle.pairs.proofs.Leaves.live_pass.Given as goal

abbrev pub invariant-loop-p : goal.invariant-loop-p
invariant-loop-p l = PassTo l.self.shares.now l.self.sets.now l.self.ending l.old l.p l.live
