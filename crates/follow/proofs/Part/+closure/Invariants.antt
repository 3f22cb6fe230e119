-- `follow::Part::closure` meets its contract. The measure is the part's places.
-- Assumes nothing.
use Prim.Native.Nat.{◌-◌}
use Rattle.follow.proofs.Part.+closure.Given as goal

abbrev pub decreases-closure : goal.decreases-closure
decreases-closure l = l.self.end - l.self.low
