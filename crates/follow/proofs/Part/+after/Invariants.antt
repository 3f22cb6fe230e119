-- `follow::Part::after` meets its contract. The measure is the part's places.
-- Assumes nothing.
use Prim.Native.Nat.{◌-◌}
use Rattle.follow.proofs.Part.+after.Given as goal

abbrev pub decreases-after : goal.decreases-after
decreases-after l = l.self.end - l.self.low
