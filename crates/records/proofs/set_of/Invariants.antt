-- `records::set_of` meets its contract. The invariant: x is the set of the bytes from place i on.
-- Assumes nothing.
use Prim.Native.Nat.{◌-◌, ◌≤◌}
use lib.ListN.{drop}
use Rattle.records.specs.Bytes.{set_of}
use mathlib.Core.Path.{◌≡◌}
use Rattle.records.proofs.set_of.Given as goal

abbrev pub invariant-loop-i : goal.invariant-loop-i
invariant-loop-i l = (2 ≤ l.i) × (l.x ≡ set_of (10 - l.i) (drop l.i l.v))
