-- `records::put_set` meets its contract. The invariant: what is left to put in from place i on completes the eight bytes.
-- Assumes nothing.
use Prim.Native.Nat.{◌-◌}
use lib.Seq.{sets}
use Rattle.records.specs.Bytes.{bytes_of}
use mathlib.Core.Path.{◌≡◌}
use Rattle.records.proofs.put_set.Given as goal

abbrev pub invariant-loop-i : goal.invariant-loop-i
invariant-loop-i l = sets l.v l.i (bytes_of (10 - l.i) l.y) ≡ sets l.initial.v 2 (bytes_of 8 l.x)
