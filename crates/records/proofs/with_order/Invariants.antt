-- `records::with_order` meets its contract. The invariant: what is left to put in after i times four numbers completes the bytes of (a), and zeros stand there.
-- Assumes nothing.
use Prim.Native.Nat.{◌+◌, ◌-◌, ◌*◌}
use lib.ListN.{drop, replicate}
use lib.Seq.{sets}
use Rattle.records.specs.Bytes.{threes}
use Rattle.records.proofs.Orders.{Zeros}
use mathlib.Core.Path.{◌≡◌}
use Rattle.records.proofs.with_order.Given as goal

abbrev pub invariant-loop-i : goal.invariant-loop-i
invariant-loop-i l = (sets l.v (13 + 3 * l.i) (threes (16 - l.i) (drop (4 * l.i) l.leaves)) ≡ sets (replicate 64 0) 13 (threes 16 l.leaves)) × Zeros (13 + 3 * l.i) l.v
