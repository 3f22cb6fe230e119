-- `records::order_of` meets its contract. The invariant: the bytes left are those from i times three on, and what is left to take out of them completes the list.
-- Assumes nothing.
use Prim.Native.Nat.{◌+◌, ◌-◌, ◌*◌, ◌≤◌}
use lib.ListN.{drop, take, replicate}
use lib.Seq.{sets}
use Rattle.std.specs.Slice.Iter.{chunks_exact_rest, chunks_exact_size}
use Rattle.records.specs.Bytes.{fours}
use mathlib.Core.Path.{◌≡◌}
use Rattle.records.proofs.order_of.Given as goal

abbrev pub invariant-loop-i : goal.invariant-loop-i
invariant-loop-i l =
    let i = l.i-iterator.count in
    let left = l.i-iterator.iter in
    (i ≤ 16) × (chunks_exact_size left ≡ 3) × (chunks_exact_rest left ≡ drop (3 * i) (take 48 (drop 13 l.v))) × (sets l.list (4 * i) (fours (16 - i) (drop (13 + 3 * i) l.v)) ≡ sets (replicate 64 0) 0 (fours 16 (drop 13 l.v)))
