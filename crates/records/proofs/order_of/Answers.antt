-- `records::order_of` meets its contract. The invariant: the bytes left are those from i times three on, and what is left to take out of them completes the list.
-- Assumes nothing.
use native.Mathlib.Omega.{arith}
use Prim.Native.Nat.{◌+◌, ◌-◌, ◌*◌}
use lib.ListN.{length, get_or, take, drop, length-take, length-drop}
use Rattle.records.specs.Bytes.{four, fours}
use mathlib.Core.Path.{◌≡◌, sym, ap, ◌∙◌}
use Rattle.records.proofs.Orders.{take_more, cut}
use Rattle.records.proofs.order_of.Goals as goal

pub loop-i-preserved : goal.loop-i-preserved
loop-i-preserved c =
    let p = c.loop-i in
    let i = p.i-iterator.count in
    let v = c.args.v.now in
    let ((same, (split, long), rem), at, next, fits) = c.in-Some.ensures.steps in
    let (few, size, left, done) = p.invariant in
    let (room, byte, rest) = cut v _ _ i (sym left ∙ split) (long ∙ size) in
    let e0 : get_or c.in-Some.bytes.now 0 0 ≡ get_or v (13 + 3 * i) 0 = byte 0 _ (omega arith) (omega arith) in
    let e1 : get_or c.in-Some.bytes.now 1 0 ≡ get_or v (13 + 3 * i + 1) 0 = byte 1 _ (omega arith) (omega arith) in
    let e2 : get_or c.in-Some.bytes.now 2 0 ≡ get_or v (13 + 3 * i + 2) 0 = byte 2 _ (omega arith) (omega arith) in
    rw next (omega arith, same ∙ size, rest, rw (c.take_four.ensures, at, e0, e1, e2) (take_more p.list v i room ∙ done))

pub returns : goal.returns
unfolding four fours
returns c =
    let p = c.loop-i in
    let i = p.i-iterator.count in
    let v = c.args.v.now in
    let (few, size, left, done) = p.invariant in
    let short = c.in-None.ensures.steps.0.1.0 in
    let n : 16 - i ≡ 0 = omega (arith, few, size, short, ap length left, length-drop (3 * i) (take 48 (drop 13 v)), length-take 48 (drop 13 v), length-drop 13 v) in
    rw n at done
