-- `records::set_of` meets its contract. The invariant: x is the set of the bytes from place i on.
-- Assumes nothing.
use borrow.Author.Rules.{rules}
use native.Mathlib.Omega.{arith}
use Prim.Native.Nat.{◌-◌}
use lib.ListN.{get_or, drop}
use Rattle.records.specs.Bytes.{turn, set_of}
use mathlib.Core.Path.{◌≡◌, ap, ◌∙◌}
use Rattle.records.proofs.Sets.{set_more, set_room}
use Rattle.records.proofs.set_of.Goals as goal

pub loop-i-init : goal.loop-i-init
unfolding set_of
loop-i-init c = search rules

pub overflow_mul-x : goal.overflow_mul-x
overflow_mul-x c =
    let p = c.loop-i in
    omega (arith, p.invariant.1, set_room (10 - p.i) (drop p.i c.args.v.now) (omega arith))

pub overflow_add-x : goal.overflow_add-x
overflow_add-x c =
    let p = c.loop-i in
    omega (arith, p.invariant.1, set_room (10 - p.i) (drop p.i c.args.v.now) (omega arith))

pub loop-i-preserved : goal.loop-i-preserved
loop-i-preserved c =
    let p = c.loop-i in
    let v = c.args.v.now in
    let e : c.turned.result ≡ turn 8 (get_or v (p.i - 1) 0) = c.turned.ensures.0 ∙ ap (turn 8) c.from.ensures in
    (omega arith, rw (e, p.invariant.1) (set_more v p.i (omega arith) (omega arith)))

pub returns : goal.returns
returns c =
    let p = c.loop-i in
    let e : p.i ≡ 2 = omega arith in
    rw e at p.invariant.1
