-- `records::put_set` meets its contract. The invariant: what is left to put in from place i on completes the eight bytes.
-- Assumes nothing.
use native.Mathlib.Omega.{arith}
use Prim.Native.Nat.{◌-◌}
use Rattle.records.specs.Bytes.{turn, bytes_of}
use mathlib.Core.Path.{◌≡◌, ◌∙◌}
use Rattle.records.proofs.Sets.{put_more}
use Rattle.records.proofs.put_set.Goals as goal

pub loop-i-preserved : goal.loop-i-preserved
loop-i-preserved c =
    let p = c.loop-i in
    let e : c.turned.result ≡ turn 8 p.y = c.turned.ensures.0 in
    rw e (put_more p.v p.i p.y (omega arith) ∙ p.invariant)

pub returns : goal.returns
unfolding bytes_of
returns c =
    let p = c.loop-i in
    let n : 10 - p.i ≡ 0 = omega arith in
    rw n at p.invariant
