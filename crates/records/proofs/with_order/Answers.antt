-- `records::with_order` meets its contract. The invariant: what is left to put in after i times four numbers completes the bytes of (a), and zeros stand there.
-- Assumes nothing.
use native.Mathlib.Omega.{arith}
use Rattle.records.proofs.Orders.{put_more, zeros_more, put_done, zeros_blank}
use mathlib.Core.Path.{refl, sym, ◌∙◌}
use Rattle.records.proofs.with_order.Goals as goal

pub loop-i-init : goal.loop-i-init
loop-i-init c = (refl, λ j h. zeros_blank 64 j)

pub loop-i-preserved : goal.loop-i-preserved
loop-i-preserved c =
    let p = c.loop-i in
    let l = c.args.leaves.now in
    let e = rw (c.entry.ensures, c.entry-in-loop-i.ensures, c.entry-in-loop-i-2.ensures, c.entry-in-loop-i-3.ensures) at c.put_four.ensures in
    (rw e (put_more p.v l p.i (omega arith) ∙ p.invariant.0), rw e (zeros_more p.v p.i _ _ _ _ p.invariant.1))

pub returns : goal.returns
returns c =
    let p = c.loop-i in
    sym (put_done p.v c.args.leaves.now p.i (omega arith) p.invariant.1) ∙ p.invariant.0
