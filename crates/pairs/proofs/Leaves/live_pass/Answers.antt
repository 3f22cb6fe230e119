-- `Leaves::live_pass` meets its contract: one leaf more, and all of them.
-- Assumes nothing.
use mathlib.Core.Path.{◌≡◌}
use Prim.Native.Nat.{◌-◌}
use native.Mathlib.Omega.{arith}
use Rattle.pairs.proofs.Live.{pass_begin, pass_leaf, pass_end}
use Rattle.pairs.proofs.Leaves.live_pass.Goals as goal

pub loop-p-init : goal.loop-p-init
loop-p-init c = pass_begin _ _ _ c.args.old

pub loop-p-preserved : goal.loop-p-preserved
loop-p-preserved c =
    let l = c.loop-p in
    let leaf = pass_leaf _ _ _ _ l.p (l.p - 1) l.live (omega arith) (omega arith) l.invariant in
    rw (c.with_if-live.ensures.with, c.both.ensures.both, c.has-takes.ensures.member, c.either-leads.ensures.either, c.has.ensures.member) leaf

pub returns : goal.returns
returns c = let l = c.loop-p in let e : l.p ≡ 0 = omega arith in pass_end _ _ _ _ l.live (rw e at l.invariant)
