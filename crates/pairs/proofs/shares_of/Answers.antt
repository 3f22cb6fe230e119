-- `pairs::shares_of` meets its contract: one byte more, and all of them.
-- Assumes nothing.
use native.Mathlib.Omega.{arith}
use Rattle.pairs.proofs.Shares.{shared_again, shared_none, shares_none, shares_more, shares_all}
use Rattle.pairs.proofs.shares_of.Goals as goal

pub loop-mask-init : goal.loop-mask-init
loop-mask-init c = let none = shares_none c.args.masks.now in (none, shared_none _ none.size)

pub loop-mask-preserved : goal.loop-mask-preserved
loop-mask-preserved c =
    let l = c.loop-mask in
    let x = c.share_next.ensures in
    (shares_more _ l.shares c.share_next.new.shares l.mask-index l.invariant.0 x, shared_again _ x)

pub returns : goal.returns
returns c = let l = c.loop-mask in shares_all _ l.shares l.mask-index (omega arith) l.invariant.0
