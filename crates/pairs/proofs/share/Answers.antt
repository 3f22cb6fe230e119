-- `pairs::share` meets its contract: one leaf more, and that none is left at the end.
-- Assumes nothing.
use Rattle.pairs.proofs.Shares.{sharing_begin, sharing_turn, sharing_end}
use Rattle.pairs.proofs.share.Goals as goal

pub loop-t-init : goal.loop-t-init
loop-t-init c = sharing_begin c.args.shares.now c.args.mask c.requires

pub loop-t-preserved : goal.loop-t-preserved
loop-t-preserved c =
    let l = c.loop-t in
    let t = c.in-Some.t in
    rw c.union.ensures.union (sharing_turn _ l.shares _ l.rest t.leaf t.rest c.in-Some.ensures.taken.parted l.invariant)

pub returns : goal.returns
returns c = let l = c.loop-t in sharing_end _ l.shares _ l.rest c.in_default.ensures.taken l.invariant
