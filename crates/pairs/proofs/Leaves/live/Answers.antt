-- `Leaves::live` meets its contract. The invariant: each leaf so far is live, and `more` is what a pass makes of them. The measure is how far their number is below 2^64.
-- Assumes nothing.
use native.Mathlib.Omega.{arith}
use borrow.Author.Rules.{rules}
use Rattle.pairs.proofs.Live.{none_live, live_end}
use Rattle.pairs.proofs.Leaves.live.Goals as goal

pub loop-live-init : goal.loop-live-init
loop-live-init c = (search rules, none_live _ _ _, c.live_pass-more.ensures)

pub loop-live-preserved : goal.loop-live-preserved
loop-live-preserved c = let l = c.loop-live in (search rules, l.invariant.2.sound l.invariant.1, c.live_pass-more-in-loop-live.ensures)

pub returns : goal.returns
returns c = let l = c.loop-live in live_end _ _ _ l.live l.more (omega arith) l.invariant.1 l.invariant.2
