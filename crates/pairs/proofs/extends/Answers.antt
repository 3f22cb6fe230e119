-- `pairs::extends` meets its contract: the empty string extends to a longer one, or a pair decides.
-- Assumes nothing.
use borrow.Author.Rules.{rules}
use Rattle.pairs.proofs.Deciding.{decides_empty, decides_pairs}
use Rattle.pairs.proofs.extends.Goals as goal

pub returns-then-both : goal.returns-then-both
returns-then-both c =
    decides_empty c.shares_of-shares.ensures c.ending_leaves.ensures.endings c.live-live.result c.live-live.ensures
    (rw c.both.ensures.both at c.if-both.true)

pub returns : goal.returns
returns c =
    decides_pairs c.shares_of-shares.ensures c.ending_leaves.ensures.endings c.live-live.result c.live-live.ensures
    (rw c.both.ensures.both at c.if-both.false) (search rules) (rw c.clear.ensures at c.mark_all-waiting.ensures) c.search.ensures
