-- `follow::outcomes::Outcomes::join` meets its contract. The invariant: the list so far is the one with the first outcomes of the other.
-- Assumes nothing.
use Rattle.follow.proofs.Joins.{join_turn, join_done, item_small}
use Rattle.follow.proofs.outcomes.Outcomes.join.Goals as goal

pub add_from-requires : goal.add_from-requires
add_from-requires c = item_small c.args.y.now c.loop-p.p-index c.loop-p-test.true

pub loop-p-preserved : goal.loop-p-preserved
loop-p-preserved c =
    let l = c.loop-p in
    join_turn c.args.y.now l.p-index l.invariant c.loop-p-test.true c.add_from.ensures

pub returns : goal.returns
returns c =
    let l = c.loop-p in
    join_done c.args.y.now l.p-index l.invariant c.loop-p-test.false
