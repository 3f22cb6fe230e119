-- `arrays::mark` meets its contract, in both cases of the test.
-- Assumes nothing.
use Rattle.arrays.proofs.Masks.{marked_some, marked_none}
use Rattle.arrays.proofs.mark.Goals as goal

pub returns-then-leaf_holds : goal.returns-then-leaf_holds
returns-then-leaf_holds c =
    let a = c.args in
    marked_some a.loaded.now a.s.now a.q a.m a.b a.x c.union.result c.leaf_holds.result c.leaf_holds.ensures.member c.if-leaf_holds.true c.union.ensures.union

pub returns : goal.returns
returns c =
    let a = c.args in
    marked_none a.loaded.now a.s.now a.q a.m a.b a.x c.leaf_holds.result c.leaf_holds.ensures.member c.if-leaf_holds.false
