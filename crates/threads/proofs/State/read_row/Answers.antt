-- The invariant: the numbers before x are read.
use Rattle.std.proofs.Common.{◌≡◌, arith, min, get_or}
use Rattle.threads.proofs.Rows.{row_all, row_end, row_more}
use Rattle.threads.proofs.State.read_row.Goals as goal

pub returns-then-q-eq0 : goal.returns-then-q-eq0
returns-then-q-eq0 c =
    let e : c.min-q.result ≡ min (get_or c.row-row.result.now c.loop-x.x-index 0) 64 = rw c.from.ensures at c.min-q.ensures in
    row_end c.row-row.ensures.row c.loop-x.invariant c.loop-x-test.true c.requires.4 e c.if-q-eq0.true c.move_slot.ensures

pub loop-x-preserved : goal.loop-x-preserved
loop-x-preserved c =
    let e : c.min-q.result ≡ min (get_or c.row-row.result.now c.loop-x.x-index 0) 64 = rw c.from.ensures at c.min-q.ensures in
    row_more c.row-row.ensures.row c.loop-x.invariant c.loop-x-test.true e (omega arith) c.enter.ensures

pub returns : goal.returns
returns c = row_all c.row-row.ensures.row c.loop-x.invariant (omega arith)
