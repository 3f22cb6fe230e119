-- `follow::tables_of` meets its contract. The invariant: the rows below k are stored.
-- Assumes nothing.
use native.Mathlib.Omega.{arith}
use mathlib.Core.Path.{◌≡◌}
use Rattle.follow.proofs.Rows.{filled_more, filled_right}
use Rattle.follow.proofs.tables_of.Goals as goal

pub loop-k-preserved : goal.loop-k-preserved
loop-k-preserved c =
    let l = c.loop-k in
    filled_more c.of-whole.result l.k _ l.tables _ c.loop-k-test.true l.invariant c.row.ensures (rw c.from.ensures at c.store.ensures)

pub returns : goal.returns
returns c =
    let e : c.loop-k.k ≡ 65 = omega arith in
    record { right = filled_right c.args.x.now c.of-whole.result c.of-whole.ensures (rw e at c.loop-k.invariant) }
