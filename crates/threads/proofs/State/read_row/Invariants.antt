-- The invariant: the numbers before x are read.
use Rattle.threads.proofs.Rows.{RowBefore}
use Rattle.threads.proofs.State.read_row.Given as goal

abbrev pub invariant-loop-x : goal.invariant-loop-x
invariant-loop-x l = RowBefore l.tables.rows.now l.tables.lens.now l.marks l.k l.from l.turn.side l.turn.place l.initial.self l.x-index l.self
