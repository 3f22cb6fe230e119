-- The invariant: what is left to do from the place i on is the whole.
use Rattle.threads.proofs.Ahead.{Aheads}
use Rattle.threads.proofs.State.pass.Given as goal

abbrev pub invariant-loop-i : goal.invariant-loop-i
invariant-loop-i l = Aheads l.tables.masks.now l.tables.rows.now l.tables.lens.now l.marks l.line l.start l.initial.self l.initial.last l.i l.side l.self l.last
