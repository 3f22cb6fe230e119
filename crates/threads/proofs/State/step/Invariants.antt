-- The invariant: the outcomes of the leaves before p are read.
use Rattle.threads.proofs.Stepping.{StepBefore}
use Rattle.threads.proofs.State.step.Given as goal

abbrev pub invariant-loop-p : goal.invariant-loop-p
invariant-loop-p l = StepBefore l.tables.rows.now l.tables.lens.now l.marks l.mask l.leaves l.initial.self.list l.turn.side l.turn.place l.initial.self.slots l.p-index l.self
