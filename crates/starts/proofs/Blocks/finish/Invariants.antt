-- `starts::Blocks::finish` meets its contract. The invariant: what is left to do from the place i on is the whole.
-- Assumes nothing.
use Rattle.starts.proofs.Finishing.{Finishing}
use Rattle.starts.proofs.Blocks.finish.Given as goal

abbrev pub invariant-loop-i : goal.invariant-loop-i
invariant-loop-i l = Finishing l.tables.masks.now l.tables.sets.now l.line l.ending l.from l.initial.self l.initial.best l.i l.self l.best
