-- `starts::Blocks::carry_all` meets its contract. The invariant: what is left to carry on from the block q, where none has had an end.
-- Assumes nothing.
use Rattle.starts.proofs.Carries.{Loop}
use Rattle.starts.proofs.Blocks.carry_all.Given as goal

abbrev pub invariant-loop-q : goal.invariant-loop-q
invariant-loop-q l = Loop l.turn.sets.now l.turn.end l.turn.mask l.turn.ending l.fn.self l.self l.c l.q
