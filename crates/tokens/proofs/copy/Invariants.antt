-- One more copy of a block: after i turns, of its first i codes.
-- Assumes nothing.
use lib.ListN.{take}
use Rattle.tokens.specs.Copied.{Copied}
use Rattle.tokens.proofs.copy.Given as goal

abbrev pub invariant-loop-i : goal.invariant-loop-i
invariant-loop-i l = Copied l.initial.a.items l.initial.a.len l.from l.size (take l.i) l.a.items l.a.len
