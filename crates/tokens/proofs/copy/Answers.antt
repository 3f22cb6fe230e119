-- One more copy of a block: after i turns, of its first i codes.
-- Assumes nothing.
use native.Mathlib.Omega.{arith}
use Rattle.tokens.proofs.Copying.{copy_full, copy_more}
use Rattle.tokens.proofs.copy.Goals as goal

pub returns-then-a-ge-MAX_PARTS : goal.returns-then-a-ge-MAX_PARTS
returns-then-a-ge-MAX_PARTS c = record { copied = copy_full _ _ _ _ (omega arith) }

pub loop-i-preserved : goal.loop-i-preserved
loop-i-preserved c = copy_more _ _ _ (omega arith) c.loop-i.invariant c.push.ensures.added
