-- Copies of the part: after i turns, i of them.
-- Assumes nothing.
use native.Mathlib.Omega.{arith}
use Rattle.tokens.proofs.Copying.{copies_more}
use Rattle.tokens.proofs.copies.Goals as goal

pub loop-preserved : goal.loop-preserved
loop-preserved c = (omega (arith, c.copy.ensures.copied.more), copies_more _ c.loop.counter c.if-a-from.false c.loop.invariant.1 c.copy.ensures.copied)
