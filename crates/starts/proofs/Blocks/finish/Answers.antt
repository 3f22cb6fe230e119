-- What is left: a turn, and the ends of the pass.
-- Assumes nothing.
use native.Mathlib.Omega.{arith}
use Rattle.starts.proofs.Finishing.{finish_turn, finish_end}
use Rattle.starts.proofs.Blocks.finish.Goals as goal

pub loop-i-preserved : goal.loop-i-preserved
loop-i-preserved c = rw c.unwrap_or-best.ensures (finish_turn c.loop-i.invariant c.loop-i-test.true (rw c.from.ensures at c.carry_all-c.ensures))

pub returns : goal.returns
returns c = finish_end c.loop-i.invariant (omega arith)
