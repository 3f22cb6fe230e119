-- What is left: a block with an end, one without, and the last.
-- Assumes nothing.
use native.Mathlib.Omega.{arith}
use Rattle.starts.proofs.Carries.{loop_turn, loop_end, loop_shut, none_found, some_found}
use Rattle.starts.proofs.Blocks.carry_all.Goals as goal

pub returns-then-is_some : goal.returns-then-is_some
returns-then-is_some c = loop_shut c.loop-q-test.true (some_found _ c.if-is_some.ensures) c.loop-q.invariant c.carry_block-c.ensures

pub loop-q-preserved : goal.loop-q-preserved
loop-q-preserved c = loop_turn c.loop-q-test.true (none_found _ c.if-is_some.ensures) c.loop-q.invariant c.carry_block-c.ensures

pub returns : goal.returns
returns c = loop_end (omega arith) c.loop-q.invariant
