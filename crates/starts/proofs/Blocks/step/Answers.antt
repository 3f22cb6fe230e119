-- What is left: a block with an end closes the others, and else a new start is added.
-- Assumes nothing.
use native.Mathlib.Omega.{arith}
use Rattle.starts.proofs.Carries.{step_shut, step_on, none_found, some_found}
use Rattle.starts.proofs.Blocks.step.Goals as goal

pub returns-then-is_some : goal.returns-then-is_some
returns-then-is_some c = step_shut c.carry_all-c.ensures (omega arith) (some_found _ c.if-is_some.ensures)

pub returns : goal.returns
returns c = step_on c.carry_all-c.ensures (none_found _ c.if-is_some.ensures) c.carry_on.ensures
