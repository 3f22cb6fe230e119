-- `checker::hand_over` meets its contract: the buffer has room for the line, or it has not.
-- Assumes nothing.
use native.Mathlib.Omega.{arith}
use Rattle.checker.proofs.Origins.{handed_given, handed_short}
use Rattle.checker.proofs.hand_over.Goals as goal

pub line_length-length-requires : goal.line_length-length-requires
line_length-length-requires c = c.requires.1

pub returns-then-witness-length : goal.returns-then-witness-length
returns-then-witness-length c = rw c.at.ensures.refusal (handed_short c.requires.1 c.line_length-length.ensures (omega arith))

pub write_line-requires : goal.write_line-requires
write_line-requires c = record { lined = c.requires.1; size = c.line_length-length.ensures; room = omega arith }

pub returns : goal.returns
returns c = handed_given c.requires.1 c.line_length-length.ensures (omega arith) c.write_line.ensures
