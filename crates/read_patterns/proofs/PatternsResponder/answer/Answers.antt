-- The line says what the reader hands over.
use Rattle.std.proofs.Common.{arith}
use Rattle.read_patterns.proofs.Telling.{told_accepted, told_refused}
use Rattle.read_patterns.proofs.PatternsResponder.answer.Goals as goal

pub returns-in-Ok : goal.returns-in-Ok
returns-in-Ok c =
    let l = c.accepted.ensures.printed in
    (l.0, told_accepted (rw c.fixed.ensures.fixed at c.in-Ok.ensures.right) l.1, omega (arith, l.2), l.3)

pub returns-in-Err : goal.returns-in-Err
returns-in-Err c =
    let l = c.refused.ensures.printed in
    (l.0, told_refused (rw c.fixed.ensures.fixed at c.in-Err.ensures.right) (rw c.number.ensures.number at l.1), omega (arith, l.2), l.3)
