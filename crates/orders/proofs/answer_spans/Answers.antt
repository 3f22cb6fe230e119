-- Both spans are there.
use Rattle.std.proofs.Common.{arith}
use Rattle.orders.proofs.Ordering.{answer_cut}
use Rattle.orders.proofs.answer_spans.Goals as goal

pub returns-in-Some : goal.returns-in-Some
returns-in-Some c =
    let u = c.spans.ensures.printed in
    (u.0, answer_cut (omega arith) (rw c.view.ensures.view at c.in-Some.ensures.cuts) u.1, omega (arith, u.2), u.3)
