-- The greedy span is there with its fields.
use Rattle.std.proofs.Common.{arith}
use Rattle.orders.proofs.Ordering.{answer_fields}
use Rattle.orders.proofs.answer_fields.Goals as goal

pub returns-in-Some : goal.returns-in-Some
returns-in-Some c =
    let u = c.fields.ensures.printed in
    (u.0, answer_fields (omega arith) (rw (c.view.ensures.view, c.in-Some.is) at c.cut.ensures.cuts) u.1, omega (arith, u.2), u.3)
