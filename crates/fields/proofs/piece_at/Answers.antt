-- From the start of the POSIX span on the way is that of the greedy span.
-- Assumes nothing.
use native.Mathlib.Omega.{arith}
use Rattle.fields.proofs.Cutting.{cut_some}
use Rattle.fields.proofs.piece_at.Goals as goal

pub returns : goal.returns
returns c = λ found. rw c.unwrap_or-way.ensures (cut_some (λ i. omega (arith, c.type_inv.line i)) c.first_way-way.result _ found (rw c.by_rows.ensures.rows at c.first_way-way.ensures.led))
