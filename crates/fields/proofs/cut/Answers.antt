-- `fields::cut` meets its contract: without a POSIX span there is no span.
-- Assumes nothing.
use native.Mathlib.Omega.{arith}
use Rattle.fields.proofs.Cutting.{cut_none}
use Rattle.fields.proofs.cut.Goals as goal

pub returns-in_err-posix : goal.returns-in_err-posix
returns-in_err-posix c = record { cuts = rw c.from_residual.ensures (cut_none (λ i. omega (arith, c.type_inv.line i)) (rw c.by_sets.ensures.sets at c.in_err-posix.ensures.found)) }

pub returns : goal.returns
returns c = record { cuts = c.piece_at.ensures (rw c.by_sets.ensures.sets at c.in_ok-posix.ensures.found) }
