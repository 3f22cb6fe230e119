-- What is left: without a POSIX span there is no span, and the greedy end is found in the line up to the POSIX end.
-- Assumes nothing.
use native.Mathlib.Omega.{arith}
use Rattle.matchers.proofs.Both.{cut_none, cut_some}
use Rattle.matchers.proofs.cut.Goals as goal

pub returns-in_err-span : goal.returns-in_err-span
returns-in_err-span c = record { cuts = rw c.from_residual.ensures (cut_none (λ i. omega (arith, c.type_inv.line i)) (rw c.by_sets.ensures.sets at c.in_err-span.ensures.found)) }

pub returns : goal.returns
returns c = record { cuts = rw c.unwrap_or.ensures (cut_some (λ i. omega (arith, c.type_inv.line i)) (rw c.by_sets.ensures.sets at c.in_ok-span.ensures.found) c.min-n.ensures c.greedy_end-greedy.ensures.ended) }
