-- What is left: each way that it answers.
-- Assumes nothing.
use mathlib.Core.Path.{refl}
use Rattle.starts.proofs.Whole.{found_empty, found_none, found_by}
use Rattle.starts.proofs.posix_span.Goals as goal

pub returns-then-tables-eq1 : goal.returns-then-tables-eq1
returns-then-tables-eq1 c = record { found = rw c.unwrap_or.ensures (found_empty c.if-tables-eq1.true (rw c.ending.ensures.ending at c.last_end-last.ensures.last)) }

pub returns-in_err-from : goal.returns-in_err-from
returns-in_err-from c = record { found = rw c.from_residual.ensures (found_none c.if-tables-eq1.false c.in_err-from.ensures refl) }

pub returns : goal.returns
returns c = record { found = found_by c.if-tables-eq1.false c.in_ok-from.ensures refl c.span_from.ensures }
