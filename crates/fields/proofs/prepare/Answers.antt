-- `fields::prepare` meets its contract: what the reader hands over decides, and the number of brackets.
-- Assumes nothing.
use mathlib.Core.Path.{refl}
use Rattle.std.proofs.lemmas.Result.{err_from_is_err_and}
use Rattle.fields.proofs.Preparing.{prepared_refused, prepared_many, prepared_ready}
use Rattle.fields.proofs.prepare.Goals as goal

pub returns-in_err-reading : goal.returns-in_err-reading
returns-in_err-reading c =
    let q = err_from_is_err_and c.from_residual.result c.from_residual.ensures.1 in
    rw (q.1, q.2) (record { prepared = prepared_refused c.in_err-reading.ensures.right })

pub returns-in-Some : goal.returns-in-Some
returns-in-Some c = record { prepared = rw c.at.ensures.refusal (prepared_many c.in_ok-reading.ensures.right c.in-Some.is) }

pub returns : goal.returns
returns c = record { prepared = prepared_ready c.in_ok-reading.ensures.right c.in_default.is refl c.marks_of.ensures.marked c.tables_of.ensures.filled }
