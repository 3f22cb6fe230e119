-- `readings::prepare` meets its contract: what the reader hands over decides.
-- Assumes nothing.
use Rattle.std.proofs.lemmas.Result.{err_from_is_err_and}
use Rattle.readings.proofs.Preparing.{prepared_ready, prepared_refused}
use Rattle.readings.proofs.prepare.Goals as goal

pub returns-in_err-reading : goal.returns-in_err-reading
returns-in_err-reading c =
    let q = err_from_is_err_and c.from_residual.result c.from_residual.ensures.1 in
    rw (q.1, q.2) (record { prepared = prepared_refused c.in_err-reading.ensures.right })

pub returns : goal.returns
returns c = record { prepared = prepared_ready c.in_ok-reading.ensures.right c.tables_of.ensures.filled }
