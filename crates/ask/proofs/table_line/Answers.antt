-- A table that fails is refused with 14.
use Rattle.ask.specs.Table.{faulty}
use Rattle.ask.proofs.table_line.Goals as goal

pub returns-in-Err : goal.returns-in-Err
returns-in-Err c = faulty c.in-Err.ensures.checked (rw c.number.ensures.number at c.refused.ensures.printed)
