-- In both cases.
use Rattle.printing.proofs.Laws.{put_limited, put_unlimited}
use Rattle.printing.proofs.Output.put_limit.Goals as goal

pub returns-in-Some : goal.returns-in-Some
returns-in-Some c = rw c.in-Some.is (put_limited c.put_field.ensures)

pub returns-in-None : goal.returns-in-None
returns-in-None c = rw c.in-None.is (put_unlimited c.put.ensures)
