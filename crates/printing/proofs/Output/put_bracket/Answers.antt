-- In both cases.
use Rattle.printing.proofs.Laws.{put_between, put_absent}
use Rattle.printing.proofs.Output.put_bracket.Goals as goal

pub returns-in-Some : goal.returns-in-Some
returns-in-Some c = rw c.in-Some.is (put_between c.put_field.ensures c.put_field-in-Some.ensures)

pub returns-in-None : goal.returns-in-None
returns-in-None c = rw c.in-None.is (put_absent c.put.ensures)
