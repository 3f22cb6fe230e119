-- A read changes the chunk's bytes.
use Rattle.lines.proofs.Exchanging.{took_other}
use Rattle.lines.proofs.Input.read_more.Goals as goal

pub returns : goal.returns
returns g c = (_, took_other _ c.took.ensures)
