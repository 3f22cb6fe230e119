-- One after the other.
use Rattle.printing.proofs.Laws.{join}
use Rattle.printing.proofs.Output.fill_field.Goals as goal

pub returns : goal.returns
returns c = join c.fill-self.ensures (join c.fill-self-2.ensures c.fill.ensures)
