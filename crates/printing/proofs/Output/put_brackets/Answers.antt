-- One bracket more.
use Rattle.printing.proofs.Laws.{put_no_pairs, put_more_pairs}
use Rattle.printing.proofs.Output.put_brackets.Goals as goal

pub loop-f-init : goal.loop-f-init
loop-f-init c = put_no_pairs c.settle.ensures

pub loop-f-preserved : goal.loop-f-preserved
loop-f-preserved c = put_more_pairs c.loop-f.invariant (rw c.taken.ensures at c.put_bracket.ensures)
