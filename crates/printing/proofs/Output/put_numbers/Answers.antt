-- One number more.
use Rattle.std.proofs.Common.{arith}
use Rattle.printing.proofs.Laws.{put_no_fields, put_more_fields}
use Rattle.printing.proofs.Output.put_numbers.Goals as goal

pub loop-x-init : goal.loop-x-init
loop-x-init c = put_no_fields c.settle.ensures

pub loop-x-preserved : goal.loop-x-preserved
loop-x-preserved c = put_more_fields c.args.numbers.now c.loop-x.x-index c.loop-x.invariant c.put_field.ensures c.from.ensures (omega arith)
