-- The least leaf stands as many places up as there are zeros below it.
use Rattle.std.proofs.Common.{rules, arith}
use Rattle.words.proofs.Leaves.{parted}
use Rattle.words.proofs.take_least.Goals as goal

pub returns : goal.returns
returns c = record { taken = record { is = search rules; parted = parted c.args.x (omega arith) (omega arith) } }
