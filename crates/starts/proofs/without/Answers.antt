-- `starts::without` meets its contract.
-- Assumes nothing.
use Rattle.facts.proofs.Bits.{without_bits}
use Rattle.starts.proofs.without.Goals as goal

pub returns : goal.returns
returns c = without_bits c.args.x c.args.y
