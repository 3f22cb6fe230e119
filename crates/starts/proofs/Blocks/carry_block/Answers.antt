-- `starts::Blocks::carry_block` meets its contract.
-- Assumes nothing.
use Rattle.starts.proofs.Carries.{on_block}
use Rattle.starts.proofs.Blocks.carry_block.Goals as goal

pub returns : goal.returns
returns c = on_block c.requires.1 c.carried-to.ensures.wants c.carry_on.ensures
