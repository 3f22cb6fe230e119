-- `pairs::clear` meets its contract: zeros, and the rest.
-- Assumes nothing.
use Rattle.pairs.proofs.Deciding.{clear_is}
use Rattle.pairs.proofs.clear.Goals as goal

pub returns : goal.returns
returns c = clear_is c.args.area.now c.fill.new.self c.requires (c.fill.ensures.after (λ y e. e))
