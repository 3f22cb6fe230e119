-- The ends of optional copies: after i turns, those of i.
-- Assumes nothing.
use Rattle.grammar.specs.Code.Codes.{manner}
use Rattle.tokens.proofs.Laws.{added_more, same_added}
use Rattle.tokens.proofs.Blocks.{close_more}
use Rattle.tokens.proofs.closes.Goals as goal

pub loop-preserved : goal.loop-preserved
loop-preserved c = same_added (added_more (added_more c.loop.invariant c.push.ensures.added) c.shut.ensures.added) (close_more (manner c.args.lazy) c.loop.counter)
