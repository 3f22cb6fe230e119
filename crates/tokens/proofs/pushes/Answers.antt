-- One code n times: after i turns it has been added i times.
-- Assumes nothing.
use Rattle.tokens.proofs.Laws.{added_more, same_added}
use Rattle.tokens.proofs.Blocks.{replicate_more}
use Rattle.tokens.proofs.pushes.Goals as goal

pub loop-preserved : goal.loop-preserved
loop-preserved c = same_added (added_more c.loop.invariant c.push.ensures.added) (replicate_more c.loop.counter c.args.code)
