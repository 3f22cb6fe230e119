-- The copies of `{m,n}`, by what the repeat prefers.
-- Assumes nothing.
use Rattle.tokens.proofs.Laws.{same_codes}
use Rattle.tokens.proofs.Blocks.{eager_copies}
use Rattle.tokens.proofs.all_copies.Goals as goal

pub returns-then-lazy : goal.returns-then-lazy
returns-then-lazy c = record { written = rw c.if-lazy.true c.led_copies.ensures.written }

pub returns : goal.returns
returns c = record { written = rw c.if-lazy.false (same_codes c.copies.ensures.written.1 (eager_copies c.args.least c.args.most c.requires)) }
