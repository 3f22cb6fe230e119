-- The end of an optional copy, by what the repeat prefers.
-- Assumes nothing.
use Rattle.tokens.proofs.Laws.{added_more}
use Rattle.tokens.proofs.shut.Goals as goal
use Rattle.tokens.proofs.shut.Goals.{then-not-lazy, else-not-lazy}

pub returns : goal.returns
returns c =
    elim c.if-not-lazy.branch [
      | then-not-lazy w ↦ record { added = rw w.if-not-lazy.true (added_more w.push.ensures.added (rw w.a-is at c.push-2.ensures.added)) }
      | else-not-lazy w ↦ record { added = rw w.if-not-lazy.false (rw w.a-is at c.push-2.ensures.added) }
    ]
