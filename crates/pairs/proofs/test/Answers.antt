-- `pairs::test` meets its contract: what the pairs say is what the matched strings say, and the area is cleared.
-- Assumes nothing.
use borrow.Author.Rules.{rules}
use Rattle.pairs.proofs.Deciding.{tested_fails, tested_passes}
use Rattle.pairs.proofs.test.Goals as goal

pub returns-then-some : goal.returns-then-some
returns-then-some c = record { tested = tested_fails (search rules) c.clear.ensures (rw c.if-some.true at c.extends-some.ensures) }

pub returns : goal.returns
returns c = record { tested = tested_passes (search rules) c.clear.ensures (rw c.if-some.false at c.extends-some.ensures) }
