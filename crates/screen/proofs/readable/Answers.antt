-- A line is made readable by the numbers of the pattern's groups.
use Rattle.std.proofs.Common.{rules}
use Rattle.screen.proofs.Showing.{rewritten}
use Rattle.screen.proofs.readable.Goals as goal

pub returns : goal.returns
returns c = record { replaced = rewritten c.in_ok-own.ensures.shown (λ k. search rules) c.readable.ensures.replaced }
