-- By the byte at the place, and the number.
use borrow.Author.Tests.{le-leb}
use Rattle.scanner.proofs.Places.{first_here, seen}
use Rattle.scanner.proofs.Counts.{least_found}
use Rattle.scanner.proofs.at_least.Goals as goal

pub returns : goal.returns
returns c = λ d from v f q. least_found d v (first_here c.args.s.now c.args.at 125 (seen c.has_byte.ensures.here c.if-not-has_byte.false)) from (le-leb _ _ c.if-m-gt-MOST_TIMES.false) f q
