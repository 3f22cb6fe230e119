-- By the digits at the place, and what follows them.
use borrow.Author.Tests.{le-leb}
use Rattle.scanner.proofs.Places.{first_here, seen}
use Rattle.scanner.proofs.Counts.{second_found}
use Rattle.scanner.proofs.second.Goals as goal

pub returns : goal.returns
returns c =
    λ d from v f q.
    second_found c.in-Some.ensures d v from f (first_here c.args.s.now c.in-Some.last.next 125 (seen c.has_byte.ensures.here c.if-not-has_byte.false)) (le-leb _ _ c.if-most-m.false) (le-leb _ _ c.if-most-gt-MOST_TIMES.false) q
