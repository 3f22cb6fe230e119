-- By the digits at the place, and what follows them.
use Rattle.std.proofs.Common.{arith}
use borrow.Author.Tests.{le-leb}
use Rattle.scanner.proofs.Places.{first_here, seen}
use Rattle.scanner.proofs.Counts.{count_comma, count_exactly}
use Rattle.scanner.proofs.read_count.Goals as goal

pub returns-then-has_byte : goal.returns-then-has_byte
returns-then-has_byte c =
    record {
      found =
          let n = c.in_ok-first.ensures in
          c.second.ensures n.0 c.args.at n.2 (omega (arith, n.3.forward)) (count_comma n (first_here c.args.s.now c.in_ok-first.first.next 44 (seen c.has_byte.ensures.here c.if-has_byte.true)));
    }

pub returns : goal.returns
returns c = record { found = count_exactly c.in_ok-first.ensures (first_here c.args.s.now c.in_ok-first.first.next 125 (seen c.has_byte-2.ensures.here c.if-not-has_byte.false)) (le-leb _ _ c.if-times-gt-MOST_TIMES.false) }
