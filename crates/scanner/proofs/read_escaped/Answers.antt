-- By the byte at the place, if there is one.
use Rattle.scanner.proofs.Places.{here_of, seen}
use Rattle.scanner.proofs.Items.{escaped_marked}
use Rattle.scanner.proofs.read_escaped.Goals as goal

pub returns-then-is_marked : goal.returns-then-is_marked
returns-then-is_marked c = escaped_marked (here_of c.args.s.now c.args.at c.in_ok-b.b c.in_ok-b.ensures) (seen c.is_marked.ensures c.if-is_marked.true)
