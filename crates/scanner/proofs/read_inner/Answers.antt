-- By the byte at the place, if there is one.
use Rattle.scanner.proofs.Places.{here_of, seen}
use Rattle.scanner.proofs.Items.{inner_escape, inner_marked, inner_plain}
use Rattle.scanner.proofs.read_inner.Goals as goal

pub returns-then-b-eq92 : goal.returns-then-b-eq92
returns-then-b-eq92 c = inner_escape (rw c.if-b-eq92.true at (here_of c.args.s.now c.args.at c.in_ok-b.b c.in_ok-b.ensures)) c.read_escaped.result c.read_escaped.ensures

pub returns-then-is_marked : goal.returns-then-is_marked
returns-then-is_marked c = inner_marked (here_of c.args.s.now c.args.at c.in_ok-b.b c.in_ok-b.ensures) c.if-b-eq92.false (seen c.is_marked.ensures c.if-is_marked.true)

pub returns : goal.returns
returns c = inner_plain (here_of c.args.s.now c.args.at c.in_ok-b.b c.in_ok-b.ensures) (seen c.is_marked.ensures c.if-is_marked.false)
