-- `records::turned` meets its contract: eight bits, each at its place.
-- Assumes nothing.
use Rattle.records.proofs.Sets.{turn_eight, turn_less}
use Rattle.records.proofs.turned.Goals as goal

pub returns : goal.returns
returns c = let e = turn_eight c.args.y in (e, rw e (turn_less 8 c.args.y))
