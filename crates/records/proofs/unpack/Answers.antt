-- `records::unpack` meets its contract: the fields of a record are those of its standing.
-- Assumes nothing.
use Rattle.records.proofs.Right.{unpack_right}
use Rattle.records.proofs.unpack.Goals as goal

pub returns : goal.returns
returns c = record { unpacked = rw (c.order_of-list.ensures, c.set_of-all.ensures, c.from.ensures) (unpack_right c.args.v) }
