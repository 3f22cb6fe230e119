-- The slot is stamped, and put in its place.
use Rattle.std.proofs.Common.{arith}
use Rattle.threads.proofs.Slots.{stamped_moved}
use Rattle.threads.proofs.move_slot.Goals as goal

pub returns : goal.returns
returns c = stamped_moved c.args.slots.now (omega arith) c.mark.ensures
