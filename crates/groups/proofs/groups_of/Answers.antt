-- No byte is grouped, one more is, and all are.
use Rattle.std.proofs.Common.{◌≡◌, arith}
use Rattle.groups.proofs.Turns.{turn_begin, turn_end}
use Rattle.groups.proofs.groups_of.Goals as goal

pub loop-b-init : goal.loop-b-init
loop-b-init c = turn_begin c.args.masks.now

pub place-requires : goal.place-requires
place-requires c = (omega arith, c.loop-b.invariant)

pub returns : goal.returns
returns c =
    let e : c.loop-b.b ≡ 256 = omega arith in
    record { grouped = turn_end c.args.masks.now c.loop-b.groups (rw e at c.loop-b.invariant) }
