-- `follow::marks_of` meets its contract. The invariant: the masks of the rows below k are there.
-- Assumes nothing.
use native.Mathlib.Omega.{arith}
use Prim.Native.Nat.{◌+◌, ◌*◌, ◌-◌}
use mathlib.Core.Path.{◌≡◌}
use Rattle.std.proofs.lemmas.Slice.{put_mid-paste}
use Rattle.follow.proofs.Rows.{marks_more, filled_marked}
use Rattle.follow.proofs.marks_of.Goals as goal

pub loop-k-preserved : goal.loop-k-preserved
loop-k-preserved c =
    let l = c.loop-k in
    let more = marks_more c.of-whole.result l.k c.row.new.out l.marks c.loop-k-test.true l.invariant c.row.ensures in
    rw (c.from-at.ensures, put_mid-paste (65 * l.k) (65 * l.k + 65 - 65 * l.k) l.marks c.copy_from_slice.new.self c.row.new.out.fields 65 c.copy_from_slice.ensures.after (omega arith) (omega (arith, c.row.new.out.good.wide))) more

pub returns : goal.returns
returns c =
    let e : c.loop-k.k ≡ 65 = omega arith in
    record { marked = filled_marked c.args.x.now c.of-whole.result c.of-whole.ensures (rw e at c.loop-k.invariant) }
