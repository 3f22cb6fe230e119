-- `Slots::load` meets its contract: after the slot's bytes come the zeros that were there.
-- Assumes nothing.
use Rattle.std.proofs.Common.{◌≡◌, ◌++◌, ◌∙◌, ap, length, drop, replicate}
use Rattle.table.specs.Slots.{loaded}
use Rattle.table.proofs.Copies.{load_end}
use Rattle.table.proofs.Slots.load.Goals as goal

pub returns : goal.returns
returns c =
    let a = c.args.self in
    let n = length c.in-Some.record.now in
    let e : c.copy_from_slice.new.self ++ drop n (replicate 64 0) ≡ loaded a.width a.bytes.now c.args.k =
    ap (λ u. u ++ drop n (replicate 64 0)) c.copy_from_slice.ensures.after ∙ load_end a.width a.bytes.now c.args.k c.in-Some.record.now c.in-Some.ensures.0 c.in-Some.ensures.3 in
    record { loaded = e }
