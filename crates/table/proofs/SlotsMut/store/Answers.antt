-- `SlotsMut::store` meets its contract: the record is copied into the slot.
-- Assumes nothing.
use Rattle.std.proofs.Common.{◌<◌, arith, length, ap, ap₂}
use Rattle.table.specs.Slots.{slot_count}
use Rattle.table.proofs.Copies.{store_end}
use Rattle.table.proofs.SlotsMut.store.Goals as goal

pub returns-clause-stored : goal.returns-clause-stored
returns-clause-stored c =
    let a = c.args in
    let same = ap₂ slot_count c.view.ensures.width (ap length c.view.ensures.bytes) in
    let there : a.k < slot_count a.self.now.width (length a.self.now.bytes.now) = omega (arith, same, c.count.ensures.slots) in
    store_end a.self.now.width a.self.now.bytes.now a.k a.v.now c.copy_from_slice.new.self there c.told-v c.copy_from_slice.ensures.after
