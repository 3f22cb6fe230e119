-- `Queue::carry` meets its contract: at each `return` the tests that led there say which case of a turn it is.
use mathlib.Core.Path.{sym, ap, ◌∙◌}
use native.Mathlib.Omega.{arith}
use lib.ListN.{length}
use Rattle.table.proofs.Laws.{put_length}
use Rattle.search.proofs.Carries.{seen, carry_known, carry_full, carry_new, carry_witness}
use Rattle.search.proofs.Queue.carry.Goals as goal

pub returns-then-is_ok-clause-turned : goal.returns-then-is_ok-clause-turned
returns-then-is_ok-clause-turned c =
    let view = c.view-records.ensures in
    carry_known _ c.next-after.ensures.next c.pack-v.ensures.packed (seen _ _ view.width view.bytes c.find-look.ensures.looked) c.with_look-self.ensures (cc)

pub returns-then-self-n-clause-turned : goal.returns-then-self-n-clause-turned
returns-then-self-n-clause-turned c =
    let view = c.view-records.ensures in
    carry_full _ c.next-after.ensures.next c.pack-v.ensures.packed (seen _ _ view.width view.bytes c.find-look.ensures.looked) c.with_look-self.ensures (cc) (omega arith)

pub returns-then-is_witness-clause-same_size : goal.returns-then-is_witness-clause-same_size
returns-then-is_witness-clause-same_size c = let t = c.args.table.now in ap length c.store.ensures.stored ∙ put_length t.width t.bytes.now c.args.self.now.count c.pack-v.result

pub returns-then-is_witness-clause-turned : goal.returns-then-is_witness-clause-turned
returns-then-is_witness-clause-turned c =
    let view = c.view-records.ensures in
    carry_witness _ c.next-after.ensures.next c.pack-v.ensures.packed (seen _ _ view.width view.bytes c.find-look.ensures.looked) c.with_look-self.ensures (cc) (omega arith) c.store.ensures.stored
    (sym c.is_witness.ensures ∙ c.if-is_witness.true)

pub returns-clause-same_size : goal.returns-clause-same_size
returns-clause-same_size c = let t = c.args.table.now in ap length c.store.ensures.stored ∙ put_length t.width t.bytes.now c.args.self.now.count c.pack-v.result

pub returns-clause-turned : goal.returns-clause-turned
returns-clause-turned c =
    let view = c.view-records.ensures in
    carry_new _ c.next-after.ensures.next c.pack-v.ensures.packed (seen _ _ view.width view.bytes c.find-look.ensures.looked) c.with_look-self.ensures (cc) (omega arith) c.store.ensures.stored
    (sym c.is_witness.ensures ∙ c.if-is_witness.false)
