-- A leaf that is there changes nothing, and any other has room.
use Rattle.std.proofs.Common.{sym, ap, ◌∙◌}
use Rattle.words.specs.Sets.{has_bit}
use Rattle.words.proofs.Bits.{with_bit}
use Rattle.threads.proofs.Reading.{reads_again, enter_room, enter_new}
use Rattle.threads.proofs.State.enter.Goals as goal

pub bounds-self-self : goal.bounds-self-self
bounds-self-self c = let h = c.requires in enter_room c.args.self.now c.args.p h.0 h.1 h.2 (sym c.has.ensures.member ∙ c.if-not-has.true)

pub returns-then-not-has : goal.returns-then-not-has
returns-then-not-has c =
    let a = c.args in
    let h = c.requires in
    enter_new a.self.now a.p h.0 h.1 h.2 (sym c.has.ensures.member ∙ c.if-not-has.true) _ c.with-self.result c.move_slot.ensures
    (λ q. ap (λ y. has_bit y q) c.with-self.ensures.with ∙ with_bit a.self.now.seen a.p q h.2)

pub returns-else-not-has : goal.returns-else-not-has
returns-else-not-has c =
    let h = c.requires in
    record { sound = h.0; ended = h.1; reads = λ {v} {u} x k. reads_again c.args.p u h.0 h.1 (sym c.has.ensures.member ∙ c.if-not-has.false) }
