-- `standing::Front::add` meets its contract: a leaf that is there changes nothing, and any other has room.
-- Assumes nothing.
use mathlib.Core.Path.{sym, ◌∙◌, ap}
use Rattle.words.specs.Sets.{has_bit}
use Rattle.words.proofs.Bits.{with_bit}
use Rattle.standing.proofs.Fronts.{read_room, read_new}
use Rattle.standing.proofs.Front.add.Goals as goal

pub bounds-self-self : goal.bounds-self-self
bounds-self-self c =
    let a = c.args in
    let h = c.requires in
    read_room a.self.now a.p h.0 h.1 h.2 (sym c.has.ensures.member ∙ c.if-not-has.true)

pub returns-then-not-has : goal.returns-then-not-has
returns-then-not-has c =
    let a = c.args in
    let h = c.requires in
    read_new a.self.now a.p h.0 h.1 h.2 (sym c.has.ensures.member ∙ c.if-not-has.true) c.with-self.result
    (λ q. ap (λ y. has_bit y q) c.with-self.ensures.with ∙ with_bit a.self.now.seen a.p q h.1)
