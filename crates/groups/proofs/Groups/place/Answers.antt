-- `Groups::place` meets its contract: the byte joins the group of a lower one, or begins a group.
use Rattle.std.proofs.Common.{sym, ◌∙◌, ◌-◌, arith, rules}
use Rattle.groups.proofs.Turns.{lower_found, lower_none, turn_old, turn_new}
use Rattle.groups.proofs.Groups.place.Goals as goal

pub returns-then-masks-b : goal.returns-then-masks-b
returns-then-masks-b c =
    let a = c.args in
    turn_old a.masks.now a.self.now a.b c.requires.0 c.requires.1 (a.b - 1) (omega arith) c.if-masks-b.true

pub returns-in-Some : goal.returns-in-Some
returns-in-Some c =
    let a = c.args in
    let (l, e) = lower_found a.masks.now a.b c.in-Some.first (sym c.first_with.ensures ∙ c.in-Some.is) in
    turn_old a.masks.now a.self.now a.b c.requires.0 c.requires.1 c.in-Some.first l e

pub returns-in-None : goal.returns-in-None
returns-in-None c =
    let a = c.args in
    turn_new a.masks.now a.self.now a.b c.requires.0 c.requires.1 (lower_none a.masks.now a.b (search rules) (sym c.first_with.ensures ∙ c.in-None.is))
