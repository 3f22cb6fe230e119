-- Whatever is found from the place reached on, with what the items up to it hold, is found from `at` on.
use Rattle.std.proofs.Common.{◌+◌}
use Rattle.std.specs.Prelude.{Some, None}
use Rattle.scanner.proofs.Places.{stands}
use Rattle.scanner.proofs.Classes.{items_over, items_closed, items_fault, items_turn}
use Rattle.scanner.proofs.take_items.Goals as goal

pub returns-then-s-i-eq93 : goal.returns-then-s-i-eq93
returns-then-s-i-eq93 c =
    let l = c.loop-i in
    l.invariant (Some (record { value = l.holds; next = l.i + 1 })) (items_closed c.args.loaded.now c.args.b l.holds (rw c.if-s-i-eq93.true at (stands c.args.s.now c.loop-i.i c.loop-i-test.true)))

pub returns-in_err-item : goal.returns-in_err-item
returns-in_err-item c =
    let l = c.loop-i in
    rw c.from_residual.ensures (l.invariant None (items_fault c.args.loaded.now c.args.b l.holds (stands c.args.s.now c.loop-i.i c.loop-i-test.true) c.if-s-i-eq93.false c.in_err-item.ensures))

pub loop-i-preserved : goal.loop-i-preserved
loop-i-preserved c =
    let l = c.loop-i in
    λ r t. l.invariant r
    (items_turn c.args.loaded.now c.args.b l.holds (stands c.args.s.now c.loop-i.i c.loop-i-test.true) c.if-s-i-eq93.false c.in_ok-item.ensures r t)

pub returns : goal.returns
returns c =
    let a = c.args in let l = c.loop-i in
    l.invariant None (items_over a.loaded.now a.s.now l.i a.b l.holds c.loop-i-test.false)
