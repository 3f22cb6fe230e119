-- With a `^`, what the items do not hold.
use Rattle.scanner.proofs.Places.{first_here, seen}
use Rattle.scanner.proofs.Classes.{class_bare, class_negated, class_fault}
use Rattle.scanner.proofs.class_at.Goals as goal

pub returns-then-not-has_byte : goal.returns-then-not-has_byte
returns-then-not-has_byte c =
    let a = c.args in
    class_bare a.loaded.now a.s.now a.at a.b (seen c.has_byte.ensures.here c.if-not-has_byte.true) c.take_all.result c.take_all.ensures

pub returns-in_err-items : goal.returns-in_err-items
returns-in_err-items c = rw c.from_residual.ensures (class_fault c.args.loaded.now c.args.b (first_here c.args.s.now c.args.at 94 (seen c.has_byte.ensures.here c.if-not-has_byte.false)) c.in_err-items.ensures)

pub returns : goal.returns
returns c = class_negated c.args.loaded.now c.args.b (first_here c.args.s.now c.args.at 94 (seen c.has_byte.ensures.here c.if-not-has_byte.false)) c.in_ok-items.ensures
