-- What the read gives decides.
use Rattle.std.proofs.Common.{ap, ◌∙◌, ◌≡◌, arith}
use Rattle.std.specs.Prelude.{Some}
use Rattle.lines.specs.declared.Source.TheVariants.{Open}
use Rattle.lines.specs.Exchange.{filled, more, unread}
use Rattle.lines.proofs.Input.took.Goals as goal

pub returns-in-None : goal.returns-in-None
returns-in-None c = unread c.in-None.is c.fill.ensures

pub returns-in-Some : goal.returns-in-Some
returns-in-Some c =
    let s = c.args.self.now in
    more c.in-Some.is c.if-n-gt0.true (c.fill-in-Some.ensures ∙ ap (λ k. filled s s.chunk.bytes k Open) c.min.ensures)

pub returns-in-Some-2 : goal.returns-in-Some-2
returns-in-Some-2 c =
    let z : c.in-Some.n ≡ 0 = omega arith in
    rw (c.in-Some.is ∙ ap Some z) c.end.ensures
