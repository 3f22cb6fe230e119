-- Both spans are there, or neither.
use Rattle.std.proofs.Common.{◌≡◌, ap, ◌∙◌, take, length-take, arith}
use Rattle.lines.proofs.Laws.{take_least}
use Rattle.screen.proofs.Laws.{rewrites_length}
use Rattle.answers.specs.Cutting.{cut, uncut}
use Rattle.answers.proofs.Cutting.{refused_spans, no_spans, both_spans}
use Rattle.answers.proofs.cut_witness.Goals as goal

pub returns-in_default : goal.returns-in_default
returns-in_default c =
    let u = c.unlike.ensures.printed in
    let r = rw c.first_of.ensures.part at c.in_default.ensures.replied in
    (u.0, uncut (refused_spans r) u.1, omega (arith, u.2, length-take c.args.length c.args.witness.now), u.3)

pub returns-in_default-spans : goal.returns-in_default-spans
returns-in_default-spans c =
    let u = c.unlike-in_default-spans.ensures.printed in
    let r = rw (c.first_of.ensures.part, c.in_default-spans.is) at c.in-Ok.ensures.replied in
    (u.0, uncut (no_spans r) u.1, omega (arith, u.2, length-take c.args.length c.args.witness.now), u.3)

pub returns : goal.returns
returns c =
    let a = c.args in
    let u = c.explained.ensures.printed in
    let all : take c.min-end.result a.witness.now ≡ take a.length a.witness.now =
    ap (λ k. take k a.witness.now) c.min-end.ensures ∙ take_least a.length a.witness.now 5041 (omega arith) in
    let r = rw (c.first_of.ensures.part, c.in-Some.is) at c.in-Ok.ensures.replied in
    (u.0, cut (both_spans r (rw all at c.make_readable.ensures) (rw all at u.1)), omega (arith, u.2, rewrites_length c.make_readable.ensures.1, length-take c.min-end.result a.witness.now), u.3)
