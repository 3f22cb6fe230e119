-- At a newline, and at the end of the file.
use Rattle.std.specs.Prelude.{◌==◌}
use Rattle.std.specs.List.{position}
use Rattle.std.proofs.lemmas.List.{take_rest}
use Rattle.std.proofs.Common.{sym, ap, ◌∙◌, arith}
use Rattle.jobs.proofs.Lines.{plain_to, plain_all, line_newline, line_last}
use Rattle.jobs.proofs.line_end.Goals as goal

pub returns-in-Some : goal.returns-in-Some
returns-in-Some c =
    let a = c.args in
    let (p, h, e) = plain_to a.file.now a.start c.in-Some.n (omega arith) (ap (position (λ b. b == 10)) (sym (take_rest a.file.now a.start)) ∙ sym c.newline.ensures ∙ c.in-Some.is) in
    (p.order, p.inside, line_newline p h e)

pub returns-in-None : goal.returns-in-None
returns-in-None c =
    let a = c.args in
    let p = plain_all a.file.now a.start (omega arith) (ap (position (λ b. b == 10)) (sym (take_rest a.file.now a.start)) ∙ sym c.newline.ensures ∙ c.in-None.is) in
    (p.order, p.inside, line_last p c.requires (omega arith))
