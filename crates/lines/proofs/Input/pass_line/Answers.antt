-- The line stands in the chunk, or it is kept.
use Rattle.std.proofs.Common.{sym, ◌∙◌}
use Rattle.lines.proofs.Reading.{passed_here, passed_kept, passed_part}
use Rattle.lines.proofs.Input.pass_line.Goals as goal

pub returns-in-Some : goal.returns-in-Some
returns-in-Some c = passed_here c.args.self.now (sym c.end_here.ensures ∙ c.in-Some.is)

pub returns-then-self : goal.returns-then-self
returns-then-self c = passed_kept c.next_line.ensures.next c.if-self.true

pub returns : goal.returns
returns c = passed_part c.next_line.ensures.next c.if-self.false
