-- The looking is the check's, and the line that of its verdict.
use Rattle.std.proofs.Common.{refl, length-append, arith, rules}
use Rattle.verdict.proofs.Demand.{lengths_kept}
use Rattle.printing.proofs.Laws.{join}
use Rattle.answers.proofs.Buffers.report.Goals as goal

pub returns : goal.returns
returns c =
    let x = c.check_looking-x in
    let l = c.looking.ensures.printed in
    let p = c.explained.ensures _ _ _ _ _ x.ensures.reported.checks in (
      _,
      record { lent = (search rules, search rules, search rules); report = x.result; reports = x.ensures.reported; head = l.0; looking = l.1; rest = p.0; line = p.1; text = refl },
      omega (arith, l.2, p.2, (lengths_kept x.ensures.reported.checks).1, length-append l.0 p.0),
      join l.3 p.3,
    )
