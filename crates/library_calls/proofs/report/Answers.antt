-- Line after line.
use Rattle.std.proofs.Common.{arith, length}
use Rattle.printing.proofs.Laws.{join}
use Rattle.library_calls.proofs.Sizes.{report_size}
use Rattle.library_calls.proofs.report.Goals as goal

pub returns-then-kept : goal.returns-then-kept
returns-then-kept c =
    let a = c.args in
    let l = c.area_lines.ensures in
    (_, tt, report_size a.table.now a.witness.now l.0 _ (length a.area.now) l.2 (omega arith), join c.bytes.ensures.printed (join c.bytes-2.ensures.printed (join l.3 c.text.ensures.printed)))

pub returns-else-kept : goal.returns-else-kept
returns-else-kept c =
    let a = c.args in
    let l = c.area_lines.ensures in
    (_, tt, report_size a.table.now a.witness.now l.0 _ (length a.area.now) l.2 (omega arith), join c.bytes.ensures.printed (join c.bytes-2.ensures.printed (join l.3 c.text-else-kept.ensures.printed)))
