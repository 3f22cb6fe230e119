-- The verdict and what was lent.
use Rattle.std.proofs.Common.{rules}
use Rattle.printing.proofs.Laws.{join}
use Rattle.library_calls.proofs.Sizes.{answer_size}
use Rattle.library_calls.proofs.call.Goals as goal

pub returns : goal.returns
returns c =
    let v = c.verdict.ensures.printed in
    let r = c.report.ensures in
    (_, tt, answer_size v.0 r.0 _ v.2 (search rules) r.2 c.part.ensures.most c.part-2.ensures.most c.part-3.ensures.most, join v.3 r.3)
