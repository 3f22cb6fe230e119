-- A witness has its spans.
use Rattle.answers.proofs.Cutting.{witness_cut}
use Rattle.answers.proofs.explained.Goals as goal

pub returns-in-Unlike : goal.returns-in-Unlike
returns-in-Unlike c = rw (c.in-Ok.is, c.in-Unlike.is) (λ t u s t' s' k. let l = c.cut_witness.ensures in (l.0, witness_cut k l.1, l.2, l.3))
