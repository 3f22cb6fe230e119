-- What is left: one entry more.
-- Assumes nothing.
use mathlib.Core.Path.{◌∙◌}
use native.Mathlib.Omega.{arith}
use lib.ListN.{length-set}
use lib.Seq.{get_or-set_same, get_or-set_other}
use borrow.Author.Count.{below_more}
use Rattle.facts.proofs.next_sets.Goals as goal

pub loop-b-preserved : goal.loop-b-preserved
loop-b-preserved c =
    let l = c.loop-b in
    let x = c.carried.result in (
      length-set l.next l.b x ∙ l.invariant.0,
      below_more _ l.b (λ k h. rw (get_or-set_other l.next l.b k x 0 (λ e. omega arith)) (l.invariant.1 k h))
          (rw (get_or-set_same l.next l.b x 0 (omega (arith, l.invariant.0))) c.carried.ensures.wants),
    )
