-- `facts::facts_of` meets its contract: the last place of `next` is written after the others, and each function called gives its part.
-- Assumes nothing.
use mathlib.Core.Path.{◌∙◌}
use native.Mathlib.Omega.{arith}
use lib.ListN.{length-set}
use lib.Seq.{get_or-set_same, get_or-set_other}
use Rattle.facts.proofs.facts_of.Goals as goal

pub returns : goal.returns
returns c =
    record {
      known =
          let n = c.next_sets-next in
          let e = c.ending_leaves-ending in
          let x = e.result in
          let last = get_or-set_same n.result 256 x 0 (omega (arith, n.ensures.size)) in
          record {
            nexts = record {
              size = length-set n.result 256 x ∙ n.ensures.size;
              wants = λ b h. rw (get_or-set_other n.result 256 b x 0 (λ i. omega arith)) (n.ensures.wants b h);
            };
            endings = rw last e.ensures.endings;
            begins = c.best_for-b.ensures;
            closes = rw last c.best_for-e.ensures;
          };
    }
