-- What is left: the runs, and the bytes of the kind after them.
use Rattle.std.proofs.Common.{rules, arith}
use Rattle.std.proofs.lemmas.Grind.{common_steps}
use borrow.Author.Tests.{tests}
use Rattle.seeking.proofs.Places.{kind_more}
use Rattle.seeking.proofs.Alike.run_end.Goals as goal

pub returns : goal.returns
returns c = kind_more c.skip-far.ensures.within (λ k h. (let t = c.skip-far.ensures.none k h in search (rules, tests))) (grind (arith, common_steps))
