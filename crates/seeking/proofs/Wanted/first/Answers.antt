-- What is left: the bytes after the chunks, of which the set takes nothing.
use Rattle.std.proofs.Common.{arith}
use Rattle.std.proofs.lemmas.Grind.{common_steps}
use Rattle.seeking.proofs.Places.{sought_more}
use Rattle.seeking.proofs.Wanted.first.Goals as goal

pub returns : goal.returns
returns c = sought_more c.skipped-far.ensures.within c.skipped-far.ensures.none (grind (arith, common_steps))
