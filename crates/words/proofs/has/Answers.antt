-- From 64 on a number of 64 bits has no others.
use Rattle.std.proofs.Common.{arith}
use Rattle.std.proofs.lemmas.Bool.Decides.{nat_tests}
use Rattle.words.proofs.Bits.{no_more}
use Rattle.words.proofs.has.Goals as goal

pub returns-else-p-lt-LEAVES : goal.returns-else-p-lt-LEAVES
returns-else-p-lt-LEAVES c = record { member = rw (no_more c.args.x c.args.p (omega arith) (omega arith)) (grind (arith, nat_tests)) }
