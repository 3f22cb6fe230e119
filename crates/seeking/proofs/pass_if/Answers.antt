-- What is left: what is so of the rest of the line.
use Rattle.std.proofs.lemmas.List.{take_rest}
use Rattle.seeking.proofs.Places.{passed_on}
use Rattle.seeking.proofs.pass_if.Goals as goal

pub returns-in-Some : goal.returns-in-Some
returns-in-Some c = let x = c.in-Some.ensures.lookup in record { passed = rw c.if-is.true (passed_on x.0.0 (rw (x.0.2, take_rest) at c.run_end.ensures)) }
