-- What is left: what is so of the rest of the line.
use Rattle.std.proofs.lemmas.List.{take_rest}
use Rattle.seeking.proofs.Places.{sought_on}
use Rattle.seeking.proofs.seek.Goals as goal

pub returns-in-Some : goal.returns-in-Some
returns-in-Some c = let x = c.in-Some.ensures.lookup in record { sought = sought_on x.0.0 (rw (x.0.2, take_rest) at c.first.ensures) }
