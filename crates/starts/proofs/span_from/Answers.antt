-- What is left: a match begins at the place.
-- Assumes nothing.
use Rattle.starts.proofs.Whole.{searched_here}
use Rattle.starts.proofs.span_from.Goals as goal

pub returns-in-Some : goal.returns-in-Some
returns-in-Some c = searched_here (rw c.ending.ensures.ending at c.last_end.ensures.last) c.in-Some.is
