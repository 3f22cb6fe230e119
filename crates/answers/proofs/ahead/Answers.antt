-- The lengths are the reader's.
use Rattle.std.proofs.Common.{refl}
use Rattle.answers.proofs.Listing.{begun_long, begun_unread}
use Rattle.answers.proofs.ahead.Goals as goal

pub returns-in-Ok : goal.returns-in-Ok
returns-in-Ok c = begun_long c.in-Ok.ensures.right c.lengths.ensures.printed

pub returns-in_default : goal.returns-in_default
returns-in_default c = begun_unread c.in_default.ensures.right refl
