-- What stands before the report is the pattern's.
use Rattle.answers.proofs.Listing.{detailed}
use Rattle.answers.proofs.DetailsQuestion.answer.Goals as goal

pub returns : goal.returns
returns c = detailed c.ahead.ensures c.report.ensures
