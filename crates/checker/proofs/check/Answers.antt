-- `checker::check` meets its contract: it is the verdict of `check_looking`.
use Rattle.checker.proofs.check.Goals as goal

pub returns : goal.returns
returns c = record { checked = c.check_looking.ensures.reported.checks }
