-- `yindorka::yindorka_cut` meets its contract: both spans are there, or neither.
-- Assumes nothing.
use Rattle.yindorka.proofs.Answers.{cuts_none, cuts_both}
use Rattle.yindorka.proofs.yindorka_cut.Goals as goal

pub returns-in_default : goal.returns-in_default
returns-in_default c = record { cuts = cuts_none c.view_of-view.ensures c.in_default.ensures.cuts }

pub returns : goal.returns
returns c = record { cuts = cuts_both c.view_of-view.ensures c.in-Some.ensures.cuts }
