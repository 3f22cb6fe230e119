-- `yindorka::yindorka_cut_fields` meets its contract: there is a span, or there is none.
-- Assumes nothing.
use Rattle.yindorka.proofs.Answers.{fields_none, fields_some}
use Rattle.yindorka.proofs.yindorka_cut_fields.Goals as goal

pub returns-in_default : goal.returns-in_default
returns-in_default c = record { cuts = fields_none c.view_of-view.ensures c.in_default.ensures.cuts }

pub returns : goal.returns
returns c = record { cuts = fields_some c.view_of-view.ensures c.in-Some.ensures.cuts c.wide.ensures.same.0 }
