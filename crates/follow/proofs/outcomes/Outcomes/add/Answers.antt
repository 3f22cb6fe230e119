-- `follow::outcomes::Outcomes::add` meets its contract.
-- Assumes nothing.
use mathlib.Core.Path.{sym, ◌∙◌}
use Rattle.follow.proofs.Lists.{add_held}
use Rattle.follow.proofs.outcomes.Outcomes.add.Goals as goal

pub returns-else-not-holds : goal.returns-else-not-holds
returns-else-not-holds c = add_held c.args.self.now c.args.p c.requires (sym c.holds.ensures ∙ c.if-not-holds.false)
