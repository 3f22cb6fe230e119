-- `follow::outcomes::Outcomes::none` meets its contract.
-- Assumes nothing.
use mathlib.Core.Path.{refl}
use Rattle.follow.proofs.Lists.{none_good, none_lists}
use Rattle.follow.proofs.outcomes.Outcomes.none.Goals as goal

pub invariant_of-result : goal.invariant_of-result
invariant_of-result c = record { good = none_good }

pub returns : goal.returns
returns c = none_lists _ refl
