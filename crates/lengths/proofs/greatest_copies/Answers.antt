-- `greatest_copies`: no copy takes nothing, and any copy of a part without a limit has none.
-- Assumes nothing.
use Rattle.std.proofs.Common.{sym, ap, ◌∙◌}
use Rattle.lengths.specs.Lengths.{limit}
use Rattle.lengths.specs.Code.{cap_longest}
use Rattle.lengths.proofs.Capped.{copies_limit}
use Rattle.lengths.proofs.greatest_copies.Goals as goal

pub returns : goal.returns
returns c = rw c.in_ok-a.was (ap limit c.product.ensures ∙ ap cap_longest (sym (copies_limit _ _)))
