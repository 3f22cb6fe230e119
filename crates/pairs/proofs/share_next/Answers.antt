-- `pairs::share_next` meets its contract: the last mask's leaves share already.
-- Assumes nothing.
use mathlib.Core.Path.{◌≡◌}
use native.Mathlib.Omega.{arith}
use Rattle.pairs.proofs.share_next.Goals as goal

pub returns-else-mask-last : goal.returns-else-mask-last
returns-else-mask-last c =
    let a = c.args in
    let same : a.last ≡ a.mask = omega arith in
    rw same at c.requires.1
