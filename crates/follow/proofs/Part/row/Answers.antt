-- `follow::Part::row` meets its contract.
-- Assumes nothing.
use mathlib.Core.Path.{refl}
use mathlib.Core.List.{[]}
use native.Mathlib.Omega.{arith}
use Prim.Native.Nat.{◌-◌}
use Rattle.traces.specs.Traces.{ends_at}
use Rattle.traces.specs.Code.Pass.{neither}
use Rattle.follow.proofs.Masks.{shows_neither}
use Rattle.follow.proofs.Rows.{row_start, row_after}
use Rattle.follow.proofs.Part.row.Goals as goal

pub returns-then-k-eq0 : goal.returns-then-k-eq0
returns-then-k-eq0 c =
    let ending = c.add.ensures.lists [] (ends_at 0 neither) c.none-end.ensures refl shows_neither in
    row_start c.requires.2 ending c.requires.3 c.args.k c.if-k-eq0.true c.closure.ensures

pub returns-else-k-eq0 : goal.returns-else-k-eq0
returns-else-k-eq0 c =
    let ending = c.add.ensures.lists [] (ends_at 0 neither) c.none-end.ensures refl shows_neither in
    let k = c.args.k in
    row_after c.requires.2 ending c.requires.3 k (k - 1) (omega (arith, c.if-k-eq0.false)) c.after.ensures
