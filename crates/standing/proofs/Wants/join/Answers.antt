-- `standing::Wants::join` meets its contract.
-- Assumes nothing.
use Prim.Native.Nat.{◌<◌, ◌+◌}
use mathlib.Core.Path.{refl}
use lib.ListN.{get_or}
use native.Mathlib.Omega.{arith}
use Rattle.std.proofs.lemmas.Nat.{or_lt}
use Rattle.standing.proofs.Sets.{joined_row}
use Rattle.standing.proofs.Wants.join.Goals as goal

pub returns : goal.returns
returns c =
    let a = c.args in
    let u : a.self.now.all < 18446744073709551616 = omega arith in
    let v : get_or a.tables.sets.now (a.p + 1) 0 < 18446744073709551616 = omega arith in
    joined_row _ _ a.self.now a.p _ _ refl (or_lt 64 _ _ u v) refl
