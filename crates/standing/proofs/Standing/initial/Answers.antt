-- `standing::Standing::initial` meets its contract.
-- Assumes nothing.
use Prim.Native.Nat.{◌<◌}
use lib.ListN.{get_or}
use native.Mathlib.Omega.{arith}
use Rattle.standing.proofs.Fronts.{fronts_read}
use Rattle.standing.proofs.Right.{first_right}
use Rattle.standing.proofs.Standing.initial.Goals as goal

pub returns : goal.returns
returns c =
    let few : get_or c.args.tables.sets.now 0 0 < 18446744073709551616 = omega arith in
    record { first = record { stands = λ d. first_right d _ (fronts_read _ _ _ c.empty-front.ensures (rw c.row.ensures.row at c.read_row.ensures)) few } }
