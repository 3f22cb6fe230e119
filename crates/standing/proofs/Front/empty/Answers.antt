-- `standing::Front::empty` meets its contract.
-- Assumes nothing.
use Prim.Native.Nat.{ℕ}
use lib.ListN.{length-replicate}
use Rattle.standing.proofs.Fronts.{blank_fronts}
use Rattle.standing.proofs.Front.empty.Goals as goal

pub returns : goal.returns
returns c = blank_fronts _ (length-replicate {A = ℕ} 64 0)
