-- `records::take_four` meets its contract: four stores.
-- Assumes nothing.
use native.Mathlib.Numerals.{add-one, add-two, add-three}
use Rattle.records.specs.Bytes.{four}
use Rattle.records.proofs.take_four.Goals as goal

pub returns : goal.returns
unfolding four
returns c = simp (add-one, add-two, add-three)
