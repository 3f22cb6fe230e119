-- `records::put_four` meets its contract: three stores.
-- Assumes nothing.
use native.Mathlib.Numerals.{add-one, add-two}
use Rattle.records.specs.Bytes.{three}
use Rattle.records.proofs.put_four.Goals as goal

pub returns : goal.returns
unfolding three
returns c = simp (add-one, add-two)
