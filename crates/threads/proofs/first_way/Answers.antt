-- Row 0 from a slot that has nothing, and the pass from there.
use Rattle.std.proofs.Common.{arith, refl, ℕ, ap}
use lib.ListN.{replicate, length-replicate, get_or-replicate}
use mathlib.Core.List.{[]}
use Rattle.threads.specs.declared.Slot.{Slot}
use Rattle.threads.proofs.Reading.{blank_sound}
use Rattle.threads.proofs.Ahead.{whole_way}
use Rattle.threads.proofs.first_way.Goals as goal

abbrev nothing : Slot
nothing = record { places = replicate 16 0; known = 0 }

pub read_row-requires : goal.read_row-requires
read_row-requires c = (
  blank_sound (length-replicate {A = ℕ} 64 0) (length-replicate {A = Slot} 129 nothing),
  refl,
  omega arith,
  omega arith,
  omega arith,
)

pub returns : goal.returns
returns c = record { led = rw c.way_of.ensures (whole_way (ap (λ (s : Slot). s.known) (get_or-replicate {A = Slot} 129 128 nothing (record { places = []; known = 0 }) (omega arith))) c.read_row.ensures c.then_some-first.ensures c.pass-best.ensures) }
