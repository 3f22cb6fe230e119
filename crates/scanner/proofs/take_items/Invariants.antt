-- Whatever is found from the place reached on, with what the items up to it hold, is found from `at` on. The measure is the bytes left.
use Rattle.std.proofs.Common.{◌-◌, Bool, length}
use Rattle.std.specs.Prelude.{Option}
use Rattle.scanner.specs.Parts.{ItemsTaken}
use Rattle.scanner.specs.declared.Read.{Read}
use Rattle.scanner.proofs.take_items.Given as goal

abbrev pub invariant-loop-i : goal.invariant-loop-i
invariant-loop-i l = (r : Option (Read Bool)) → ItemsTaken l.loaded l.s l.i l.b l.holds r → ItemsTaken l.loaded l.s l.at l.b l.held r

abbrev pub decreases-loop-i : goal.decreases-loop-i
decreases-loop-i l = length l.s - l.i
