-- `escaped` finds an escaped byte, or the fault of its backslash.
-- Assumes nothing.
use mathlib.Core.Path.{sym, ◌∙◌}
use native.Mathlib.Omega.{arith}
use Rattle.reader.specs.Steps.{found_part, found_fault}
use Rattle.reader.proofs.Begins.{fault_escape_last, fault_escape}
use Rattle.reader.proofs.Finds.{escaped_here}
use Rattle.reader.proofs.escaped.Goals as goal
use Rattle.reader.proofs.escaped.Goals.{then-at-s+else-is_special, else-at-s}

pub returns-then-is_special : goal.returns-then-is_special
returns-then-is_special c =
    let q = c.found_leaf.ensures in
    found_part (λ g. rw q.past (escaped_here c.requires.0 c.requires.1 q.code q.size g c.requires.2 (omega arith) (sym c.if-is_special.true ∙ c.is_special.ensures)))

pub returns : goal.returns
returns c =
    rw c.at.ensures.refusal
    (found_fault
    (elim c.if-at-s.branch [
      | then-at-s+else-is_special w ↦ fault_escape c.requires.0 c.requires.1 c.requires.2 (omega arith) (sym w.if-is_special.false ∙ w.is_special.ensures)
      | else-at-s w ↦ fault_escape_last c.requires.0 c.requires.1 c.requires.2 (omega arith)
    ]))
