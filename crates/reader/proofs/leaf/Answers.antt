-- `leaf` finds an atom that is no group, or its fault.
-- Assumes nothing.
use mathlib.Core.Path.{sym, ◌∙◌}
use Rattle.reader.specs.Steps.{found_part, found_fault}
use Rattle.reader.proofs.Begins.{fault_stray}
use Rattle.reader.proofs.Finds.{dot_here, plain_here}
use Rattle.reader.proofs.leaf.Goals as goal

pub returns-then-b-eq46 : goal.returns-then-b-eq46
returns-then-b-eq46 c =
    let q = c.found_leaf.ensures in
    found_part (λ g. rw q.past (dot_here c.requires.0 c.requires.1.before q.code q.size g c.if-b-eq46.true))

pub returns-then-is_special : goal.returns-then-is_special
returns-then-is_special c = rw c.at.ensures.refusal (found_fault (fault_stray c.requires.0 c.requires.1.before (sym c.if-is_special.true ∙ c.is_special.ensures) c.if-b-eq92.false c.requires.2 c.if-b-eq46.false c.if-b-eq91.false c.requires.1.no_bar c.requires.1.no_close))

pub returns : goal.returns
returns c =
    let q = c.found_leaf-2.ensures in
    found_part (λ g. rw q.past (plain_here c.requires.0 c.requires.1.before q.code q.size g (sym c.if-is_special.false ∙ c.is_special.ensures)))
