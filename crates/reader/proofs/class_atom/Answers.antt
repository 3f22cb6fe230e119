-- `class_atom` finds a class, or its fault.
-- Assumes nothing.
use Rattle.reader.specs.Steps.{found_part, found_fault}
use Rattle.reader.proofs.Begins.{fault_class}
use Rattle.reader.proofs.Finds.{class_here}
use Rattle.reader.proofs.class_atom.Goals as goal

pub returns-in_default : goal.returns-in_default
returns-in_default c = rw c.at.ensures.refusal (found_fault (fault_class c.requires.0 c.requires.1 c.requires.2 c.in_default.ensures.found))

pub returns : goal.returns
returns c =
    let (a, f, o) = c.in-Some.ensures.found in
    let q = c.found_leaf.ensures in
    found_part (λ g. rw q.past (class_here c.requires.0 c.requires.1 q.code q.size g a c.requires.2 f o))
