-- The bytes below b are grouped.
use Rattle.groups.specs.Turns.{GroupedTo}
use Rattle.groups.proofs.groups_of.Given as goal

abbrev pub invariant-loop-b : goal.invariant-loop-b
invariant-loop-b l = GroupedTo l.masks l.b l.groups
