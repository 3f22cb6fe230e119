-- `facts::carried` meets its contract. The invariant: x and what the leaves left want is what all want. The measure is the number whose bits are the leaves left.
-- Assumes nothing.
use mathlib.Core.Bool.{false}
use mathlib.Core.List.{[]}
use Rattle.words.specs.Sets.{has_bit}
use Rattle.standing.proofs.Sets.{Rest}
use Rattle.facts.proofs.carried.Given as goal

-- Ends are left out: there are no flags.
abbrev pub invariant-loop-t : goal.invariant-loop-t
invariant-loop-t l = Rest (has_bit l.took) l.sets [] (record { all = l.x; some = false }) l.rest

abbrev pub decreases-loop-t : goal.decreases-loop-t
decreases-loop-t l = l.rest
