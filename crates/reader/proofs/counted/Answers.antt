-- `counted` finds the count after an atom, with its sign or without, or its fault.
-- Assumes nothing.
use mathlib.Core.Path.{refl}
use native.Mathlib.Omega.{arith}
use Rattle.reader.specs.Steps.{found_part, found_fault}
use Rattle.reader.proofs.Begins.{fault_count}
use Rattle.reader.proofs.Finds.{exactly_here, at_least_here, between_here}
use Rattle.reader.proofs.Scans.{exactly_63, at_least_63, between_63}
use Rattle.reader.proofs.counted.Goals as goal

pub returns-in_default : goal.returns-in_default
returns-in_default c = rw c.at.ensures.refusal (found_fault (fault_count c.requires.0 c.requires.1 c.requires.2 c.in_default.ensures.found))

pub up_to-requires : goal.up_to-requires
up_to-requires c = omega (arith, exactly_63 _ _ (rw c.in-Exactly.is at c.in-Some.ensures.found))

pub or_more-requires : goal.or_more-requires
or_more-requires c = omega (arith, at_least_63 _ _ (rw c.in-AtLeast.is at c.in-Some.ensures.found))

pub up_to-requires-in-Between : goal.up_to-requires-in-Between
up_to-requires-in-Between c = omega (arith, between_63 _ _ (rw c.in-Between.is at c.in-Some.ensures.found))

pub returns-in-Exactly : goal.returns-in-Exactly
returns-in-Exactly c =
    let (d, f, g, o) = rw c.in-Exactly.is at c.in-Some.ensures.found in
    found_part (rw c.past-end.ensures (exactly_here c.requires.1 c.requires.2 o _ refl d _ f g c.up_to.ensures c.exactly.ensures.written))

pub returns-in-AtLeast : goal.returns-in-AtLeast
returns-in-AtLeast c =
    let (d, f, g, o) = rw c.in-AtLeast.is at c.in-Some.ensures.found in
    found_part (rw c.past-end.ensures (at_least_here c.requires.1 c.requires.2 o _ c.has_byte-lazy.ensures.here d _ f g c.or_more.ensures c.at_least.ensures.written))

pub returns-in-Between : goal.returns-in-Between
returns-in-Between c =
    let (d, d', f, g, g', o) = rw c.in-Between.is at c.in-Some.ensures.found in
    found_part (rw c.past-end.ensures (between_here c.requires.1 c.requires.2 o _ c.has_byte-lazy.ensures.here d d' _ _ f g g' c.up_to-in-Between.ensures c.between.ensures.written))
