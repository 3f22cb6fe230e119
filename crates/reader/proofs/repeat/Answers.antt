-- `repeat` finds the repeat after an atom, with its sign or without, or none.
-- Assumes nothing.
use native.Mathlib.Omega.{arith}
use Rattle.reader.specs.Steps.{found_part}
use Rattle.reader.proofs.Finds.{many_here, more_here, maybe_here, end_here, other_here}
use Rattle.reader.proofs.repeat.Goals as goal

pub returns-then-at-s : goal.returns-then-at-s
returns-then-at-s c = found_part (end_here c.if-at-s.true)

pub returns-then-b-eq42 : goal.returns-then-b-eq42
returns-then-b-eq42 c =
    found_part (rw c.past-end.ensures (many_here (omega arith) _ c.has_byte-lazy.ensures.here c.or_more.ensures c.if-b-eq42.true c.star.ensures.written))

pub returns-then-b-eq43 : goal.returns-then-b-eq43
returns-then-b-eq43 c =
    found_part
    (rw c.past-end.ensures
    (more_here (omega (arith, c.if-at-s.false, c.requires.begin.inside)) _ c.has_byte-lazy.ensures.here c.or_more-then-b-eq43.ensures c.if-b-eq43.true c.at_least.ensures.written))

pub returns-then-b-eq63 : goal.returns-then-b-eq63
returns-then-b-eq63 c =
    found_part (rw c.past-end.ensures (maybe_here (omega arith) _ c.has_byte-lazy.ensures.here c.up_to.ensures c.if-b-eq63.true c.between.ensures.written))

pub returns : goal.returns
returns c = found_part (other_here (omega arith) c.if-b-eq42.false c.if-b-eq43.false c.if-b-eq63.false c.if-b-eq-BRACE.false)
