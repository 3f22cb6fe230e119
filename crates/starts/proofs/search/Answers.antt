-- What is left: a step with a span, one without, and the line's end.
-- Assumes nothing.
use native.Mathlib.Omega.{arith}
use Rattle.starts.proofs.Carries.{none_left}
use Rattle.starts.proofs.Searching.{search_found, search_turn, search_end}
use Rattle.starts.proofs.search.Goals as goal

pub returns-in-Some : goal.returns-in-Some
returns-in-Some c =
    let e = c.ending-ending.ensures.ending in
    search_found c.loop-i.invariant c.loop-i-test.true (rw (e, c.from-b.ensures) at c.step-c.ensures) c.in-Some.is (rw e at c.finish.ensures)

pub loop-i-preserved : goal.loop-i-preserved
loop-i-preserved c =
    let e = c.ending-ending.ensures.ending in
    search_turn c.loop-i.invariant c.loop-i-test.true (rw (e, c.from-b.ensures) at c.step-c.ensures) (none_left _ c.in_default.not-Some) (rw (c.first-before.ensures, c.first.ensures) at c.is_still-still.ensures) (rw (c.first-before.ensures, c.from-b.ensures) at c.pass_if-i.ensures.passed)

pub returns : goal.returns
returns c = search_end c.loop-i.invariant (omega arith)
