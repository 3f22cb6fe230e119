-- What is left: a turn with an end and one without, and the end of the pass.
-- Assumes nothing.
use mathlib.Core.Path.{refl}
use native.Mathlib.Omega.{arith}
use borrow.Author.Tests.{eq-eqb, ne_eqb}
use Rattle.ends.proofs.Lasts.{lasting_turn, lasting_end, lasting_over}
use Rattle.ends.proofs.last_end.Goals as goal

pub returns-then-set-eq0 : goal.returns-then-set-eq0
returns-then-set-eq0 c = record { last = lasting_over c.if-set-eq0.true c.loop-i.invariant }

pub loop-i-smaller-then-took-ending-ne0 : goal.loop-i-smaller-then-took-ending-ne0
loop-i-smaller-then-took-ending-ne0 c = let p = c.pass_if-i.ensures.passed in omega (arith, p.more, p.within (omega arith))

pub loop-i-smaller : goal.loop-i-smaller
loop-i-smaller c = let p = c.pass_if-i.ensures.passed in omega (arith, p.more, p.within (omega arith))

pub loop-i-preserved-then-took-ending-ne0 : goal.loop-i-preserved-then-took-ending-ne0
loop-i-preserved-then-took-ending-ne0 c =
    let e = c.from.ensures in
    let n = rw e at c.if-took-ending-ne0.true in
    lasting_turn (omega arith) c.loop-i.invariant (rw e at c.carried-to.ensures.wants) (rw e at c.pass_if-i.ensures.passed) (rw (ne_eqb _ 0 n) refl)

pub loop-i-preserved : goal.loop-i-preserved
loop-i-preserved c =
    let e = c.from.ensures in
    let n = rw e at c.if-took-ending-ne0.false in
    lasting_turn (omega arith) c.loop-i.invariant (rw e at c.carried-to.ensures.wants) (rw e at c.pass_if-i.ensures.passed) (rw (eq-eqb _ 0 n) refl)

pub returns : goal.returns
returns c = record { last = lasting_end (omega arith) c.loop-i.invariant }
