-- What is left: the first standing, a turn with (b) and one without, and the end.
-- Assumes nothing.
use mathlib.Core.Path.{refl}
use native.Mathlib.Omega.{arith}
use borrow.Author.Rules.{rules}
use Rattle.ends.proofs.Forward.{ahead_start, ahead_turn, ahead_end, ahead_over, first_place}
use Rattle.ends.proofs.greedy_end.Goals as goal

pub loop-i-init : goal.loop-i-init
loop-i-init c = ahead_start c.initial-s.ensures.first (rw c.then_some-last.ensures (first_place _ _))

pub returns-then-s-eq0 : goal.returns-then-s-eq0
returns-then-s-eq0 c = record { ended = ahead_over c.if-s-eq0.true c.loop-i.invariant }

pub loop-i-smaller-then-s : goal.loop-i-smaller-then-s
loop-i-smaller-then-s c = let p = c.pass_if-i.ensures.passed in omega (arith, p.more, p.within (omega arith))

pub loop-i-smaller : goal.loop-i-smaller
loop-i-smaller c = let p = c.pass_if-i.ensures.passed in omega (arith, p.more, p.within (omega arith))

pub loop-i-preserved-then-s : goal.loop-i-preserved-then-s
loop-i-preserved-then-s c = ahead_turn (omega arith) (search rules) (rw c.from.ensures at c.pass_if-i.ensures.passed) c.loop-i.invariant c.next-t.ensures.next (rw c.if-s.true refl)

pub loop-i-preserved : goal.loop-i-preserved
loop-i-preserved c = ahead_turn (omega arith) (search rules) (rw c.from.ensures at c.pass_if-i.ensures.passed) c.loop-i.invariant c.next-t.ensures.next (rw c.if-s.false refl)

pub returns : goal.returns
returns c = record { ended = ahead_end (omega arith) c.loop-i.invariant }
