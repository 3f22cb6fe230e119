-- What is left: the first place, a jump, a byte more, and the ends of the pass.
-- Assumes nothing.
use mathlib.Core.Path.{refl}
use native.Mathlib.Omega.{arith}
use Rattle.std.proofs.lemmas.Grind.{common_steps}
use Rattle.starts.proofs.Opens.{opened_empty, opening_begin, opening_jump, opening_on, opening_over, opening_end}
use Rattle.starts.proofs.first_open.Goals as goal

pub loop-i-init : goal.loop-i-init
loop-i-init c = opening_begin c.seek-base.ensures.sought

pub returns-in_err-stop : goal.returns-in_err-stop
returns-in_err-stop c =
    rw (c.from_residual.ensures, ← c.begins.ensures.begins, ← c.closes.ensures.closes) (opening_over c.loop-i.invariant (rw c.ending.ensures.ending at c.in_err-stop.ensures) refl)

pub loop-i-preserved-then-set-eq0 : goal.loop-i-preserved-then-set-eq0
loop-i-preserved-then-set-eq0 c =
    let e = c.ending.ensures.ending in
    let b = c.from-b.ensures in
    rw b (opening_jump c.loop-i-test.true c.loop-i.invariant (rw (e, b) at c.if-kind-ends-ne0.false) (rw b at c.carried.ensures.wants) (rw b at c.pass_if-i.ensures.passed) (rw b at c.if-set-eq0.true) c.seek-i.ensures.sought)

pub loop-i-preserved : goal.loop-i-preserved
loop-i-preserved c =
    let e = c.ending.ensures.ending in
    let b = c.from-b.ensures in
    rw b (opening_on c.loop-i-test.true c.loop-i.invariant (rw (e, b) at c.if-kind-ends-ne0.false) (rw b at c.carried.ensures.wants) (rw b at c.pass_if-i.ensures.passed))

pub returns : goal.returns
returns c = rw (← c.begins.ensures.begins, ← c.closes.ensures.closes) (opening_end c.loop-i.invariant (omega arith))

-- No byte begins a match.
pub returns-then-line-base : goal.returns-then-line-base
returns-then-line-base c = rw (← c.begins.ensures.begins) (opening_end (opening_begin c.seek-base.ensures.sought) (omega arith))

pub returns-then-is_empty : goal.returns-then-is_empty
returns-then-is_empty c = opened_empty (grind (arith, common_steps))
