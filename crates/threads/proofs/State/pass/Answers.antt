-- The invariant: what is left to do from the place i on is the whole.
use Rattle.std.proofs.Common.{arith, ap, get_or}
use Rattle.threads.proofs.Ahead.{ahead_turn, ahead_end, ahead_over}
use Rattle.threads.proofs.State.pass.Goals as goal

pub returns-then-self-eq0 : goal.returns-then-self-eq0
returns-then-self-eq0 c = ahead_over c.loop-i.invariant c.if-self-eq0.true

pub loop-i-preserved : goal.loop-i-preserved
loop-i-preserved c = ahead_turn c.loop-i-test.true (ap (λ b. get_or c.args.tables.masks.now b 0) c.from.ensures) c.loop-i.invariant c.step.ensures c.then_some.ensures c.or-last.ensures

pub returns : goal.returns
returns c = ahead_end c.loop-i.invariant (omega arith)
