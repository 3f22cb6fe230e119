-- The invariant: the outcomes of the leaves before p are read.
use Rattle.std.proofs.Common.{arith, refl}
use Rattle.threads.proofs.Reading.{blank_sound}
use Rattle.threads.proofs.Stepping.{step_none, step_all, step_over, step_more}
use Rattle.threads.proofs.State.step.Goals as goal

pub loop-p-init : goal.loop-p-init
loop-p-init c = let s = c.requires.0 in step_none (blank_sound s.long s.slots)

pub returns-then-self : goal.returns-then-self
returns-then-self c = step_over c.loop-p.invariant c.args.self.now refl refl refl c.if-self.true

pub loop-p-preserved : goal.loop-p-preserved
loop-p-preserved c = step_more c.loop-p.invariant c.if-self.false c.requires.1 c.loop-p-test.true c.from.ensures c.read_leaf.ensures

pub returns : goal.returns
returns c = step_all c.loop-p.invariant c.args.self.now refl refl refl (omega arith)
