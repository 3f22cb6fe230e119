-- The empty sequence in front of a part: after i turns, the codes below i are one place up.
-- Assumes nothing.
use mathlib.Core.Path.{◌≡◌}
use native.Mathlib.Omega.{arith}
use Rattle.tokens.proofs.Leading.{raised_more, raised_all}
use Rattle.tokens.proofs.lead.Goals as goal

pub loop-i-preserved : goal.loop-i-preserved
loop-i-preserved c = (raised_more (omega arith) (omega arith) c.loop-i.invariant.0, c.loop-i.invariant.1)

pub returns : goal.returns
returns c =
    record {
      written =
          let e : c.loop-i.i ≡ c.args.a.now.len = omega arith in
          raised_all c.if-a-from.false c.if-a-gt-MAX_PARTS.false (rw e at c.loop-i.invariant.0) (rw c.loop-i.invariant.1 at c.push.ensures.added);
    }
