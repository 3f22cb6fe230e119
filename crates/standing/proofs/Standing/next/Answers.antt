-- `standing::Standing::next` meets its contract: (a) and (b) from the one half, (c) and (d) from the other.
-- Assumes nothing.
use native.Mathlib.Omega.{arith}
use Rattle.standing.proofs.Right.{next_right}
use Rattle.standing.proofs.Standing.next.Goals as goal

pub returns : goal.returns
returns c =
    record {
      next =
          let a = c.args in
          let e = c.from.ensures in
          let front = c.front_after-front in
          let wants = c.wants_after-wants in
          record {
            stands = λ d stands. next_right d a.byte (omega arith) a.self stands front.result wants.result (rw (e, c.min.ensures) at front.ensures) (rw e at wants.ensures);
          };
    }
