-- The lines up to here are answered. The measure is the bytes of the chunk that are left.
use Rattle.std.proofs.Common.{◌-◌}
use Rattle.lines.proofs.Serving.{Serving}
use Rattle.lines.proofs.Input.answer_lines.Given as goal

abbrev pub invariant-loop-self : goal.invariant-loop-self
invariant-loop-self g l = Serving g.A.Responder.answers l.initial.self l.initial.out l.initial.responder l.self l.out l.responder

abbrev pub decreases-loop-self : goal.decreases-loop-self
decreases-loop-self g l = l.self.chunk.end - l.self.chunk.at
