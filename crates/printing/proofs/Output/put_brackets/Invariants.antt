-- The first f brackets are appended.
use Rattle.printing.specs.Puts.{PutPairs}
use Rattle.printing.proofs.Output.put_brackets.Given as goal

abbrev pub invariant-loop-f : goal.invariant-loop-f
invariant-loop-f l = PutPairs l.f l.known l.places l.fn.self l.self
