-- The first numbers are appended.
use Rattle.std.proofs.Common.{take}
use Rattle.printing.specs.Puts.{PutFields}
use Rattle.printing.proofs.Output.put_numbers.Given as goal

abbrev pub invariant-loop-x : goal.invariant-loop-x
invariant-loop-x l = PutFields (take l.x-index l.numbers) l.fn.self l.self
