-- The first bytes are appended in hex.
use Rattle.std.proofs.Common.{take}
use Rattle.printing.specs.Text.{Adds, hex}
use Rattle.printing.proofs.Output.put_hex.Given as goal

abbrev pub invariant-loop-b : goal.invariant-loop-b
invariant-loop-b l = Adds l.fn.self (hex (take l.b-index l.s)) l.self
