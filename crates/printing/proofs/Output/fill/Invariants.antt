-- The first bytes are appended.
use Rattle.std.proofs.Common.{◌≤◌, take}
use Rattle.printing.specs.Text.{Appended}
use Rattle.printing.proofs.Output.fill.Given as goal

abbrev pub invariant-loop-b : goal.invariant-loop-b
invariant-loop-b l = (l.end ≤ 65536) × Appended l.fn.self.bytes l.fn.self.used (take l.b-index l.s) l.self.bytes l.end
