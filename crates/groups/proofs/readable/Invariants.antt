-- The bytes so far are replaced.
use Rattle.std.proofs.Common.{length, ◌≡◌}
use Rattle.groups.specs.Readable.{readable_by}
use Rattle.groups.specs.Turns.{same}
use Rattle.groups.proofs.ReadableLines.{replaced}
use Rattle.groups.proofs.readable.Given as goal

abbrev pub invariant-loop-b : goal.invariant-loop-b
invariant-loop-b l = record {
  length : length l.line ≡ length l.initial.line;
  replaced : l.line ≡ replaced (readable_by (same l.group)) l.initial.line l.b-index;
}
