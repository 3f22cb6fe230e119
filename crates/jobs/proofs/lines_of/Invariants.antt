-- `jobs::lines_of` meets its contract. The invariant: the lines before `start` are noted. The measure is what is left of the file.
use Rattle.std.proofs.Common.{◌-◌, length}
use Rattle.jobs.proofs.Notes.{Noted}
use Rattle.jobs.proofs.lines_of.Given as goal

abbrev pub invariant-loop-start : goal.invariant-loop-start
invariant-loop-start l = Noted l.file l.job l.start

abbrev pub decreases-loop-start : goal.decreases-loop-start
decreases-loop-start l = length l.file - l.start
