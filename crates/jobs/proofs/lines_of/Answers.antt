-- One line more is noted; and all are, or eight of more.
use Rattle.std.proofs.Common.{◌+◌, ◌<◌, arith}
use Rattle.jobs.proofs.Notes.{Noted, more, noted_none, noted_more, noted_all, noted_eight}
use Rattle.jobs.proofs.lines_of.Goals as goal

pub loop-start-init : goal.loop-start-init
loop-start-init c = noted_none c.args.file.now

pub returns-then-job-eq-PATTERNS : goal.returns-then-job-eq-PATTERNS
returns-then-job-eq-PATTERNS c =
    let l = c.loop-start in
    record { lines = rw c.note.ensures (noted_eight c.args.file.now l.job l.start l.invariant c.if-job-eq-PATTERNS.true c.loop-start-test.true) }

pub returns-then-end-file : goal.returns-then-end-file
returns-then-end-file c =
    let l = c.loop-start in
    let file = c.args.file.now in
    let end = c.line_end-end.result in
    let h : l.job.count < 8 = omega (arith, l.invariant.few) in
    let t : Noted file (more l.job l.start end) (end + 1) = noted_more file l.job l.start end l.invariant h c.line_end-end.ensures.2 in
    record { lines = rw c.note-in-loop-start.ensures (noted_all file (more l.job l.start end) (end + 1) t (omega arith)) }

pub loop-start-preserved : goal.loop-start-preserved
loop-start-preserved c =
    let l = c.loop-start in
    let h : l.job.count < 8 = omega (arith, l.invariant.few) in
    rw c.note-in-loop-start.ensures (noted_more c.args.file.now l.job l.start c.line_end-end.result l.invariant h c.line_end-end.ensures.2)

pub returns : goal.returns
returns c = let l = c.loop-start in record { lines = noted_all c.args.file.now l.job l.start l.invariant c.loop-start-test.false }
