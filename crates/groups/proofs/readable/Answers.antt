-- One byte more is replaced.
use Rattle.std.proofs.Common.{◌<◌, length, get_or, set, ap, ◌∙◌, arith, length-set}
use Rattle.groups.specs.Readable.{readable_by}
use Rattle.groups.specs.Turns.{same}
use Rattle.groups.proofs.ReadableLines.{next_byte, replace_next}
use Rattle.groups.proofs.readable.Goals as goal

pub loop-b-preserved : goal.loop-b-preserved
loop-b-preserved c =
    let l = c.loop-b in
    let i = l.b-index in
    let line = c.args.line.now in
    let f = readable_by (same c.args.group.now) in
    let here : i < length line = omega arith in
    record {
      length = length-set l.line i _ ∙ l.invariant.length;
      replaced =
          ap (λ w. set w i c.readable_byte.result) l.invariant.replaced
          ∙ replace_next f line i here c.readable_byte.result (c.readable_byte.ensures ∙ ap f (ap (λ w. get_or w i 0) l.invariant.replaced ∙ next_byte f line i here));
    }
