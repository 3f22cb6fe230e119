-- Each step appends its part of the text.
use Rattle.std.proofs.Common.{refl, length-append, arith}
use Rattle.printing.proofs.Laws.{join}
use Rattle.printing.proofs.Output.put_lengths.Goals as goal

pub returns : goal.returns
returns c =
    let f = c.put_field.ensures in
    let l = c.put_limit.ensures in (
      _,
      record { first = f.text; rest = l.0; is = f.field; ends = l.1; text = refl },
      omega (arith, f.most, l.2, length-append f.text l.0),
      join f.put l.3,
    )
