-- Each step appends its part of the line.
use Rattle.std.proofs.Common.{refl, [], ◌∷◌, ◌++◌, length-append, arith}
use Rattle.printing.proofs.Laws.{join}
use Rattle.printing.proofs.Output.refused.Goals as goal

pub returns : goal.returns
returns c =
    let f = c.put_field.ensures in
    let s = c.put_field-2.ensures in
    record {
      printed = (
        _,
        record { first = f.text; second = s.text; is = rw c.from.ensures at f.field; at = s.field; text = refl },
        omega (arith, f.most, s.most, length-append f.text (s.text ++ (10 ∷ [])), length-append s.text (10 ∷ [])),
        join f.put (join s.put c.put.ensures),
      );
    }
