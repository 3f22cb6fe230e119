-- Each step appends its part of the line.
use Rattle.std.proofs.Common.{refl, [], ◌∷◌, length-append, arith}
use Rattle.printing.proofs.Laws.{join}
use Rattle.printing.proofs.Output.alike.Goals as goal

pub returns : goal.returns
returns c =
    let f = c.put_field.ensures in
    record {
      printed = (
        _,
        record { field = f.text; is = f.field; text = refl },
        omega (arith, f.most, length-append f.text (10 ∷ [])),
        join f.put c.put.ensures,
      );
    }
