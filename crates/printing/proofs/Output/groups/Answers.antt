-- Each step appends its part of the line.
use Rattle.std.proofs.Common.{refl, [], ◌∷◌, length-append, arith}
use Rattle.printing.proofs.Laws.{join}
use Rattle.printing.proofs.Output.groups.Goals as goal

pub returns : goal.returns
returns c =
    let f = c.put_numbers.ensures in
    record {
      printed = (
        _,
        record { rest = f.text; are = f.fields; text = refl },
        omega (arith, f.most, length-append f.text (10 ∷ [])),
        join c.put.ensures (join f.put c.put-2.ensures),
      );
    }
