-- A space after the text.
use Rattle.std.proofs.Common.{refl, [], ◌∷◌, length-append, arith}
use Rattle.printing.proofs.Laws.{join}
use Rattle.printing.proofs.Output.lengths.Goals as goal

pub returns : goal.returns
returns c =
    let l = c.put_lengths.ensures in
    record {
      printed = (_, record { head = l.0; is = l.1; text = refl }, omega (arith, l.2, length-append l.0 (32 ∷ [])), join l.3 c.put.ensures);
    }
