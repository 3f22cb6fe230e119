-- The word, a space, and the digits that `io::decimal` gives.
use Rattle.std.proofs.Common.{refl, arith}
use Rattle.printing.proofs.Laws.{field_size}
use Rattle.printing.proofs.Output.put_field.Goals as goal
use Rattle.printing.proofs.Output.put_field.Goals.{then-fits, else-fits}

pub returns : goal.returns
returns c =
    let d = c.decimal-k in
    record {
      text = _;
      field = record { number = _; decimal = record { places = d.result; fewest = d.ensures.len; text = d.ensures.digits }; text = refl };
      most = field_size _ d.ensures.len (omega arith);
      put =
          elim c.if-fits.branch [
            | then-fits w ↦ rw (w.self-is, w.self2-is) w.fill_field-self.ensures
            | else-fits w ↦ rw (w.self-is, w.self2-is) w.fill_up_field-self.ensures
          ];
    }
