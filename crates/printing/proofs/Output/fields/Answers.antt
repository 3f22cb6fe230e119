-- Each step appends its part of the line.
use Rattle.std.proofs.Common.{refl, [], ◌∷◌, arith}
use Rattle.printing.proofs.Laws.{join, fields_size}
use Rattle.printing.proofs.Output.fields.Goals as goal

pub returns : goal.returns
returns c =
    let f = c.put_field.ensures in
    let t = c.put_field-2.ensures in
    let b = c.put_brackets.ensures in
    record {
      printed = (
        _,
        record { from = f.text; to = t.text; rest = b.text; is = f.field; ends = t.field; are = b.pairs; text = refl },
        fields_size (103 ∷ 114 ∷ 101 ∷ 101 ∷ 100 ∷ 121 ∷ []) f.text t.text (32 ∷ 102 ∷ 105 ∷ 101 ∷ 108 ∷ 100 ∷ 115 ∷ []) b.text refl refl f.most t.most b.most (omega arith),
        join f.put (join t.put (join c.put.ensures (join b.put c.put-2.ensures))),
      );
    }
