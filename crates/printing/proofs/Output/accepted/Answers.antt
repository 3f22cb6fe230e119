-- Each step appends its part of the line.
use Rattle.std.proofs.Common.{refl, [], ◌∷◌, ◌++◌, length-append, arith}
use Rattle.printing.proofs.Laws.{join}
use Rattle.printing.proofs.Output.accepted.Goals as goal

pub returns : goal.returns
returns c =
    let f = c.put_field.ensures in
    let s = c.put_field-2.ensures in
    let t = c.put_field-3.ensures in
    let l = c.put_lengths.ensures in
    record {
      printed = (
        _,
        record { first = f.text; second = s.text; third = t.text; rest = l.0; is = f.field; with = s.field; holding = t.field; long = l.1; text = refl },
        omega (
          arith,
          f.most,
          s.most,
          t.most,
          l.2,
          length-append f.text (s.text ++ (t.text ++ (32 ∷ (l.0 ++ (10 ∷ []))))),
          length-append s.text (t.text ++ (32 ∷ (l.0 ++ (10 ∷ [])))),
          length-append t.text (32 ∷ (l.0 ++ (10 ∷ []))),
          length-append l.0 (10 ∷ []),
        ),
        join f.put (join s.put (join t.put (join c.put.ensures (join l.3 c.put-2.ensures)))),
      );
    }
