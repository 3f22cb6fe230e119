-- Each step appends its part of the line, and the start has the same text both times.
use Rattle.std.proofs.Common.{refl, [], ◌∷◌, ◌++◌, append_assoc}
use Rattle.printing.proofs.Laws.{join, field_one, spans_size}
use Rattle.printing.proofs.Output.put_spans.Goals as goal

pub returns : goal.returns
returns c =
    let f = c.put_field.ensures in
    let s = c.put_field-2.ensures in
    let a = c.put_field-3.ensures in
    let l = c.put_field-4.ensures in (
      (103 ∷ 114 ∷ 101 ∷ 101 ∷ 100 ∷ 121 ∷ []) ++ (f.text ++ (s.text ++ ((32 ∷ 112 ∷ 111 ∷ 115 ∷ 105 ∷ 120 ∷ []) ++ (f.text ++ l.text)))),
      record { from = f.text; short = s.text; long = l.text; is = f.field; greedily = s.field; longest = l.field; text = simp append_assoc },
      spans_size (103 ∷ 114 ∷ 101 ∷ 101 ∷ 100 ∷ 121 ∷ []) f.text s.text (32 ∷ 112 ∷ 111 ∷ 115 ∷ 105 ∷ 120 ∷ []) l.text refl refl f.most s.most l.most,
      join f.put (join s.put (join (rw (field_one a.field f.field) at a.put) l.put)),
    )
