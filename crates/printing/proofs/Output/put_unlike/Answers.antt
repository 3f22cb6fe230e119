-- Each step appends its part of the line.
use Rattle.std.proofs.Common.{ap, [], ◌∷◌, ◌++◌, append_assoc, take, length-append, arith}
use Rattle.printing.specs.Text.{hex}
use Rattle.printing.proofs.Laws.{join, same_text, first_of, hex_size}
use Rattle.printing.proofs.Output.put_unlike.Goals as goal

pub returns : goal.returns
returns c =
    let a = c.args in
    let f = c.put_field.ensures in (
      (117 ∷ 110 ∷ 108 ∷ 105 ∷ 107 ∷ 101 ∷ []) ++ (f.text ++ (32 ∷ hex (take a.length a.witness.now))),
      record { field = f.text; is = f.field; text = simp append_assoc },
      omega (arith, f.most, length-append f.text (32 ∷ hex (take a.length a.witness.now)), hex_size (take a.length a.witness.now)),
      join f.put (join c.put.ensures (same_text c.put_hex.ensures (ap hex (first_of a.length a.witness.now c.min.ensures)))),
    )
