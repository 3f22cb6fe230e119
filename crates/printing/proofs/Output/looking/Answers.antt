-- Each step appends its part of the text.
use Rattle.std.proofs.Common.{ℕ, refl, List, [], ◌∷◌, ◌++◌, length-append, arith}
use Rattle.printing.proofs.Laws.{join}
use Rattle.printing.proofs.Output.looking.Goals as goal

pub returns : goal.returns
returns c =
    let f = c.put_field.ensures in
    let s = c.put_field-2.ensures in
    let word : List ℕ = 32 ∷ 99 ∷ 111 ∷ 109 ∷ 112 ∷ 97 ∷ 114 ∷ 105 ∷ 115 ∷ 111 ∷ 110 ∷ 115 ∷ [] in
    record {
      printed = (
        _,
        record { first = f.text; second = s.text; is = f.field; with = s.field; text = refl },
        omega (arith, f.most, s.most, length-append f.text (word ++ (s.text ++ (32 ∷ []))), length-append s.text (32 ∷ [])),
        join f.put (join s.put c.put.ensures),
      );
    }
