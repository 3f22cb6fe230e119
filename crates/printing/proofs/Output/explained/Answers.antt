-- The verdict, the spans and the readable line, one after the other.
use Rattle.std.proofs.Common.{ℕ, refl, ap, List, [], ◌∷◌, ◌++◌, take, length-append, arith}
use Rattle.printing.specs.Text.{hex}
use Rattle.printing.proofs.Laws.{join, same_text, first_of, hex_size}
use Rattle.printing.proofs.Output.explained.Goals as goal

pub returns : goal.returns
returns c =
    let a = c.args in
    let v = c.put_unlike.ensures in
    let s = c.put_spans.ensures in
    let word : List ℕ = 32 ∷ 114 ∷ 101 ∷ 97 ∷ 100 ∷ 97 ∷ 98 ∷ 108 ∷ 101 ∷ 32 ∷ [] in
    let line : List ℕ = hex (take a.length a.readable.now) in
    record {
      printed = (
        v.0 ++ (32 ∷ (s.0 ++ (word ++ (line ++ (10 ∷ []))))),
        record { verdict = v.0; spans = s.0; is = v.1; cut = s.1; text = refl },
        omega (
          arith,
          v.2,
          s.2,
          hex_size (take a.length a.readable.now),
          length-append v.0 (32 ∷ (s.0 ++ (word ++ (line ++ (10 ∷ []))))),
          length-append s.0 (word ++ (line ++ (10 ∷ []))),
          length-append line (10 ∷ []),
        ),
        join v.3 (join c.put.ensures (join s.3 (join c.put-2.ensures (join (same_text c.put_hex.ensures (ap hex (first_of a.length a.readable.now c.min.ensures))) c.put-3.ensures)))),
      );
    }
