-- Two bytes, and what comes after the zeros.
use Rattle.std.proofs.Common.{refl, [], ◌∷◌, get_or, arith, length, length-drop}
use Rattle.printing.proofs.Laws.{join}
use Rattle.library_calls.proofs.Sizes.{area_size}
use Rattle.library_calls.proofs.area_lines.Goals as goal

pub returns : goal.returns
returns c =
    let s = c.args.s.now in
    let b = c.to_be_bytes.result in (
      _,
      tt,
      area_size (get_or b 6 0 ∷ get_or b 7 0 ∷ []) c.past_first.result.now (length s) refl (rw c.past_first.ensures.part (omega (arith, length-drop c.zeros-zero.result s))),
      join c.bytes.ensures.printed c.bytes-2.ensures.printed,
    )
