-- `pairs::row` meets its contract: the eight bytes are those of the row.
-- Assumes nothing.
use Rattle.std.proofs.Common.{◌≡◌, ◌+◌, ◌-◌, ◌*◌, ◌∙◌, ap, take, drop, arith}
use Rattle.pairs.proofs.Rows.{row_is}
use Rattle.pairs.proofs.row.Goals as goal

pub returns : goal.returns
returns c =
    let a = c.args in
    let n : 8 * a.k + 8 - 8 * a.k ≡ 8 = omega arith in
    c.from_le_bytes.ensures ∙ row_is a.area.now a.k c.copy_from_slice.new.self (c.copy_from_slice.ensures.after ∙ ap (λ i. take i (drop (8 * a.k) a.area.now)) n)
