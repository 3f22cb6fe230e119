-- One byte more.
use Rattle.std.proofs.Common.{ap, ◌∙◌, ◌++◌, take, arith}
use Rattle.printing.specs.Text.{hex}
use Rattle.printing.proofs.Laws.{join, same_text, pair_of, hex_more}
use Rattle.printing.proofs.Output.put_hex.Goals as goal

pub loop-b-preserved : goal.loop-b-preserved
loop-b-preserved c =
    let s = c.args.s.now in
    let i = c.loop-b.b-index in
    same_text
    (join c.loop-b.invariant c.put.ensures)
    (ap (λ x. hex (take i s) ++ x) (pair_of _ (omega (arith, c.type_inv.s i)) c.glyph.ensures c.glyph-in-loop-b.ensures) ∙ hex_more s i (omega arith))
