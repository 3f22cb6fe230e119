-- A line that has begun gets its newline.
use Rattle.std.proofs.Common.{refl, sym, ◌∙◌, arith}
use Rattle.lines.specs.Exchange.{over}
use Rattle.lines.proofs.Exchanging.{newline_first}
use Rattle.lines.proofs.Input.end.Goals as goal

pub returns-then-has_begun : goal.returns-then-has_begun
returns-then-has_begun c =
    over refl (rw (sym c.has_begun.ensures ∙ c.if-has_begun.true) (newline_first c.args.self.now.chunk.bytes (omega arith))) c.fill.ensures

pub returns-else-has_begun : goal.returns-else-has_begun
returns-else-has_begun c = over {k = 0} refl (rw (sym c.has_begun.ensures ∙ c.if-has_begun.false) refl) c.fill-else-has_begun.ensures
