-- The copies of a lazy repeat: the part gets the empty sequence in front, or a copy of it does.
-- Assumes nothing.
use native.Mathlib.Omega.{arith}
use mathlib.Core.List.{[], ◌∷◌}
use Rattle.grammar.specs.Code.Codes.{empty_kind}
use Rattle.tokens.proofs.Laws.{same_codes}
use Rattle.tokens.proofs.Blocks.{none_first}
use Rattle.tokens.proofs.Copying.{copies_of, led_copies}
use Rattle.tokens.proofs.led_copies.Goals as goal

pub returns-then-least-eq0 : goal.returns-then-least-eq0
returns-then-least-eq0 c = record { written = same_codes (copies_of c.args.around c.lead.ensures.written c.copies.ensures.written.1) (none_first c.args.around _ c.if-least-eq0.true (empty_kind ∷ [])) }

pub returns : goal.returns
returns c =
    record {
      written =
          led_copies c.args.least c.args.around (omega (arith, c.if-least-eq0.false)) c.if-a-from.false c.copies-2.ensures.written.1 c.push.ensures.added
          c.copy.ensures.copied c.copies-3.ensures.written.1;
    }
