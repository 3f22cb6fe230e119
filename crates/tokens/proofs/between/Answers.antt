-- The copies that must be, then the optional ones, each inside the one before.
-- Assumes nothing.
use Rattle.grammar.specs.Code.Codes.{manner}
use Rattle.tokens.proofs.Laws.{then_added, same_codes}
use Rattle.tokens.proofs.Blocks.{no_optional_codes, between_codes_lem}
use Rattle.tokens.proofs.between.Goals as goal

pub returns-then-most-least : goal.returns-then-most-least
returns-then-most-least c = record { written = same_codes c.exactly.ensures.written (no_optional_codes (manner c.args.lazy) c.args.least c.args.most c.if-most-least.true) }

pub returns : goal.returns
returns c =
    record {
      written =
          same_codes (then_added (then_added (then_added c.all_copies.ensures.written c.shut.ensures.added) c.closes.ensures.added) c.pushes.ensures.added)
          (between_codes_lem (manner c.args.lazy) c.args.least c.args.most c.if-most-least.false);
    }
