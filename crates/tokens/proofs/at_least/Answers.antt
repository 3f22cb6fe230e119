-- So many copies, then the star of one more.
-- Assumes nothing.
use Rattle.grammar.specs.Code.Codes.{manner}
use Rattle.tokens.proofs.Laws.{then_added, same_codes}
use Rattle.tokens.proofs.Blocks.{at_least_codes_lem}
use Rattle.tokens.proofs.at_least.Goals as goal

pub returns : goal.returns
returns c =
    record {
      written =
          let starred = rw c.star_code-starred.ensures at c.push.ensures.added in
          same_codes (then_added (then_added c.copies.ensures.written.1 starred) c.pushes.ensures.added) (at_least_codes_lem (manner c.args.lazy) c.args.times);
    }
