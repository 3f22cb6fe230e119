-- The word is what the text begins with.
use Rattle.lines.proofs.Laws.{begins_is}
use Rattle.lines.proofs.begins_with.Goals as goal

pub returns : goal.returns
returns c = record { begins = begins_is c.args.s.now c.args.word.now c.starts_with.result c.starts_with.ensures.value }
