-- So many copies, joined, or the empty sequence in the place of the part.
-- Assumes nothing.
use native.Mathlib.Omega.{arith}
use Rattle.tokens.proofs.Laws.{outside, replaced, then_added, same_codes}
use Rattle.tokens.proofs.Blocks.{no_codes, exactly_codes_lem}
use Rattle.tokens.proofs.exactly.Goals as goal

pub returns-then-a-from : goal.returns-then-a-from
returns-then-a-from c = record { written = outside _ _ _ _ c.if-a-from.true }

pub returns-then-times-eq0 : goal.returns-then-times-eq0
returns-then-times-eq0 c = record { written = same_codes (replaced c.if-a-from.false c.push.ensures.added) (no_codes _ c.if-times-eq0.true) }

pub returns : goal.returns
returns c = record { written = same_codes (then_added c.copies.ensures.written.1 c.pushes.ensures.added) (exactly_codes_lem c.args.times (omega arith)) }
