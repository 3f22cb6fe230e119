-- One entry more; the text has no other.
use Rattle.std.proofs.Common.{sym, ◌∙◌, arith}
use Rattle.queries.proofs.Entries.{short, no_first, no_second, fill_one, no_more}
use Rattle.queries.proofs.from_hex.Goals as goal

pub returns-in_default-digit : goal.returns-in_default-digit
returns-in_default-digit c = no_more c.loop-rest.invariant (no_first c.loop-rest.rest.now (omega arith) (sym c.digit.ensures ∙ c.in_default-digit.is))

pub returns-in_default-digit-2 : goal.returns-in_default-digit-2
returns-in_default-digit-2 c = no_more c.loop-rest.invariant (no_second c.loop-rest.rest.now (omega arith) (sym c.digit-in-len2-up.ensures ∙ c.in_default-digit-2.is))

pub loop-rest-preserved : goal.loop-rest-preserved
loop-rest-preserved c =
    fill_one c.loop-rest.rest.now (omega arith) (sym c.digit.ensures ∙ c.in-Some.is) (sym c.digit-in-len2-up.ensures ∙ c.in-Some-digit.is) c.loop-rest.invariant (omega arith)

pub returns : goal.returns
returns c = no_more c.loop-rest.invariant (short c.loop-rest.rest.now (omega arith))
