-- The ends of optional copies: after i turns, those of i.
-- Assumes nothing.
use Rattle.tokens.specs.Held.{Added}
use Rattle.grammar.specs.Code.Codes.{manner, close_codes}
use Rattle.tokens.proofs.closes.Given as goal

abbrev pub invariant-loop : goal.invariant-loop
invariant-loop l = Added l.initial.a.items l.initial.a.len (close_codes (manner l.lazy) l.counter) l.a.items l.a.len
