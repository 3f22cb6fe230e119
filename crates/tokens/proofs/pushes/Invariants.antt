-- One code n times: after i turns it has been added i times.
-- Assumes nothing.
use lib.ListN.{replicate}
use Rattle.tokens.specs.Held.{Added}
use Rattle.tokens.proofs.pushes.Given as goal

abbrev pub invariant-loop : goal.invariant-loop
invariant-loop l = Added l.initial.a.items l.initial.a.len (replicate l.counter l.code) l.a.items l.a.len
