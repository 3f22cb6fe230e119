-- `readings::tables_of` meets its contract: what it hands over is the pattern's own.
-- Assumes nothing.
use mathlib.Core.Path.{ap}
use Rattle.standing.proofs.Lent.{lent}
use Rattle.readings.proofs.tables_of.Goals as goal

pub returns : goal.returns
returns c =
    let v = c.view.ensures in
    let known = rw (c.by_sets.ensures.sets, v.masks, ap (λ t. t.sets) v.tables, ap (λ t. t.ends) v.tables) at c.facts_of-facts.ensures.known in
    record { filled = record { ready = λ n m h. record { lent = lent c.args.x.now c.tables_of-follow.result c.tables_of-follow.ensures.right n m h; known = known } } }
