-- `sets::fixed` meets its contract: the constant is the table, by computation.
-- Assumes nothing.
use mathlib.Core.Path.{refl}
use Rattle.grammar.specs.Sets.{set_table}
use Rattle.sets.proofs.fixed.Goals as goal

pub returns : goal.returns
unfolding set_table
returns c = record { fixed = refl }
