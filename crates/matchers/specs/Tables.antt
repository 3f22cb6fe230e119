-- What is lent for the lines of a pattern: its arrays, and its facts.
-- Assumes nothing.
use Rattle.std.specs.Prelude.{List, ℕ}
use Rattle.theory.specs.Pattern.{Re}
use Rattle.standing.specs.Stands.{Arrays, arrays, arrays_of, Lent}
use Rattle.facts.specs.Known.{Lists, facts, facts_in, Known}
use Rattle.matchers.specs.declared.View.{View}

pub record Tables : Type 0 where
  pub arrays : Arrays
  pub facts : Lists

abbrev pub tables : List ℕ → List ℕ → List ℕ → List ℕ → List ℕ → List ℕ → List ℕ → Tables
tables masks rows lens sets ends next hows = record { arrays = arrays masks rows lens sets ends; facts = facts next hows }

-- The arrays and the facts that a view lends.
abbrev pub tables_of : View → Tables
tables_of v = record { arrays = arrays_of v.tables; facts = facts_in v.facts }

-- They are those of the pattern r.
pub record Ready (r : Re) (t : Tables) : Type 0 where
  pub lent : Lent r t.arrays
  pub known : Known t.arrays.masks t.arrays.sets t.arrays.ends t.facts
