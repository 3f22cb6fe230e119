-- What the check of a table says, for a table of any length and content: it passes, or it fails at the place (request 9).
-- Assumes nothing.
use Rattle.std.specs.Prelude.{ℕ, List, Result, Ok, Err}
use Rattle.grammar.specs.Loaded.{Passes, Fails}
use Rattle.sets.specs.declared.Faulty.{Faulty}

abbrev pub Checks : List ℕ → Result Unit Faulty → Type 0
Checks loaded (Ok x) = Passes loaded
Checks loaded (Err f) = Fails loaded f.place
