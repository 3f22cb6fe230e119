-- What is printed for the table of named sets that is loaded: it, in hex, or its refusal.
-- Assumes nothing.
use Rattle.std.specs.Prelude.{ℕ, List, [], ◌∷◌, ◌++◌}
use Rattle.grammar.specs.Loaded.{Passes, Fails}
use Rattle.printing.specs.declared.Output.{Output}
use Rattle.printing.specs.Text.{hex, Adds, RefusedLine, Prints}

-- What is added to the output.
pub data TableLine (loaded : List ℕ) (o o' : Output) : Type 0 where
  usable : Passes loaded → Adds o (hex loaded ++ (10 ∷ [])) o' → TableLine loaded o o'
  faulty : {q : ℕ} → Fails loaded q → Prints 50 (RefusedLine 14 q) o o' → TableLine loaded o o'
