-- The facts of a pattern are those of its tables.
-- Assumes nothing.
use Rattle.std.specs.Prelude.{ℕ, ◌+◌, cond, eqb, List, get_or}
use Rattle.seeking.specs.declared.How.{How}
use Rattle.seeking.specs.declared.How.TheVariants.{Any, One, Few}
use Rattle.seeking.specs.Hows.{Finds}
use Rattle.facts.specs.declared.FactsView.{FactsView}
use Rattle.facts.specs.Sets.{Endings, Nexts}

-- The arrays that facts are lent in.
pub record Lists : Type 0 where
  pub next : List ℕ
  pub hows : List ℕ

abbrev pub facts : List ℕ → List ℕ → Lists
facts next hows = record { next = next; hows = hows }

-- The lists that a view lends.
abbrev pub facts_in : FactsView → Lists
facts_in f = facts f.next.now f.hows.now

-- How bytes are looked for, as five bytes of the array from the place k on say: the way's number, by one byte or by few, and the bytes.
abbrev pub how_at : List ℕ → ℕ → How
how_at hows k = cond (eqb (get_or hows k 0) 1) (One (get_or hows (k + 1) 0)) (cond (eqb (get_or hows k 0) 2) (Few (get_or hows (k + 1) 0) (get_or hows (k + 2) 0) (get_or hows (k + 3) 0) (get_or hows (k + 4) 0)) Any)

-- The leaves after which an end stands.
abbrev pub ending_in : Lists → ℕ
ending_in f = get_or f.next 256 0

pub record Known (masks sets ends : List ℕ) (f : Lists) : Type 0 where
  pub nexts : Nexts masks sets f.next
  pub endings : Endings ends (ending_in f)
  pub begins : Finds masks (get_or sets 0 0) (how_at f.hows 0)
  pub closes : Finds masks (ending_in f) (how_at f.hows 5)
