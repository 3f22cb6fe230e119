-- "A job file arrives with up to eight patterns, one a line as the checker program reads them" (request 10 of paper 02).
-- Assumes nothing.
use Rattle.std.specs.Prelude.{◌≡◌, ℕ, ◌≤◌, ◌<◌, min, cond, List, [], ◌∷◌, length, get_or, take, drop, eqb}
use Rattle.jobs.specs.declared.Job.{Job}
use Rattle.jobs.specs.declared.Place.{Place}

-- The lines, the first of which begins with the byte b.
abbrev pub beginning : ℕ → List (List ℕ) → List (List ℕ)
beginning b [] = (b ∷ []) ∷ []
beginning b (l ∷ L) = (b ∷ l) ∷ L

-- The lines of a file: each goes up to a newline, 10; "the last newline optional". An empty file has none.
unfoldable pub lines_of : List ℕ → List (List ℕ)
lines_of [] = []
lines_of (b ∷ s) = cond (eqb b 10) ([] ∷ lines_of s) (beginning b (lines_of s))

-- The bytes from place a to before place e; what is not there is left out.
abbrev pub between : ℕ → ℕ → List ℕ → List ℕ
between a e s = drop a (take e s)

-- Where no pattern is noted.
abbrev pub nowhere : Place
nowhere = record { start = 0; end = 0 }

-- Where pattern i, from 0, stands.
abbrev pub place_at : Job → ℕ → Place
place_at job i = get_or job.places i nowhere

-- Pattern i, from 0, of those that stand in the text.
abbrev pub pattern_at : List ℕ → Job → ℕ → List ℕ
pattern_at text job i = between (place_at job i).start (place_at job i).end text

-- The patterns are the lines of the file. Of more than eight it is only said that there are more.
pub record JobOf (file : List ℕ) (job : Job) : Type 0 where
  pub count : job.count ≡ min (length (lines_of file)) 9
  pub patterns : (i : ℕ) → i < min (length (lines_of file)) 8 → pattern_at file job i ≡ get_or (lines_of file) i []
  pub spare : (i : ℕ) → length (lines_of file) ≤ i → i < 8 → place_at job i ≡ nowhere
