-- A part's rows, with a row that goes on at its ends: what a program can collect part by part, with two sets of fields on each outcome.
-- Assumes nothing.
use Rattle.std.specs.Prelude.{ℕ, List, ◌++◌}
use Rattle.theory.specs.Pattern.{Re}
use Rattle.traces.specs.Traces.{closed, Carried, and_then}
use Rattle.traces.specs.Code.Rows.{start, follow}
use Rattle.traces.specs.Code.Pass.{Sets, neither, note, mapped}

-- The fields opened and closed on one way and then on another.
abbrev pub join : Sets → Sets → Sets
join s u = record { opens = u.opens ++ s.opens; closes = u.closes ++ s.closes }

-- The row m after the sets s.
abbrev pub joined : Sets → List (Carried Sets) → List (Carried Sets)
joined s m = mapped (λ k. k) (join s) m

-- The row m for each end of l. All of it is at one place, so m keeps its own.
abbrev pub splice : List (Carried Sets) → List (Carried Sets) → List (Carried Sets)
splice m l = and_then l (λ k s. joined s m)

-- The field f closed, and nothing else.
abbrev pub closing : ℕ → Sets
closing f = note (closed f 0) neither

-- What the part r begins with after the sets s, and what follows its leaf p; its ends replaced by the row m.
abbrev pub into : List (Carried Sets) → Sets → Re → List (Carried Sets)
into m s r = splice m (start note r 0 s)

abbrev pub after : List (Carried Sets) → Re → ℕ → List (Carried Sets)
after m r p = splice m (follow note r p 0 neither)
