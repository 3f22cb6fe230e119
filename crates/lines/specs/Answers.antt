-- A turn of a program: the lines that end in the chunk are answered in their order, each answer whole.
-- Assumes nothing.
use Rattle.std.specs.Prelude.{◌≡◌, true, false, ◌⊎◌, List, [], ◌++◌, ℕ, ◌+◌, ◌<◌, length, take}
use Rattle.printing.specs.declared.Output.{Output}
use Rattle.lines.specs.declared.Input.{Input}
use Rattle.lines.specs.Lines.{up_to, ended, past, kept, rest, begun}

-- A x l w y: the text w answers the line l, and what was x is y then.
module _ {S : Type 0} (A : S → List ℕ → List ℕ → S → Type 0) where
  -- The first bytes of a line, then `bytes`: the text answers line after line, and what is left has so many bytes of a line, then other bytes.
  pub data Answers (x : S) (first bytes : List ℕ) : List ℕ → S → List ℕ → List ℕ → Type 0 where
    none : Answers x first bytes [] x first bytes
    next : {text w f b : List ℕ} {y z : S} → Answers x first bytes text y f b → ended b ≡ true → A y (kept (f ++ up_to b)) w z
        → Answers x first bytes (text ++ w) z [] (past b)
    part : {text f b : List ℕ} {y : S} → Answers x first bytes text y f b → ended b ≡ false → Answers x first bytes text y (kept (f ++ b)) []

  -- The answers join what waits, and none is cut off. It ends when nothing is left of the chunk, or a further answer might not fit.
  pub record Served (longest : ℕ) (s : Input) (o : Output) (x : S) (r : Input) (o' : Output) (y : S) : Type 0 where
    pub text : List ℕ
    pub answers : Answers x (begun s.line) (rest s.chunk) text y (begun r.line) (rest r.chunk)
    pub waits : take o'.used o'.bytes ≡ take o.used o.bytes ++ text
    pub used : o'.used ≡ o.used + length text
    pub chunk : r.chunk.bytes ≡ s.chunk.bytes
    pub source : r.source ≡ s.source
    pub all : (rest r.chunk ≡ []) ⊎ (65536 < o'.used + longest)
