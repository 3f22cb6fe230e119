-- A record as code holds it: in 64 bytes, for a pattern of any leaves.
-- Assumes nothing.
use Rattle.std.specs.Prelude.{ℕ, ◌-◌, List, ◌++◌, length, replicate}

-- The record at their start, the rest zero.
abbrev pub held : List ℕ → List ℕ
held v = v ++ replicate (64 - length v) 0
