-- The lent area in which the test of request 8 of paper 02 runs.
-- Assumes nothing.
use Rattle.std.specs.Prelude.{ℕ, List, replicate}
use Rattle.verdict.specs.Table.{onto}

-- "It runs in the first 1,024 bytes of a lent area."
abbrev pub area_bytes : ℕ
area_bytes = 1024

-- "They are zero afterwards .., and the rest is kept."
unfoldable pub cleared : List ℕ → List ℕ
cleared s = onto s (replicate area_bytes 0)
