-- What the code's values mean, and lengths as the code counts them.
-- Assumes nothing.
use Rattle.std.specs.Prelude.{ℕ, suc, min, Bool, true, false, cond, Option, Some, None}
use Rattle.std.proofs.Math.Option as Theory
use Rattle.std.proofs.Math.Option.{none, some}
use Rattle.grammar.specs.Limits.{max_weight}
use Rattle.lengths.specs.Lengths.{Longest, limit, no_limit, Extent}
use Rattle.lengths.specs.declared.Lengths.{Lengths}

-- What each value means: a number of bytes, or "no limit".
abbrev pub longest_of : Option ℕ → Longest
longest_of (Some n) = limit n
longest_of None = no_limit

abbrev pub meaning : Lengths → Extent
meaning x = record { least = x.least; greatest = longest_of x.greatest }

-- The two cases as a test and a number, for those who print them or hand them on: whether there is a limit, and which.
abbrev pub is_limited : Longest → Bool
is_limited (limit n) = true
is_limited no_limit = false

abbrev pub bytes_of : Longest → ℕ
bytes_of (limit n) = n
bytes_of no_limit = 0

abbrev pub limit_of : Longest → Theory.Option ℕ
limit_of g = cond (is_limited g) (some (bytes_of g)) none

-- No length of an accepted pattern is above the weight's limit (`counted_whole`), so the code counts any number above it as the next one.
abbrev pub cap : ℕ → ℕ
cap n = min (suc max_weight) n

abbrev pub cap_longest : Longest → Longest
cap_longest (limit n) = limit (cap n)
cap_longest no_limit = no_limit

abbrev pub capped : Extent → Extent
capped x = record { least = cap x.least; greatest = cap_longest x.greatest }
