-- `seeking::skip` meets its contract. The invariant: no byte of the first n chunks passes the test.
use Rattle.std.proofs.Common.{◌*◌, ◌<◌, ℕ, false, slice_index}
use Rattle.seeking.proofs.skip.Given as goal

abbrev pub invariant-loop-n : goal.invariant-loop-n
invariant-loop-n g l = (k : ℕ) → k < g.row.N * l.n → goal.F-post g l.test (slice_index l.line k) false
