-- `seeking::some` meets its contract. The invariant: if `any` is false, none of the bytes so far passes the test.
use Rattle.std.proofs.Common.{◌≡◌, ◌<◌, ℕ, false, slice_index}
use Rattle.seeking.proofs.some.Given as goal

abbrev pub invariant-loop-b : goal.invariant-loop-b
invariant-loop-b g l = l.any ≡ false → (k : ℕ) → k < l.b-index → goal.F-post g l.test (slice_index l.chunk k) false
