-- The cleared area: its zeros, what is kept of it, its length, and that it stays bytes.
-- Assumes nothing.
use mathlib.Core.Path.{◌≡◌, ap}
use mathlib.Core.List.{List, ◌++◌}
use Prim.Native.Nat.{ℕ, zero, suc, ◌≤◌, ◌<◌}
use native.Mathlib.Omega.{arith}
use lib.ListN.{length, drop, replicate, length-replicate}
use Rattle.verdict.specs.Table.{onto}
use Rattle.verdict.specs.Area.{area_bytes, cleared}
use Rattle.theory.specs.Lines.{Below}
use Rattle.theory.proofs.Lines.{below_append}
use Rattle.verdict.proofs.Tables.{onto_length}
use Rattle.verdict.proofs.StayBytes.{drop_below}

zeros : (n : ℕ) → length {A = ℕ} (replicate n 0) ≡ n
zeros n = length-replicate {A = ℕ} n 0

-- For any number of bytes, so that no list of zeros is written out.
onto_zeros : (n : ℕ) (s : List ℕ) → onto s (replicate n 0) ≡ replicate n 0 ++ drop n s
onto_zeros n s = ap (λ k. replicate n 0 ++ drop k s) (zeros n)

zeros_length : (n : ℕ) (s : List ℕ) → n ≤ length s → length (onto s (replicate n 0)) ≡ length s
zeros_length n s h = onto_length s (replicate n 0) (omega (arith, zeros n))

pub cleared_is : (s : List ℕ) → cleared s ≡ replicate area_bytes 0 ++ drop area_bytes s
unfolding cleared
cleared_is s = onto_zeros area_bytes s

pub cleared_length : (s : List ℕ) → area_bytes ≤ length s → length (cleared s) ≡ length s
unfolding cleared
cleared_length s h = zeros_length area_bytes s h

-- Zeros are bytes.
zeros_below : (n m : ℕ) → 0 < m → Below m (replicate n 0)
zeros_below zero m h = tt
zeros_below (suc n) m h = (h, zeros_below n m h)

pub cleared_bytes : (s : List ℕ) → Below 256 s → Below 256 (cleared s)
cleared_bytes s h = rw (cleared_is s) (below_append 256 (replicate area_bytes 0) (drop area_bytes s) (zeros_below area_bytes 256 (omega arith)) (drop_below 256 area_bytes s h))
