-- "Bit-packed, most significant first": numbers as bits, and bits as bytes.
-- Assumes nothing.
use Rattle.std.specs.Prelude.{ℕ, zero, suc, ◌+◌, ◌*◌, ◌/◌, ◌%◌, ◌^◌, Bool, true, false, List, [], ◌∷◌, take, drop}

-- The number n in d bits.
unfoldable pub bits : ℕ → ℕ → List ℕ
bits zero n = []
bits (suc d) n = (n / 2 ^ d % 2) ∷ bits d n

-- One bit.
abbrev pub bit : Bool → List ℕ
bit true = 1 ∷ []
bit false = 0 ∷ []

-- The number that bits are, after those of n.
abbrev pub from_bits : ℕ → List ℕ → ℕ
from_bits n [] = n
from_bits n (b ∷ l) = from_bits (2 * n + b) l

-- n bytes, eight bits to a byte.
unfoldable pub pack : ℕ → List ℕ → List ℕ
pack zero l = []
pack (suc n) l = from_bits 0 (take 8 l) ∷ pack n (drop 8 l)
