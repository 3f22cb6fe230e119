-- The fields of a record by `*`, `/` and `%`, as the code puts them in and takes them out.
-- Assumes nothing.
use Rattle.std.specs.Prelude.{Bool, true, false, List, [], ◌∷◌, ◌++◌, ℕ, zero, suc, ◌+◌, ◌*◌, ◌/◌, ◌%◌, ◌^◌, get_or, drop}

abbrev pub one : Bool → ℕ
one true = 1
one false = 0

-- The lowest d bits of y the other way round.
unfoldable pub turn : ℕ → ℕ → ℕ
turn zero y = 0
turn (suc d) y = y % 2 * 2 ^ d + turn d (y / 2)

-- n bytes of the set x: leaf 0 is its lowest bit, and the highest of the first byte.
unfoldable pub bytes_of : ℕ → ℕ → List ℕ
bytes_of zero x = []
bytes_of (suc n) x = turn 8 x ∷ bytes_of n (x / 256)

-- The set whose first n bytes are these.
unfoldable pub set_of : ℕ → List ℕ → ℕ
set_of zero v = 0
set_of (suc n) v = set_of n (drop 1 v) * 256 + turn 8 (get_or v 0 0)

-- Four leaf numbers in three bytes, the first in the highest bits.
unfoldable pub three : ℕ → ℕ → ℕ → ℕ → List ℕ
three a b c d = (a % 64 * 4 + b / 16 % 4) ∷ (b % 16 * 16 + c / 4 % 16) ∷ (c % 4 * 64 + d % 64) ∷ []

-- The leaf numbers of l in g times three bytes.
unfoldable pub threes : ℕ → List ℕ → List ℕ
threes zero l = []
threes (suc g) l = three (get_or l 0 0) (get_or l 1 0) (get_or l 2 0) (get_or l 3 0) ++ threes g (drop 4 l)

-- The four leaf numbers of three bytes.
unfoldable pub four : ℕ → ℕ → ℕ → List ℕ
four a b c = (a / 4) ∷ (a % 4 * 16 + b / 16) ∷ (b % 16 * 4 + c / 64) ∷ (c % 64) ∷ []

-- The leaf numbers of g times three bytes.
unfoldable pub fours : ℕ → List ℕ → List ℕ
fours zero v = []
fours (suc g) v = four (get_or v 0 0) (get_or v 1 0) (get_or v 2 0) ++ fours g (drop 3 v)
