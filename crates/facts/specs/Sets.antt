-- Sets of leaves as numbers, and what a byte makes of them by the follow tables.
-- Assumes nothing.
use Rattle.std.specs.Prelude.{◌≡◌, ℕ, suc, ◌≤◌, ◌<◌, false, not, ◌&&◌, List, length, get_or, eqb}
use Rattle.std.specs.Int.Bits.{bit_and}
use Rattle.theory.specs.Pattern.{Re, count}
use Rattle.theory.specs.Standing.{member, wanted, from, filter}
use Rattle.theory.specs.Code.Follow.{has_end}
use Rattle.theory.specs.Code.Next.{afters}
use Rattle.theory.specs.Code.Members.{any}
use Rattle.words.specs.Sets.{has_bit}
use Rattle.standing.specs.Sets.{Small}

-- The leaves of a number, for a pattern with c leaves.
abbrev pub leaves_in : ℕ → ℕ → List ℕ
leaves_in c x = filter (has_bit x) (from 0 c)

-- x is what the leaves `took` want next, by the rows of the follow tables.
pub record Wants (sets : List ℕ) (took x : ℕ) : Type 0 where
  pub all : (q : ℕ) → has_bit x q ≡ any (λ p. has_bit took p && has_bit (get_or sets (suc p) 0) q) (from 0 64)
  pub small : Small x

-- x is the leaves whose row has the end: "the leaves after which an end stands".
pub record Endings (ends : List ℕ) (x : ℕ) : Type 0 where
  pub bits : (p : ℕ) → p < 64 → has_bit x p ≡ eqb (get_or ends (suc p) 0) 1

-- What the first leaves want after each byte.
pub record Nexts (masks sets next : List ℕ) : Type 0 where
  pub size : length next ≡ 257
  pub wants : (b : ℕ) → b < 256 → Wants sets (bit_and (get_or sets 0 0) (get_or masks b 0)) (get_or next b 0)

-- The byte b takes the leaves l to the set `to`, where `took` are those of them that hold it: no leaf beyond the pattern's is in it, and one of `ending` is among `took` exactly if there is an end.
pub record Takes (r : Re) (b : ℕ) (l : List ℕ) (took to ending : ℕ) : Type 0 where
  pub leaves : (p : ℕ) → p < count r → has_bit to p ≡ member p (wanted (afters r b l))
  pub fine : (p : ℕ) → count r ≤ p → has_bit to p ≡ false
  pub ends : not (eqb (bit_and took ending) 0) ≡ has_end (afters r b l)
