-- The test by pairs as a function: live leaves by rounds, reached pairs by the search. The pair of the leaves p and q is the number p * n + q, for n not below the leaf count.
-- Assumes nothing.
use Rattle.std.specs.Prelude.{ℕ, zero, suc, ◌*◌, ◌/◌, ◌%◌, Bool, ◌&&◌, ◌||◌, List, []}
use Rattle.theory.specs.Pattern.{Re, has, count}
use Rattle.theory.specs.Standing.{wanted, member, from, filter}
use Rattle.theory.specs.Code.Members.{any}
use Rattle.theory.specs.Code.Follow.{Next, start, follow, has_end}
use Rattle.extends.specs.Code.Worklist.{search}

-- Some number of the list is in the set; the list has an end, or wants a leaf of the set.
abbrev pub meets : List ℕ → List ℕ → Bool
meets l set = any (λ p. member p set) l

abbrev pub leads : List Next → List ℕ → Bool
leads l set = has_end l || meets (wanted l) set

module _ (r : Re) where
  -- The set of the leaf p is not empty; those of p and q share a byte.
  unfoldable pub takes : ℕ → Bool
  takes p = any (has r p) (from 0 256)

  unfoldable pub share : ℕ → ℕ → Bool
  share p q = any (λ b. has r p b && has r q b) (from 0 256)

  -- The leaves found live in k rounds.
  unfoldable pub rounds : ℕ → List ℕ
  rounds zero = []
  rounds (suc k) = filter (λ p. takes p && leads (follow r p) (rounds k)) (from 0 (count r))

  -- As many rounds as leaves are enough.
  abbrev pub live : List ℕ
  live = rounds (count r)

  module _ (n : ℕ) where
    abbrev pub first_pair : ℕ → Bool
    first_pair x = member (x / n) (wanted (start r)) && (member (x % n) (wanted (start r)) && share (x / n) (x % n))

    abbrev pub next_pair : ℕ → ℕ → Bool
    next_pair x y = member (y / n) (wanted (follow r (x / n))) && (member (y % n) (wanted (follow r (x % n))) && share (y / n) (y % n))

    unfoldable pub pairs : List ℕ
    pairs = search (n * n) first_pair next_pair

    -- At the pair x: an end after one leaf, a live leaf after the other.
    abbrev pub fails_at : ℕ → Bool
    fails_at x = has_end (follow r (x / n)) && meets (wanted (follow r (x % n))) live

    unfoldable pub fails : Bool
    fails = has_end (start r) && meets (wanted (start r)) live || any fails_at pairs
