-- The byte groups of a pattern and their numbers (paper 01, "Refusals"; request 3).
-- Assumes nothing.
use Rattle.std.specs.Prelude.{ℕ, suc, ◌-◌, Bool, not, cond, List, [], ◌∷◌, ◌++◌, map, length, replicate}
use Rattle.std.specs.Bool.{xor}
use Rattle.theory.specs.Pattern.{Re, count, has}
use Rattle.theory.specs.Standing.{from, filter}
use Rattle.theory.specs.Code.Members.{any}
use Rattle.groups.specs.declared.Groups.{Groups}

-- "Two bytes share a group exactly if each leaf's set holds both or neither": none holds just one of them.
abbrev pub shares : Re → ℕ → ℕ → Bool
shares r b c = not (any (λ p. xor (has r p b) (has r p c)) (from 0 (count r)))

-- The place in a list of the first number that passes a test; the list's length if none does.
abbrev pub place_of : (ℕ → Bool) → List ℕ → ℕ
place_of f [] = 0
place_of f (b ∷ l) = cond (f b) 0 (suc (place_of f l))

-- Given which bytes share a group:
module _ (share : ℕ → ℕ → Bool) where
  -- whether a byte is the lowest of its group, since no lower one shares it;
  abbrev pub is_lowest : ℕ → Bool
  is_lowest b = not (any (λ c. share c b) (from 0 b))

  -- the lowest bytes of the groups, upwards, among the bytes below n and among all;
  abbrev pub lowest_below : ℕ → List ℕ
  lowest_below n = filter is_lowest (from 0 n)

  unfoldable pub lowest_bytes : List ℕ
  lowest_bytes = lowest_below 256

  -- "Groups are now numbered by their lowest byte, upwards from 0": the number of a byte's group is the place of the group's lowest byte among them.
  abbrev pub number_of : ℕ → ℕ
  number_of b = place_of (λ c. share c b) lowest_bytes

  -- All of it: the number of each byte's group, the lowest byte of each group, with zeros after the last, and how many groups there are.
  unfoldable pub numbers : List ℕ
  numbers = map number_of (from 0 256)

  abbrev pub groups_by : Groups
  groups_by = record { group = numbers; lowest = lowest_bytes ++ replicate (256 - length lowest_bytes) 0; count = length lowest_bytes }

-- The groups of a pattern.
abbrev pub groups_of : Re → Groups
groups_of r = groups_by (shares r)
