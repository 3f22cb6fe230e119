-- The byte groups as the code makes them, byte by byte upwards, of bytes with equal masks.
-- Assumes nothing.
use Rattle.std.specs.Prelude.{◌≡◌, ℕ, ◌-◌, ◌≤◌, Bool, List, ◌++◌, map, length, get_or, replicate, eqb}
use Rattle.theory.specs.Standing.{from}
use Rattle.groups.specs.declared.Groups.{Groups}
use Rattle.groups.specs.Numbers.{lowest_below, number_of}

-- The array has one number for both bytes.
abbrev pub same : List ℕ → ℕ → ℕ → Bool
same a b c = eqb (get_or a b 0) (get_or a c 0)

-- What is known after the bytes below n: the numbers of their groups, and the lowest bytes among them.
pub record GroupedTo (masks : List ℕ) (n : ℕ) (g : Groups) : Type 0 where
  pub numbered : g.group ≡ map (number_of (same masks)) (from 0 n) ++ replicate (256 - n) 0
  pub leading : g.lowest ≡ lowest_below (same masks) n ++ replicate (256 - g.count) 0
  pub counted : g.count ≡ length (lowest_below (same masks) n)
  pub most : g.count ≤ n
