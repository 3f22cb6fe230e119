-- Sets of leaves as the bits of a number: bit p stands for the leaf p, and there are 64.
-- Assumes nothing.
use Rattle.std.specs.Prelude.{◌≡◌, ℕ, ◌-◌, ◌^◌, ◌/◌, ◌%◌, ◌<◌, Bool, true, not, ◌&&◌, cond, eqb, ltb}
use Rattle.std.specs.Int.Bits.{bit_or, bit_and}
use Rattle.std.specs.Int.Count.{count_trailing_zeros}
use Rattle.words.specs.declared.Taken.{Taken}

-- Bit p of the number x.
abbrev pub has_bit : ℕ → ℕ → Bool
has_bit x p = eqb (x / 2 ^ p % 2) 1

-- The set x with the leaf p. From 64 on there is no leaf.
abbrev pub with_leaf : ℕ → ℕ → ℕ
with_leaf x p = cond (ltb p 64) (bit_or x (2 ^ p)) x

-- The same if `is`.
abbrev pub with_leaf_if : Bool → ℕ → ℕ → ℕ
with_leaf_if is x p = cond is (with_leaf x p) x

-- The least leaf of the set x, 64 if it has none, and the set of the others.
abbrev pub least_leaf : ℕ → ℕ
least_leaf x = count_trailing_zeros 64 x

abbrev pub other_leaves : ℕ → ℕ
other_leaves x = bit_and x (x - 1)

-- p is a leaf of the set x, and `rest` are its others.
pub record Parted (x p rest : ℕ) : Type 0 where
  pub below : p < 64
  pub there : has_bit x p ≡ true
  pub others : (q : ℕ) → has_bit rest q ≡ (has_bit x q && not (eqb q p))
  pub less : rest < x

-- The least leaf of x and the others, into which x is parted.
pub record TakenFrom (x : ℕ) (r : Taken) : Type 0 where
  pub is : r ≡ record { leaf = least_leaf x; rest = other_leaves x }
  pub parted : Parted x r.leaf r.rest
