-- The second pass: a size looks only at places before it, and is at most the number of the places up to there.
-- Assumes nothing.
use mathlib.Core.Path.{◌≡◌, refl, sym, ◌∙◌}
use mathlib.Core.List.{List}
use Prim.Native.Nat.{ℕ, zero, suc, ◌+◌, ◌-◌, ◌<◌, ◌≤◌}
use native.Mathlib.Omega.{arith}
use native.Mathlib.Decide.{dec_le}
use lib.ListN.{length, get_or, set}
use lib.Dec.{eqb, leb}
use mathlib.Core.Bool.{Bool, true, false, cond}
use lib.Seq.{get_or-set_same, get_or-set_other}
use borrow.Author.Tests.{le-leb, lt-leb}
use borrow.Author.Count.{below_more}
use Rattle.arrays.specs.Passes.{left_size, size_of, size_at, Small, Sized}

-- The two parts before the place fit there.
left_small : (sizes : List ℕ) (m : ℕ) → Small sizes (suc m) → get_or sizes m 0 + left_size sizes m ≤ suc m
left_small sizes m h = go (dec_le (get_or sizes m 0) m)
  where
    go : Dec (get_or sizes m 0 ≤ m) → get_or sizes m 0 + left_size sizes m ≤ suc m
    go (yes a) = rw (le-leb (get_or sizes m 0) m a) (omega (arith, h (m - get_or sizes m 0) (omega arith), h m (omega arith)))
    go (no a) = rw (lt-leb (get_or sizes m 0) m (omega arith)) (omega (arith, h m (omega arith)))

pub left_before : (sizes : List ℕ) (i : ℕ) → 0 < i → Small sizes i → get_or sizes (i - 1) 0 + left_size sizes (i - 1) ≤ i
left_before sizes zero h s = absurd (omega arith)
left_before sizes (suc m) h s = let e : suc m - 1 ≡ m = omega arith in rw e (left_small sizes m s)

pub size_before : (kind : ℕ) (sizes : List ℕ) (i b : ℕ) → 0 < i → b ≡ left_size sizes (i - 1) → size_of kind (get_or sizes (i - 1) 0) b ≡ size_at kind sizes i
size_before kind sizes zero b h e = absurd (omega arith)
size_before kind sizes (suc m) b h e = let d : suc m - 1 ≡ m = omega arith in rw (e, d)

cond_most : (t : Bool) (a b n : ℕ) → a ≤ n → b ≤ n → cond t a b ≤ n
cond_most true a b n h k = h
cond_most false a b n h k = k

size_small : (kind : ℕ) (sizes : List ℕ) (i : ℕ) → Small sizes i → size_at kind sizes i ≤ i + 1
size_small kind sizes zero h = omega arith
size_small kind sizes (suc m) h =
    let e = left_small sizes m h in
    cond_most (eqb kind 0) _ _ (suc m + 1) (omega arith)
    (cond_most (leb 13 kind) _ _ (suc m + 1) (omega arith) (cond_most (leb 3 kind) _ _ (suc m + 1) (omega arith) (omega arith)))

-- A store at i changes no size up to i.
size_kept : (kind : ℕ) (sizes : List ℕ) (i j v : ℕ) → j ≤ i → size_at kind (set sizes i v) j ≡ size_at kind sizes j
size_kept kind sizes i zero v h = refl
size_kept kind sizes i (suc m) v h =
    rw (get_or-set_other sizes i m v 0 (λ e. omega arith), get_or-set_other sizes i (m - get_or sizes m 0) v 0 (λ e. omega arith))

-- A turn at the place i.
module _ (kinds sizes : List ℕ) (i : ℕ) (fits : i < length sizes) where
  next : List ℕ
  next = set sizes i (size_at (get_or kinds i 0) sizes i)

  old : (j : ℕ) → j < i → get_or next j 0 ≡ get_or sizes j 0
  unfolding next
  old j h = get_or-set_other sizes i j _ 0 (λ e. omega arith)

  new : get_or next i 0 ≡ size_at (get_or kinds i 0) sizes i
  unfolding next
  new = get_or-set_same sizes i _ 0 fits

  pub small_turn : Small sizes i → Small (set sizes i (size_at (get_or kinds i 0) sizes i)) (i + 1)
  unfolding next
  small_turn h = below_more _ i (λ j k. omega (arith, old j k, h j k)) (omega (arith, new, size_small (get_or kinds i 0) sizes i h))

  pub sized_turn : Sized kinds i sizes → Sized kinds (i + 1) (set sizes i (size_at (get_or kinds i 0) sizes i))
  unfolding next
  sized_turn h =
      below_more _ i
      (λ j k. old j k ∙ h j k ∙ sym (size_kept (get_or kinds j 0) sizes i j _ (omega arith)))
      (new ∙ sym (size_kept (get_or kinds i 0) sizes i i _ (omega arith)))
