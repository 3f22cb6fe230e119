-- Lengths as the code counts them: a number above the limit counts as the next one, before a step or after it.
-- Assumes nothing.
use mathlib.Core.Path.{◌≡◌, refl, sym, ap, ap₂, ◌∙◌}
use mathlib.Core.Logic.{◌≢◌}
use Prim.Native.Nat.{ℕ, zero, suc, ◌+◌, ◌*◌, ◌≤◌, min, max}
use native.Mathlib.Omega.{arith}
use native.Mathlib.Nat.{mul_comm, mul-le-mul, mul-zero, zero-mul, suc-mul}
use native.Mathlib.Decide.{dec_le}
use Rattle.lengths.specs.Lengths.{Longest, limit, no_limit, together, copies, endless, Extent, in_row, one_of, up_to, or_more}
use Rattle.lengths.specs.Code.{cap, cap_longest, capped}
use Rattle.lengths.proofs.Sums.{extents}

-- Products. One with a factor above the limit is 0, or above it too.
cap_factor : (n a : ℕ) → cap (cap n * a) ≡ cap (n * a)
cap_factor n a =
    elim (dec_le n 65) [
      | yes h ↦ (let e : cap n ≡ n = omega arith in ap (λ k. cap (k * a)) e)
      | no h ↦ (let e : cap n ≡ 65 = omega arith in ap (λ k. cap (k * a)) e ∙ above (dec_le 1 a) (omega arith))
    ]
  where
    above : Dec (1 ≤ a) → 65 ≤ n → cap (65 * a) ≡ cap (n * a)
    above (yes k) h = let c : 65 * 1 ≤ n * a = mul-le-mul h k in omega arith
    above (no k) h = let e : a ≡ 0 = omega arith in ap (λ b. cap (65 * b)) e ∙ omega (arith, ap (λ b. n * b) e, mul-zero n)

cap_times : (n a : ℕ) → cap (n * cap a) ≡ cap (n * a)
cap_times n a = ap cap (mul_comm n (cap a)) ∙ cap_factor a n ∙ ap cap (mul_comm a n)

pub cap_product : (n a : ℕ) → cap (cap n * cap a) ≡ cap (n * a)
cap_product n a = cap_factor n (cap a) ∙ cap_times n a

pub small_product : {x y : ℕ} (n a : ℕ) → x ≡ min n 65 → y ≡ min a 65 → x * y ≤ 4225
small_product n a e d = mul-le-mul {n₂ = 65} {m₂ = 65} (omega arith) (omega arith)

-- Copies of a part with a greatest length, and without; and any number of them.
pub copies_limit : (n a : ℕ) → copies n (limit a) ≡ limit (n * a)
copies_limit zero a = ap limit (omega (arith, zero-mul a))
copies_limit (suc n) a = ap (together ◌+◌ (limit a)) (copies_limit n a) ∙ ap limit (omega (arith, suc-mul n a))

pub copies_none : (n : ℕ) → n ≢ 0 → copies n no_limit ≡ no_limit
copies_none zero h = absurd (h refl)
copies_none (suc n) h = refl

pub endless_some : (a : ℕ) → a ≢ 0 → endless (limit a) ≡ no_limit
endless_some zero h = absurd (h refl)
endless_some (suc a) h = refl

-- What is capped before a step.
cap_together : (f : ℕ → ℕ → ℕ) → ((a b : ℕ) → cap (f (cap a) (cap b)) ≡ cap (f a b)) → (g h : Longest)
    → cap_longest (together f (cap_longest g) (cap_longest h)) ≡ cap_longest (together f g h)
cap_together f e no_limit h = refl
cap_together f e (limit a) no_limit = refl
cap_together f e (limit a) (limit b) = ap limit (e a b)

cap_copies : (n : ℕ) (g : Longest) → cap_longest (copies n (cap_longest g)) ≡ cap_longest (copies n g)
cap_copies n no_limit = refl
cap_copies n (limit a) = ap cap_longest (copies_limit n (cap a)) ∙ ap limit (cap_times n a) ∙ ap cap_longest (sym (copies_limit n a))

cap_endless : (g : Longest) → cap_longest (endless (cap_longest g)) ≡ cap_longest (endless g)
cap_endless no_limit = refl
cap_endless (limit zero) = refl
cap_endless (limit (suc n)) = let e : cap (suc n) ≡ suc (min 64 n) = omega arith in ap (λ k. cap_longest (endless (limit k))) e

-- What the code makes of counted lengths is the lengths counted.
module _ {a b r : Extent} (x y : Extent) (p : a ≡ capped x) (q : b ≡ capped y) where
  pub row_counted : r ≡ capped (in_row a b) → r ≡ capped (in_row x y)
  row_counted e = e ∙ ap₂ (λ u v. capped (in_row u v)) p q ∙ extents (omega arith) (cap_together ◌+◌ (λ m n. omega arith) x.greatest y.greatest)

  pub one_counted : r ≡ capped (one_of a b) → r ≡ capped (one_of x y)
  one_counted e = e ∙ ap₂ (λ u v. capped (one_of u v)) p q ∙ extents (omega arith) (cap_together max (λ m n. omega arith) x.greatest y.greatest)

module _ {a r : Extent} (x : Extent) (p : a ≡ capped x) (m : ℕ) where
  pub up_to_counted : (n : ℕ) → r ≡ capped (up_to m n a) → r ≡ capped (up_to m n x)
  up_to_counted n e = e ∙ ap (λ u. capped (up_to m n u)) p ∙ extents (cap_times m x.least) (cap_copies n x.greatest)

  pub or_more_counted : r ≡ capped (or_more m a) → r ≡ capped (or_more m x)
  or_more_counted e = e ∙ ap (λ u. capped (or_more m u)) p ∙ extents (cap_times m x.least) (cap_endless x.greatest)
