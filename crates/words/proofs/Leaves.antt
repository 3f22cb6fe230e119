-- The least leaf of a set, and the others.
-- Assumes nothing.
use mathlib.Core.Path.{◌≡◌, refl, sym, ap, ◌∙◌}
use mathlib.Core.Bool.{Bool, true, false, not, ◌&&◌}
use Prim.Native.Nat.{ℕ, zero, suc, ◌-◌, ◌^◌, ◌/◌, ◌%◌, ◌<◌}
use native.Mathlib.Nat.{mod-lt, two-pow-succ}
use native.Mathlib.Omega.{arith}
use lib.Dec.{eqb, eqb-suc-suc, eqb-suc-zero}
use lib.Bits.{and_le_r}
use lib.Count.{count_trailing_zeros, under}
use borrow.Author.Tests.{eq-eqb}
use Rattle.words.specs.Sets.{has_bit, least_leaf, other_leaves, Parted}
use Rattle.words.proofs.Bits.{and_bit, half_bit, last_bit}

and_same : (a : Bool) → (a && a) ≡ (a && true)
and_same true = refl
and_same false = refl

-- The place t of the least bit of n: the number below n has the bits of n above it, and not that one.
record Lowest (n t k : ℕ) : Type 0 where
  below : t < k
  there : has_bit n t ≡ true
  others : (q : ℕ) → (has_bit n q && has_bit (n - 1) q) ≡ (has_bit n q && not (eqb q t))

lowest_odd : (n k : ℕ) → n % 2 ≡ 1 → Lowest n 0 (suc k)
lowest_odd n k odd = record { below = omega arith; there = last; others = others }
  where
    last : has_bit n 0 ≡ true
    last = last_bit n ∙ eq-eqb (n % 2) 1 odd

    others : (q : ℕ) → (has_bit n q && has_bit (n - 1) q) ≡ (has_bit n q && not (eqb q 0))
    others zero =
        let even : (n - 1) % 2 ≡ 0 = omega arith in
        ap (λ c. has_bit n 0 && c) (last_bit (n - 1) ∙ ap (λ d. eqb d 1) even)
    others (suc q) =
        let half : (n - 1) / 2 ≡ n / 2 = omega arith in
        ap (λ c. has_bit n (suc q) && c) (sym (half_bit (n - 1) q) ∙ ap (λ m. has_bit m q) half ∙ half_bit n q)
        ∙ and_same (has_bit n (suc q))
        ∙ ap (λ c. has_bit n (suc q) && not c) (sym (eqb-suc-zero q))

lowest_even : (n t k : ℕ) → 0 < n → n % 2 ≡ 0 → Lowest (n / 2) t k → Lowest n (suc t) (suc k)
lowest_even n t k h even l = record { below = omega (arith, l.below); there = sym (half_bit n t) ∙ l.there; others = others }
  where
    others : (q : ℕ) → (has_bit n q && has_bit (n - 1) q) ≡ (has_bit n q && not (eqb q (suc t)))
    others zero = let none : has_bit n 0 ≡ false = last_bit n ∙ ap (λ d. eqb d 1) even in rw none
    others (suc q) =
        let half : (n - 1) / 2 ≡ n / 2 - 1 = omega arith in
        rw (← half_bit n q, ← half_bit (n - 1) q, half, eqb-suc-suc q t) (l.others q)

lowest : (k n : ℕ) → 0 < n → n < 2 ^ k → Lowest n (count_trailing_zeros k n) k
unfolding count_trailing_zeros
lowest zero n h l = absurd (omega arith)
lowest (suc k) n h l = go (n % 2) refl (λ e. lowest k (n / 2) (omega arith) (omega (arith, two-pow-succ k)))
  where
    go : (d : ℕ) → n % 2 ≡ d → (n % 2 ≡ 0 → Lowest (n / 2) (count_trailing_zeros k (n / 2)) k) → Lowest n (under d (count_trailing_zeros k (n / 2))) (suc k)
    go zero e half = lowest_even n (count_trailing_zeros k (n / 2)) k h e (half e)
    go (suc d) e half = lowest_odd n k (omega (arith, mod-lt n {m = 2} (omega arith)))

-- The least leaf of a set that has one.
pub parted : (x : ℕ) → 0 < x → x < 18446744073709551616 → Parted x (least_leaf x) (other_leaves x)
parted x h l =
    let low = lowest 64 x h l in
    record {
      below = low.below;
      there = low.there;
      others = λ p. and_bit x (x - 1) p ∙ low.others p;
      less = omega (arith, and_le_r x (x - 1));
    }
