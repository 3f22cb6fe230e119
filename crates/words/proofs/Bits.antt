-- The bits of a union, of an intersection, of a single leaf and of a half; a number of 64 bits has no others.
-- Assumes nothing.
use mathlib.Core.Path.{◌≡◌, refl, sym, ap, ◌∙◌, subst}
use mathlib.Core.Bool.{Bool, true, false, ◌&&◌, ◌||◌}
use Prim.Native.Nat.{ℕ, zero, suc, ◌+◌, ◌-◌, ◌*◌, ◌^◌, ◌/◌, ◌%◌, ◌≤◌, ◌<◌, max, min}
use native.Mathlib.Nat.{div_self, div-one, div-eq_of_lt, div-div-eq-div-mul, mul-div_right, mul_comm, pow-suc, one-mul, mod-eq_of_lt, mod-lt, zero-div, lt_of_lt_of_le}
use native.Mathlib.Omega.{arith}
use native.Mathlib.Decide.{dec_lt}
use lib.Dec.{eqb}
use lib.Pow.{pow_pos, pow-lt, pow-add, pow_mono}
use lib.Bits.{bit_or, bit_and, or_step, or_shr, and_step, and_shr}
use borrow.Author.Tests.{eq-eqb, ne_eqb, lt-ltb}
use Rattle.words.specs.Sets.{has_bit, with_leaf, with_leaf_if}

or_digit : (x y q : ℕ) → bit_or x y / 2 ^ q % 2 ≡ max (x / 2 ^ q % 2) (y / 2 ^ q % 2)
or_digit x y q = rw (or_shr x y q) (omega (arith, or_step (x / 2 ^ q) (y / 2 ^ q)))

-- An operation on two binary digits, and its test: by four cases.
by_digits : (f : ℕ → ℕ → ℕ) (g : Bool → Bool → Bool) → eqb (f 0 0) 1 ≡ g false false → eqb (f 0 1) 1 ≡ g false true → eqb (f 1 0) 1 ≡ g true false → eqb (f 1 1) 1 ≡ g true true
    → (a b : ℕ) → a < 2 → b < 2 → eqb (f a b) 1 ≡ g (eqb a 1) (eqb b 1)
by_digits f g p q r s zero zero h k = p
by_digits f g p q r s zero (suc zero) h k = q
by_digits f g p q r s (suc zero) zero h k = r
by_digits f g p q r s (suc zero) (suc zero) h k = s
by_digits f g p q r s zero (suc (suc b)) h k = absurd (omega arith)
by_digits f g p q r s (suc zero) (suc (suc b)) h k = absurd (omega arith)
by_digits f g p q r s (suc (suc a)) b h k = absurd (omega arith)

pub or_bit : (x y q : ℕ) → has_bit (bit_or x y) q ≡ (has_bit x q || has_bit y q)
or_bit x y q = rw (or_digit x y q) (by_digits max ◌||◌ refl refl refl refl (x / 2 ^ q % 2) (y / 2 ^ q % 2) (mod-lt _ (omega arith)) (mod-lt _ (omega arith)))

pub no_bit : (q : ℕ) → has_bit 0 q ≡ false
no_bit q = rw (zero-div (2 ^ q))

pow_digit : (p : ℕ) → 2 ^ p / 2 ^ p % 2 ≡ 1
pow_digit p = rw (div_self (pow_pos p))

pow_digit_below : (p q : ℕ) → p < q → 2 ^ p / 2 ^ q % 2 ≡ 0
pow_digit_below p q h = rw (div-eq_of_lt (pow-lt h))

pow_digit_above : (q k : ℕ) → 2 ^ (q + suc k) / 2 ^ q % 2 ≡ 0
pow_digit_above q k = rw (pow-add 2 q (suc k), mul-div_right (2 ^ suc k) (pow_pos q), pow-suc 2 k) (omega arith)

pub pow_bit : (p q : ℕ) → has_bit (2 ^ p) q ≡ eqb q p
pow_bit p q = go (dec_lt p q) (dec_lt q p)
  where
    go : Dec (p < q) → Dec (q < p) → has_bit (2 ^ p) q ≡ eqb q p
    go (yes l) d = rw (pow_digit_below p q l, ne_eqb q p (λ e. omega arith))
    go (no n) (yes l) =
        let e : q + suc (p - q - 1) ≡ p = omega arith in
        rw (ne_eqb q p (λ e. omega arith), subst (λ x. 2 ^ x / 2 ^ q % 2 ≡ 0) e (pow_digit_above q (p - q - 1)))
    go (no n) (no m) =
        let e : p ≡ q = omega arith in
        rw (e, pow_digit q, eq-eqb q q refl)

-- A number of 64 bits has no others.
pub no_more : (x q : ℕ) → x < 18446744073709551616 → 64 ≤ q → has_bit x q ≡ false
no_more x q h k = let e : x / 2 ^ q ≡ 0 = div-eq_of_lt (lt_of_lt_of_le {m = 2 ^ 64} h (pow_mono k)) in rw e

-- The number of w bits with the one bit p, as the code makes it.
pub shifted : (w p : ℕ) → p < w → 1 * 2 ^ p % 2 ^ w ≡ 2 ^ p
shifted w p h = rw (one-mul (2 ^ p)) (mod-eq_of_lt {n = 2 ^ p} {m = 2 ^ w} (pow-lt h))

-- One leaf more.
pub with_bit : (x p q : ℕ) → p < 64 → has_bit (with_leaf x p) q ≡ (has_bit x q || eqb q p)
with_bit x p q h = rw (lt-ltb p 64 h, or_bit x (2 ^ p) q, pow_bit p q)

pub with_if_bit : (is : Bool) (x p q : ℕ) → p < 64 → has_bit (with_leaf_if is x p) q ≡ (has_bit x q || (is && eqb q p))
with_if_bit true x p q h = with_bit x p q h
with_if_bit false x p q h = sym (or_false (has_bit x q))
  where
    or_false : (a : Bool) → (a || false) ≡ a
    or_false true = refl
    or_false false = refl

and_digit : (x y q : ℕ) → bit_and x y / 2 ^ q % 2 ≡ min (x / 2 ^ q % 2) (y / 2 ^ q % 2)
and_digit x y q = rw (and_shr x y q) (omega (arith, and_step (x / 2 ^ q) (y / 2 ^ q)))

pub and_bit : (x y q : ℕ) → has_bit (bit_and x y) q ≡ (has_bit x q && has_bit y q)
and_bit x y q = rw (and_digit x y q) (by_digits min ◌&&◌ refl refl refl refl (x / 2 ^ q % 2) (y / 2 ^ q % 2) (mod-lt _ (omega arith)) (mod-lt _ (omega arith)))

-- The bits of a half, and the last bit.
pub half_bit : (z q : ℕ) → has_bit (z / 2) q ≡ has_bit z (suc q)
half_bit z q = ap (λ n. eqb (n % 2) 1) (div-div-eq-div-mul z 2 (2 ^ q) ∙ ap (λ n. z / n) (mul_comm 2 (2 ^ q) ∙ sym (pow-suc 2 q)))

pub last_bit : (z : ℕ) → has_bit z 0 ≡ eqb (z % 2) 1
last_bit z = ap (λ n. eqb (n % 2) 1) (div-one z)
