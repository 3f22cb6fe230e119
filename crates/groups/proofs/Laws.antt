-- "Two bytes share a group exactly if each leaf's set holds both or neither": equal masks say just that.
-- Assumes nothing.
use mathlib.Core.Path.{◌≡◌, refl, sym, ap, ◌∙◌}
use mathlib.Core.Bool.{false, true≢false}
use mathlib.Core.List.{List}
use mathlib.Core.Logic.{◌↔◌}
use Prim.Native.Nat.{ℕ, zero, suc, ◌+◌, ◌^◌, ◌/◌, ◌%◌, ◌≤◌, ◌<◌}
use native.Mathlib.Nat.{mod-lt, two-pow-succ}
use native.Mathlib.Omega.{arith}
use native.Mathlib.Decide.{dec_lt}
use lib.ListN.{get_or}
use lib.Dec.{eqb, eqb→eq}
use lib.Pow.{pow_mono, shr-shr}
use Rattle.theory.specs.Pattern.{Re, count, has, SameGroup}
use Rattle.words.specs.Sets.{has_bit}
use Rattle.theory.proofs.Tests.{same_test}
use Rattle.groups.specs.Numbers.{shares, groups_by, groups_of}
use Rattle.groups.specs.Turns.{same}
use Rattle.groups.proofs.Numbers.{same_groups, shares_is}
use Rattle.groups.proofs.Turns.{alike_same}

digit : (a b : ℕ) → a < 2 → b < 2 → eqb a 1 ≡ eqb b 1 → a ≡ b
digit zero zero h k e = refl
digit zero (suc zero) h k e = absurd (true≢false (sym e))
digit zero (suc (suc b)) h k e = absurd (omega arith)
digit (suc zero) zero h k e = absurd (true≢false e)
digit (suc zero) (suc zero) h k e = refl
digit (suc zero) (suc (suc b)) h k e = absurd (omega arith)
digit (suc (suc a)) b h k e = absurd (omega arith)

low_bit : (x y : ℕ) → has_bit x 0 ≡ has_bit y 0 → x % 2 ≡ y % 2
low_bit x y e =
    let d : x / 1 % 2 ≡ y / 1 % 2 = digit (x / 1 % 2) (y / 1 % 2) (mod-lt _ (omega arith)) (mod-lt _ (omega arith)) e in
    omega arith

half_bit : (x p : ℕ) → has_bit (x / 2) p ≡ has_bit x (1 + p)
half_bit x p = ap (λ y. eqb (y % 2) 1) (shr-shr x 1 p)

bits_below : (n x y : ℕ) → x < 2 ^ n → y < 2 ^ n → ((p : ℕ) → has_bit x p ≡ has_bit y p) → x ≡ y
bits_below zero x y h k e = omega arith
bits_below (suc n) x y h k e =
    let high = bits_below n (x / 2) (y / 2) (omega (arith, two-pow-succ n)) (omega (arith, two-pow-succ n)) (λ p. half_bit x p ∙ e (1 + p) ∙ sym (half_bit y p)) in
    omega (arith, low_bit x y (e 0))

small : (x : ℕ) → x < 2 ^ x
small zero = omega arith
small (suc x) = omega (arith, small x, two-pow-succ x)

smaller : (x n : ℕ) → x ≤ n → x < 2 ^ n
smaller x n h = omega (arith, small x, pow_mono h)

-- Two numbers with the same bits are equal.
pub bits_eq : (x y : ℕ) → ((p : ℕ) → has_bit x p ≡ has_bit y p) → x ≡ y
bits_eq x y = bits_below (x + y) x y (smaller x (x + y) (omega arith)) (smaller y (x + y) (omega arith))

-- The masks of the pattern r: bit p of a byte's mask says whether the set of the leaf p holds the byte, and there are no other bits.
module _ (r : Re) (masks : List ℕ) (are : (b p : ℕ) → b < 256 → p < count r → has r p b ≡ has_bit (get_or masks b 0) p)
    (no_more : (b p : ℕ) → b < 256 → count r ≤ p → has_bit (get_or masks b 0) p ≡ false) where
  -- Each leaf's set holds both bytes or neither exactly if their masks are equal,
  pub same_masks : (b c : ℕ) → b < 256 → c < 256 → SameGroup r b c ↔ (get_or masks b 0 ≡ get_or masks c 0)
  same_masks b c hb hc = (λ s. bits_eq _ _ (λ p. bit s p (dec_lt p (count r))), λ e p l. are b p hb l ∙ ap (λ x. has_bit x p) e ∙ sym (are c p hc l))
    where
      bit : SameGroup r b c → (p : ℕ) → Dec (p < count r) → has_bit (get_or masks b 0) p ≡ has_bit (get_or masks c 0) p
      bit s p (yes l) = sym (are b p hb l) ∙ s p l ∙ are c p hc l
      bit s p (no l) = no_more b p hb (omega arith) ∙ sym (no_more c p hc (omega arith))

  -- so the groups of bytes with equal masks are the pattern's.
  pub mask_groups : groups_by (same masks) ≡ groups_of r
  mask_groups =
      same_groups (same masks) (shares r)
      (λ b c hb hc. let s = same_masks b c hb hc in
      same_test (same masks b c) (shares r b c)
      (λ t. (shares_is r b c).1 (s.1 (eqb→eq (get_or masks b 0) (get_or masks c 0) t)))
      (λ t. alike_same masks b c (s.0 ((shares_is r b c).0 t))))
