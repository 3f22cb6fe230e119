-- (c): the bits of a byte the other way round, a set put into eight bytes, and taken out of them.
-- Assumes nothing.
use mathlib.Core.Path.{◌≡◌, refl, sym, ap, ap₂, ◌∙◌}
use mathlib.Core.Bool.{Bool, true, false}
use mathlib.Core.List.{List, ◌∷◌, ◌++◌}
use Prim.Native.Nat.{ℕ, zero, suc, ◌+◌, ◌-◌, ◌*◌, ◌/◌, ◌%◌, ◌^◌, ◌≤◌, ◌<◌}
use native.Mathlib.Nat.{add-zero, zero-add, add-mul, mul-add, mul_comm, mul_assoc, div-one, div-div-eq-div-mul, mod-lt, pow-suc, pow-succ', pow-le-pow_right, lt_of_lt_of_le}
use native.Mathlib.Numerals.{add-one}
use native.Mathlib.Omega.{arith}
use lib.Arith.{digits_lt}
use lib.ListN.{get_or, set, drop}
use lib.Seq.{sets, get_or-drop, drop-drop}
use lib.Dec.{eqb}
use lib.Pow.{shr-shr}
use Rattle.theory.specs.Standing.{member, from}
use Rattle.words.specs.Sets.{has_bit}
use Rattle.words.proofs.Bits.{no_more}
use Rattle.verdict.specs.Bits.{bit, from_bits}
use Rattle.verdict.specs.Record.{set_bits}
use Rattle.verdict.proofs.Packed.{set_bytes}
use Rattle.records.specs.Bytes.{one, turn, bytes_of, set_of}

-- The eight bits as the code adds them.
eight : (a b c d e f g h : ℕ)
    → a * 128 + b * 64 + c * 32 + d * 16 + e * 8 + f * 4 + g * 2 + h ≡ a * 128 + (b * 64 + (c * 32 + (d * 16 + (e * 8 + (f * 4 + (g * 2 + (h * 1 + 0)))))))
eight a b c d e f g h = omega arith

pub turn_eight : (y : ℕ)
    → y % 2 * 128 + y / 2 % 2 * 64 + y / 4 % 2 * 32 + y / 8 % 2 * 16 + y / 16 % 2 * 8 + y / 32 % 2 * 4 + y / 64 % 2 * 2 + y / 128 % 2 ≡ turn 8 y
unfolding turn
turn_eight y = eight _ _ _ _ _ _ _ _ ∙ simp div-div-eq-div-mul

pub turn_less : (d y : ℕ) → turn d y < 2 ^ d
unfolding turn
turn_less zero y = omega arith
turn_less (suc d) y = let h : y % 2 < 2 = mod-lt y {m = 2} (omega arith) in rw (pow-succ' 2 d) (digits_lt h (turn_less d (y / 2)))

-- Putting (c) in: one byte more.
pub put_more : (v : List ℕ) (i x : ℕ) → i < 10 → sets (set v i (turn 8 x)) (i + 1) (bytes_of (10 - (i + 1)) (x / 256)) ≡ sets v i (bytes_of (10 - i) x)
unfolding bytes_of
put_more v i x h =
    let n : 10 - i ≡ suc (10 - (i + 1)) = omega arith in
    rw (n, add-one i)

-- Taking it out: one byte more, and there is room for it.
pub set_more : (v : List ℕ) (i : ℕ) → 0 < i → i ≤ 10 → set_of (10 - i) (drop i v) * 256 + turn 8 (get_or v (i - 1) 0) ≡ set_of (10 - (i - 1)) (drop (i - 1) v)
unfolding set_of
set_more v i h k =
    let n : 10 - (i - 1) ≡ suc (10 - i) = omega arith in
    let e : i - 1 + 1 ≡ i = omega arith in
    rw (n, get_or-drop (i - 1) v 0 0, add-zero, drop-drop 1 (i - 1) v, e)

set_less : (n : ℕ) (v : List ℕ) → set_of n v < 256 ^ n
unfolding set_of
set_less zero v = omega arith
set_less (suc n) v = rw (pow-suc 256 n) (digits_lt (set_less n (drop 1 v)) (turn_less 8 (get_or v 0 0)))

pub set_room : (n : ℕ) (v : List ℕ) → n < 8 → set_of n v < 256 ^ 7
set_room n v h = lt_of_lt_of_le (set_less n v) (pow-le-pow_right {n = 256} (omega arith) {i = n} {j = 7} (omega arith))

-- One leaf, as a bit and as a number.
bit_more : (m : ℕ) (c : Bool) (l : List ℕ) → from_bits m (bit c ++ l) ≡ from_bits (2 * m + one c) l
bit_more m true l = refl
bit_more m false l = refl

one_bit : (d : ℕ) → d < 2 → one (eqb d 1) ≡ d
one_bit zero h = refl
one_bit (suc zero) h = refl
one_bit (suc (suc d)) h = absurd (omega arith)

pub bit_one : (c : Bool) → eqb (one c) 1 ≡ c
bit_one true = refl
bit_one false = refl

pub one_less : (c : Bool) → one c < 2
one_less true = omega arith
one_less false = omega arith

-- The bits of a number without its lowest d.
shift_bit : (y d j : ℕ) → has_bit (y / 2 ^ d) j ≡ has_bit y (d + j)
shift_bit y d j = ap (λ x. eqb (x % 2) 1) (shr-shr y d j)

-- A byte of (c) is the byte of the set turned.
turn_bits : (l : List ℕ) (d k y m : ℕ) → ((j : ℕ) → j < d → member (k + j) l ≡ has_bit y j) → from_bits m (set_bits l (from k d)) ≡ m * 2 ^ d + turn d y
unfolding turn
turn_bits l zero k y m h = omega arith
turn_bits l (suc d) k y m h =
    let first : member k l ≡ has_bit y 0 = rw (add-zero k) at (h 0 (omega arith)) in
    let digit : one (member k l) ≡ y % 2 = ap one first ∙ (rw (div-one y) (one_bit (y % 2) (omega arith))) in
    let rest = turn_bits l d (suc k) (y / 2) (2 * m + one (member k l)) λ j g. let e : suc k + j ≡ k + (1 + j) = omega arith in rw e (h (1 + j) (omega arith) ∙ sym (shift_bit y 1 j)) in
    let e1 = add-mul (2 * m) (y % 2) (2 ^ d) in
    let e2 : 2 * m * 2 ^ d ≡ m * 2 ^ suc d = ap (λ x. x * 2 ^ d) (mul_comm 2 m) ∙ mul_assoc m 2 (2 ^ d) ∙ ap (λ x. m * x) (sym (pow-succ' 2 d)) in
    bit_more m (member k l) (set_bits l (from (suc k) d)) ∙ rest ∙ rw digit (omega arith)

-- The bytes of (c) are those of a set with these leaves.
pub bytes_right : (l : List ℕ) (n k y : ℕ) → ((j : ℕ) → member (k + j) l ≡ has_bit y j) → bytes_of n y ≡ set_bytes l n k
unfolding bytes_of
bytes_right l zero k y h = refl
bytes_right l (suc n) k y h =
    ap₂ ◌∷◌ (sym (turn_bits l 8 k y 0 (λ j g. h j) ∙ zero-add (turn 8 y)))
    (bytes_right l n (suc (suc (suc (suc (suc (suc (suc (suc k)))))))) (y / 256) λ j.
    let e : suc (suc (suc (suc (suc (suc (suc (suc k))))))) + j ≡ k + (8 + j) = omega arith in
    rw e (h (8 + j) ∙ sym (shift_bit y 8 j)))

-- The leaves of l from k on, d of them, as a set: k is its lowest bit.
low : List ℕ → ℕ → ℕ → ℕ
low l zero k = 0
low l (suc d) k = one (member k l) + 2 * low l d (suc k)

-- Turning their bits, of which k's is the highest, gives it.
turn_low : (l : List ℕ) (d k e m : ℕ) → turn (d + e) (from_bits m (set_bits l (from k d))) ≡ 2 ^ e * low l d k + turn e m
unfolding low turn
turn_low l zero k e m = rw (zero-add e) (omega arith)
turn_low l (suc d) k e m =
    let c = one (member k l) in
    let half : (2 * m + c) / 2 ≡ m = omega (arith, one_less (member k l)) in
    let odd : (2 * m + c) % 2 ≡ c = omega (arith, one_less (member k l)) in
    let n : suc d + e ≡ d + suc e = omega arith in
    let z = low l d (suc k) in
    let e1 = mul-add (2 ^ e) c (2 * z) in
    let e2 : 2 ^ e * (2 * z) ≡ 2 * 2 ^ e * z = sym (mul_assoc (2 ^ e) 2 z) ∙ ap (λ x. x * z) (mul_comm (2 ^ e) 2) in
    rw (n, bit_more m (member k l) (set_bits l (from (suc k) d)), turn_low l d (suc k) (suc e) (2 * m + c), half, odd, pow-succ' 2 e, mul_comm c (2 ^ e)) (omega arith)

low_bit : (l : List ℕ) (d k p : ℕ) → p < d → has_bit (low l d k) p ≡ member (k + p) l
unfolding low
low_bit l zero k p h = absurd (omega arith)
low_bit l (suc d) k zero h =
    let e : (one (member k l) + 2 * low l d (suc k)) % 2 ≡ one (member k l) = omega (arith, one_less (member k l)) in
    rw (div-one, e, add-zero) (bit_one (member k l))
low_bit l (suc d) k (suc p) h =
    let x = one (member k l) + 2 * low l d (suc k) in
    let half : x / 2 ≡ low l d (suc k) = omega (arith, one_less (member k l)) in
    let e1 : suc p ≡ 1 + p = omega arith in
    let e2 : k + (1 + p) ≡ suc k + p = omega arith in
    rw (e1, ← shift_bit x 1 p, half, e2) (low_bit l d (suc k) p (omega arith))

turn_none : turn 0 0 ≡ 0
unfolding turn
turn_none = refl

-- The set taken out of the bytes of (c).
set_low : (l : List ℕ) (n k : ℕ) (y : List ℕ) → set_of n (set_bytes l n k ++ y) ≡ low l (8 * n) k
unfolding set_of low
set_low l zero k y = refl
set_low l (suc n) k y =
    let e : 8 * suc n ≡ suc (suc (suc (suc (suc (suc (suc (suc (8 * n)))))))) = omega arith in
    let t : turn 8 (from_bits 0 (set_bits l (from k 8))) ≡ low l 8 k = turn_low l 8 k 0 0 ∙ omega (arith, turn_none) in
    rw (e, set_low l n (suc (suc (suc (suc (suc (suc (suc (suc k)))))))) y, t) (omega arith)

pub set_right : (l y : List ℕ) (p : ℕ) → p < 64 → has_bit (set_of 8 (set_bytes l 8 0 ++ y)) p ≡ member p l
set_right l y p h = rw (set_low l 8 0 y, low_bit l 64 0 p h, zero-add p)

pub set_few : (v : List ℕ) (p : ℕ) → 64 ≤ p → has_bit (set_of 8 v) p ≡ false
set_few v p h = no_more (set_of 8 v) p (set_less 8 v) h
