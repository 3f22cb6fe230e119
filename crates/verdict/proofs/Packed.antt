-- The bytes of a record by `*`, `/` and `%`, as code makes them: 64, of which a narrow record is the first.
-- Assumes nothing.
use mathlib.Core.Path.{◌≡◌, refl, sym, ap, ap₂, ◌∙◌}
use Prim.Native.Nat.{ℕ, zero, suc, ◌+◌, ◌*◌, ◌/◌, ◌%◌, ◌^◌, ◌<◌}
use mathlib.Core.Bool.{Bool, true, false}
use mathlib.Core.List.{List, [], ◌∷◌, ◌++◌, append_assoc, append-nil}
use native.Mathlib.Omega.{arith}
use native.Mathlib.Nat.{mod-lt, mod-add-div, pow-succ', pow-zero, mul_assoc, mul-one, one-mul, zero-mul, mul_comm, add-mul, mul-add, zero-add, add-zero, suc-add, div-div-eq-div-mul, one-le-pow}
use lib.ListN.{length, take, drop, get_or, length-append, length-drop, take-append-drop}
use lib.Seq.{take_at, drop_at, length-take-le}
use Rattle.theory.specs.Standing.{Standing, member, from}
use Rattle.verdict.specs.Bits.{bits, bit, from_bits, pack}
use Rattle.verdict.specs.Record.{set_bits, six_bits, wide, record_bits, record_bytes}
use Rattle.verdict.proofs.Tables.{length_bit, length_bits}
use Rattle.verdict.proofs.Finite.{digits_same, digits_less}

-- The lowest d+1 bits are the bit d and the lowest d.
mod_split : (d n : ℕ) → n % 2 ^ suc d ≡ n % 2 ^ d + 2 ^ d * (n / 2 ^ d % 2)
mod_split d n =
    let q = n / 2 ^ d in
    let h : n % 2 ^ d < 2 ^ d = mod-lt n {m = 2 ^ d} (one-le-pow d 2 (omega arith)) in
    let g : q % 2 < 2 = mod-lt q {m = 2} (omega arith) in
    let twice : 2 ^ suc d ≡ 2 ^ d * 2 = pow-succ' 2 d ∙ mul_comm 2 (2 ^ d) in
    let small : n % 2 ^ d + 2 ^ d * (q % 2) < 2 ^ suc d = rw twice (digits_less (2 ^ d) 2 (n % 2 ^ d) (q % 2) h g) in
    let low : n % 2 ^ suc d < 2 ^ suc d = mod-lt n {m = 2 ^ suc d} (one-le-pow (suc d) 2 (omega arith)) in
    let e1 : n % 2 ^ suc d + 2 ^ suc d * (n / 2 ^ suc d) ≡ n = mod-add-div n (2 ^ suc d) in
    let e2 : n % 2 ^ d + 2 ^ d * q ≡ n = mod-add-div n (2 ^ d) in
    let e3 : q % 2 + 2 * (q / 2) ≡ q = mod-add-div q 2 in
    let e4 : 2 ^ d * q ≡ 2 ^ d * (q % 2) + 2 ^ suc d * (q / 2) =
    ap (λ x. 2 ^ d * x) (sym e3) ∙ mul-add (2 ^ d) (q % 2) (2 * (q / 2)) ∙ ap (λ x. 2 ^ d * (q % 2) + x) (sym (mul_assoc (2 ^ d) 2 (q / 2)) ∙ ap (λ x. x * (q / 2)) (sym twice)) in
    (digits_same (2 ^ suc d) (n % 2 ^ suc d) (n / 2 ^ suc d) (q / 2) (n % 2 ^ d + 2 ^ d * (q % 2)) low small (omega arith)).0

-- Bits as a number again.
pub number_bits : (d n m : ℕ) (l : List ℕ) → from_bits m (bits d n ++ l) ≡ from_bits (m * 2 ^ d + n % 2 ^ d) l
unfolding bits
number_bits zero n m l = ap (λ x. from_bits x l) (let e : n % 1 < 1 = mod-lt n {m = 1} (omega arith) in rw (pow-zero, mul-one) (omega arith))
number_bits (suc d) n m l =
    number_bits d n (2 * m + n / 2 ^ d % 2) l
    ∙ ap (λ x. from_bits x l)
    (let c = n / 2 ^ d % 2 in
    let e1 : (2 * m + c) * 2 ^ d ≡ 2 * m * 2 ^ d + c * 2 ^ d = add-mul (2 * m) c (2 ^ d) in
    let e2 : 2 * m * 2 ^ d ≡ m * 2 ^ suc d = ap (λ x. x * 2 ^ d) (mul_comm 2 m) ∙ mul_assoc m 2 (2 ^ d) ∙ ap (λ x. m * x) (sym (pow-succ' 2 d)) in
    let e3 : c * 2 ^ d ≡ 2 ^ d * c = mul_comm c (2 ^ d) in
    let e4 = mod_split d n in
    omega arith)

pow_add : (a b : ℕ) → 2 ^ (a + b) ≡ 2 ^ a * 2 ^ b
pow_add zero b = rw (zero-add, pow-zero) (sym (one-mul (2 ^ b)))
pow_add (suc a) b = rw (suc-add, pow-succ' 2 (a + b), pow_add a b, pow-succ' 2 a) (sym (mul_assoc 2 (2 ^ a) (2 ^ b)))

-- The highest a bits and the lowest b.
pub bits_split : (a b n : ℕ) → bits (a + b) n ≡ bits a (n / 2 ^ b) ++ bits b n
unfolding bits
bits_split zero b n = rw zero-add
bits_split (suc a) b n =
    rw suc-add
    (ap₂ ◌∷◌
    (ap (λ x. x % 2) (ap (λ x. n / x) (pow_add a b ∙ mul_comm (2 ^ a) (2 ^ b)) ∙ sym (div-div-eq-div-mul n (2 ^ b) (2 ^ a))))
    (bits_split a b n))

-- A byte.
pub pack_byte : (n : ℕ) (x y : List ℕ) → length x ≡ 8 → pack (suc n) (x ++ y) ≡ from_bits 0 x ∷ pack n y
unfolding pack
pack_byte n x y e = ap₂ ◌∷◌ (ap (from_bits 0) (take_at x y 8 e)) (ap (pack n) (drop_at x y 8 e))

-- Bits of whole bytes, and more bits.
pub pack_more : (a b : ℕ) (x y : List ℕ) → length x ≡ 8 * a → pack (a + b) (x ++ y) ≡ pack a x ++ pack b y
unfolding pack
pack_more zero b [] y h = rw zero-add
pack_more zero b (c ∷ x) y h = absurd (omega arith)
pack_more (suc a) b x y h =
    let first : length (take 8 x) ≡ 8 = length-take-le 8 x (omega arith) in
    let split : x ++ y ≡ take 8 x ++ (drop 8 x ++ y) = ap (λ z. z ++ y) (sym (take-append-drop 8 x)) ∙ append_assoc (take 8 x) (drop 8 x) y in
    ap₂ pack (suc-add a b) split
    ∙ pack_byte (a + b) (take 8 x) (drop 8 x ++ y) first
    ∙ ap (λ z. from_bits 0 (take 8 x) ∷ z) (pack_more a b (drop 8 x) y (omega (arith, length-drop 8 x)))

number_last : (d n m : ℕ) → from_bits m (bits d n) ≡ m * 2 ^ d + n % 2 ^ d
number_last d n m = ap (from_bits m) (sym (append-nil (bits d n))) ∙ number_bits d n m []

number_two : (a x b y : ℕ) → from_bits 0 (bits a x ++ bits b y) ≡ x % 2 ^ a * 2 ^ b + y % 2 ^ b
number_two a x b y = number_bits a x 0 (bits b y) ∙ number_last b y (0 * 2 ^ a + x % 2 ^ a) ∙ ap (λ z. z * 2 ^ b + y % 2 ^ b) (rw (zero-mul, zero-add))

pub number_one : (d n : ℕ) → from_bits 0 (bits d n) ≡ n % 2 ^ d
number_one d n = number_last d n 0 ∙ rw (zero-mul, zero-add)

length_two : (a x b y : ℕ) → length (bits a x ++ bits b y) ≡ a + b
length_two a x b y = length-append (bits a x) (bits b y) ∙ ap₂ ◌+◌ (length_bits a x) (length_bits b y)

abbrev pub one : Bool → ℕ
one true = 1
one false = 0

-- (c), eight leaves to a byte: n bytes, from the leaf k on.
abbrev pub set_bytes : List ℕ → ℕ → ℕ → List ℕ
set_bytes l zero k = []
set_bytes l (suc n) k = from_bits 0 (set_bits l (from k 8)) ∷ set_bytes l n (suc (suc (suc (suc (suc (suc (suc (suc k))))))))

-- (a), four leaves to three bytes: n times three bytes.
abbrev pub six_bytes : ℕ → List ℕ → List ℕ
six_bytes zero l = []
six_bytes (suc n) l =
    (get_or l 0 0 % 64 * 4 + get_or l 1 0 / 16 % 4)
    ∷ (get_or l 1 0 % 16 * 16 + get_or l 2 0 / 4 % 16)
    ∷ (get_or l 2 0 % 4 * 64 + get_or l 3 0 % 64)
    ∷ six_bytes n (drop 4 l)

abbrev plus : ℕ → ℕ → ℕ
plus zero m = m
plus (suc n) m = suc (plus n m)

abbrev eight : ℕ → ℕ
eight zero = 0
eight (suc n) = suc (suc (suc (suc (suc (suc (suc (suc (eight n))))))))

abbrev four : ℕ → ℕ
four zero = 0
four (suc n) = suc (suc (suc (suc (four n))))

abbrev plus3 : ℕ → ℕ → ℕ
plus3 zero m = m
plus3 (suc n) m = suc (suc (suc (plus3 n m)))

set_append : (l a b : List ℕ) → set_bits l (a ++ b) ≡ set_bits l a ++ set_bits l b
set_append l [] b = refl
set_append l (p ∷ a) b = ap (λ x. bit (member p l) ++ x) (set_append l a b) ∙ sym (append_assoc (bit (member p l)) (set_bits l a) (set_bits l b))

pub length_set : (l m : List ℕ) → length (set_bits l m) ≡ length m
length_set l [] = refl
length_set l (p ∷ m) = omega (arith, length-append (bit (member p l)) (set_bits l m), length_bit (member p l), length_set l m)

pack_set : (l : List ℕ) (n k m : ℕ) (y : List ℕ) → pack (plus n m) (set_bits l (from k (eight n)) ++ y) ≡ set_bytes l n k ++ pack m y
pack_set l zero k m y = refl
pack_set l (suc n) k m y =
    let k' = suc (suc (suc (suc (suc (suc (suc (suc k))))))) in
    ap (pack (suc (plus n m))) (ap (λ x. x ++ y) (set_append l (from k 8) (from k' (eight n))) ∙ append_assoc (set_bits l (from k 8)) (set_bits l (from k' (eight n))) y)
    ∙ pack_byte (plus n m) (set_bits l (from k 8)) (set_bits l (from k' (eight n)) ++ y) (length_set l (from k 8))
    ∙ ap (λ x. from_bits 0 (set_bits l (from k 8)) ∷ x) (pack_set l n k' m y)

six_four : (n : ℕ) (l : List ℕ) → six_bits (suc (suc (suc (suc n)))) l ≡ bits 6 (get_or l 0 0) ++ (bits 6 (get_or l 1 0) ++ (bits 6 (get_or l 2 0) ++ (bits 6 (get_or l 3 0) ++ six_bits n (drop 4 l))))
six_four n [] = refl
six_four n (p ∷ []) = refl
six_four n (p ∷ q ∷ []) = refl
six_four n (p ∷ q ∷ u ∷ []) = refl
six_four n (p ∷ q ∷ u ∷ v ∷ l) = refl

-- Four numbers in three bytes.
pack_four : (m p q u v : ℕ) (y : List ℕ) → pack (suc (suc (suc m))) (bits 6 p ++ (bits 6 q ++ (bits 6 u ++ (bits 6 v ++ y))))
    ≡ (p % 64 * 4 + q / 16 % 4) ∷ (q % 16 * 16 + u / 4 % 16) ∷ (u % 4 * 64 + v % 64) ∷ pack m y
pack_four m p q u v y =
    ap (pack (suc (suc (suc m)))) regroup
    ∙ pack_byte (suc (suc m)) (bits 6 p ++ bits 2 (q / 16)) _ (length_two 6 p 2 (q / 16))
    ∙ ap₂ ◌∷◌ (number_two 6 p 2 (q / 16))
    (pack_byte (suc m) (bits 4 q ++ bits 4 (u / 4)) _ (length_two 4 q 4 (u / 4))
    ∙ ap₂ ◌∷◌ (number_two 4 q 4 (u / 4))
    (pack_byte m (bits 2 u ++ bits 6 v) y (length_two 2 u 6 v) ∙ ap (λ x. x ∷ pack m y) (number_two 2 u 6 v)))
  where
    regroup : bits 6 p ++ (bits 6 q ++ (bits 6 u ++ (bits 6 v ++ y)))
        ≡ (bits 6 p ++ bits 2 (q / 16)) ++ ((bits 4 q ++ bits 4 (u / 4)) ++ ((bits 2 u ++ bits 6 v) ++ y))
    regroup =
        ap₂ (λ a b. bits 6 p ++ (a ++ (b ++ (bits 6 v ++ y)))) (bits_split 2 4 q) (bits_split 4 2 u)
        ∙ simp append_assoc

pack_six : (n m : ℕ) (l y : List ℕ) → pack (plus3 n m) (six_bits (four n) l ++ y) ≡ six_bytes n l ++ pack m y
pack_six zero m l y = refl
pack_six (suc n) m l y =
    ap (λ x. pack (suc (suc (suc (plus3 n m)))) (x ++ y)) (six_four (four n) l)
    ∙ ap (pack (suc (suc (suc (plus3 n m))))) (simp append_assoc)
    ∙ pack_four (plus3 n m) (get_or l 0 0) (get_or l 1 0) (get_or l 2 0) (get_or l 3 0) (six_bits (four n) (drop 4 l) ++ y)
    ∙ ap (λ x. (get_or l 0 0 % 64 * 4 + get_or l 1 0 / 16 % 4) ∷ (get_or l 1 0 % 16 * 16 + get_or l 2 0 / 4 % 16) ∷ (get_or l 2 0 % 4 * 64 + get_or l 3 0 % 64) ∷ x) (pack_six n m (drop 4 l) y)

-- The 64 bytes.
number_bit : (n : ℕ) (c : Bool) → from_bits n (bit c) ≡ 2 * n + one c
number_bit n true = refl
number_bit n false = refl

bit_bits : (c : Bool) (l : List ℕ) → from_bits 0 (bit c ++ l) ≡ from_bits (one c) l
bit_bits true l = refl
bit_bits false l = refl

zeros : pack 3 (bits 24 0) ≡ 0 ∷ 0 ∷ 0 ∷ []
unfolding pack bits
zeros = refl

-- The origin fields.
abbrev pub origins : ℕ → ℕ → List ℕ
origins o b = (o / 256 % 256) ∷ (o % 256) ∷ (b % 256) ∷ []

pub pack_origins : (o b : ℕ) → pack 3 (bits 16 o ++ bits 8 b) ≡ origins o b
unfolding pack
pack_origins o b =
    ap (pack 3) (ap (λ x. x ++ bits 8 b) (bits_split 8 8 o) ∙ append_assoc (bits 8 (o / 256)) (bits 8 o) (bits 8 b))
    ∙ pack_byte 2 (bits 8 (o / 256)) _ (length_bits 8 (o / 256))
    ∙ ap₂ ◌∷◌ (number_one 8 (o / 256))
    (pack_byte 1 (bits 8 o) _ (length_bits 8 o)
    ∙ ap₂ ◌∷◌ (number_one 8 o)
    (ap (pack 1) (sym (append-nil (bits 8 b))) ∙ pack_byte 0 (bits 8 b) [] (length_bits 8 b) ∙ ap (λ x. x ∷ []) (number_one 8 b)))

rest : (o b : ℕ) (l : List ℕ) → pack 54 (bits 16 o ++ (bits 8 b ++ (six_bits 64 l ++ bits 24 0))) ≡ (o / 256 % 256) ∷ (o % 256) ∷ (b % 256) ∷ (six_bytes 16 l ++ (0 ∷ 0 ∷ 0 ∷ []))
rest o b l =
    ap (pack 54) (sym (append_assoc (bits 16 o) (bits 8 b) (six_bits 64 l ++ bits 24 0)))
    ∙ pack_more 3 51 (bits 16 o ++ bits 8 b) (six_bits 64 l ++ bits 24 0) (length_two 16 o 8 b)
    ∙ ap₂ ◌++◌ (pack_origins o b) (pack_six 16 3 l (bits 24 0) ∙ ap (λ x. six_bytes 16 l ++ x) zeros)

pub packed : (s : Standing) (origin byte : ℕ)
    → record_bytes wide s origin byte
    ≡ (2 * (length s.order % 128) + one s.first)
    ∷ (one s.some * 128)
    ∷ (set_bytes s.all 8 0 ++ ((origin / 256 % 256) ∷ (origin % 256) ∷ (byte % 256) ∷ (six_bytes 16 s.order ++ (0 ∷ 0 ∷ 0 ∷ []))))
unfolding record_bytes record_bits
packed s o b =
    ap (pack 64) (sym (append_assoc (bits 7 (length s.order)) (bit s.first) _))
    ∙ pack_byte 63 (bits 7 (length s.order) ++ bit s.first) _ (length-append (bits 7 (length s.order)) (bit s.first) ∙ ap₂ ◌+◌ (length_bits 7 (length s.order)) (length_bit s.first))
    ∙ ap₂ ◌∷◌ (number_bits 7 (length s.order) 0 (bit s.first) ∙ number_bit (0 * 2 ^ 7 + length s.order % 2 ^ 7) s.first ∙ ap (λ x. 2 * x + one s.first) (rw (zero-mul, zero-add)))
    (ap (pack 63) (sym (append_assoc (bit s.some) (bits 7 0) _))
    ∙ pack_byte 62 (bit s.some ++ bits 7 0) _ (length-append (bit s.some) (bits 7 0) ∙ ap₂ ◌+◌ (length_bit s.some) (length_bits 7 0))
    ∙ ap₂ ◌∷◌ (bit_bits s.some (bits 7 0) ∙ number_last 7 0 (one s.some) ∙ rw (add-zero))
    (pack_set s.all 8 0 54 _
    ∙ ap (λ x. set_bytes s.all 8 0 ++ x) (rest o b s.order)))
