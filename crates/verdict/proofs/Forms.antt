-- The forms of a record: its three parts in each form, what the narrow one has room for, and that it is the wide one without the zero bytes at its end.
-- Assumes nothing.
use mathlib.Core.Path.{◌≡◌, refl, sym, ap, ap₂, ◌∙◌}
use Prim.Native.Nat.{ℕ, zero, suc, ◌+◌, ◌-◌, ◌*◌, ◌≤◌}
use mathlib.Core.List.{List, [], ◌∷◌, ◌++◌, append_assoc}
use native.Mathlib.Omega.{arith}
use native.Mathlib.Nat.{zero-div, suc-add, zero-add}
use lib.ListN.{length, take, length-append, replicate, replicate-append-replicate}
use lib.Seq.{take_at}
use Rattle.theory.specs.Standing.{Standing, from}
use Rattle.verdict.specs.Bits.{bits, bit, pack}
use Rattle.verdict.specs.Record.{Form, narrow, wide, spare_bits, set_bits, six_bits, record_bits, record_bytes}
use Rattle.verdict.specs.Code.Held.{held}
use Rattle.verdict.proofs.Tables.{length_bits, length_bit, length_pack, length_record, record_size}
use Rattle.verdict.proofs.Packed.{origins, pack_more, pack_origins}

-- The narrow form of n leaves has room for them, and 13 to 61 bytes if they are at most 64.
pub narrow_room : (n : ℕ) → 104 + 6 * n ≤ 8 * (narrow n).bytes
narrow_room n = omega arith

pub narrow_least : (n : ℕ) → 13 ≤ (narrow n).bytes
narrow_least n = omega arith

pub narrow_most : (n : ℕ) → n ≤ 64 → (narrow n).bytes ≤ 61
narrow_most n h = omega arith

-- Zeros, as bits, as leaf numbers and as bytes.
bits_zero : (d : ℕ) → bits d 0 ≡ replicate d 0
unfolding bits
bits_zero zero = refl
bits_zero (suc d) = ap₂ ◌∷◌ (rw zero-div (refl)) (bits_zero d)

six_zero : (m : ℕ) → six_bits m [] ≡ replicate (6 * m) 0
six_zero zero = refl
six_zero (suc m) =
    let e : 6 * suc m ≡ 6 + 6 * m = omega arith in
    ap₂ ◌++◌ (bits_zero 6) (six_zero m) ∙ replicate-append-replicate 6 (6 * m) 0 ∙ ap (λ k. replicate k 0) (sym e)

pack_zeros : (n : ℕ) → pack n (replicate (8 * n) 0) ≡ replicate n 0
unfolding pack
pack_zeros zero = refl
pack_zeros (suc n) = let e : 8 * suc n ≡ suc (suc (suc (suc (suc (suc (suc (suc (8 * n)))))))) = omega arith in rw e (ap (λ x. 0 ∷ x) (pack_zeros n))

-- Leaf numbers past those of the list are zero.
six_more : (n m : ℕ) (l : List ℕ) → length l ≤ n → six_bits (n + m) l ≡ six_bits n l ++ replicate (6 * m) 0
six_more zero m [] h = rw zero-add (six_zero m)
six_more zero m (p ∷ l) h = absurd (omega arith)
six_more (suc n) m [] h = rw suc-add (ap (λ x. bits 6 0 ++ x) (six_more n m [] (omega arith)) ∙ sym (append_assoc (bits 6 0) (six_bits n []) (replicate (6 * m) 0)))
six_more (suc n) m (p ∷ l) h = rw suc-add (ap (λ x. bits 6 p ++ x) (six_more n m l (omega arith)) ∙ sym (append_assoc (bits 6 p) (six_bits n l) (replicate (6 * m) 0)))

-- What stands before the origin fields, in 10 bytes, and what stands after them.
front_bits : Standing → List ℕ
front_bits s = bits 7 (length s.order) ++ (bit s.first ++ (bit s.some ++ (bits 7 0 ++ set_bits s.all (from 0 64))))

back_bits : Form → Standing → List ℕ
back_bits f s = six_bits f.numbers s.order ++ bits (spare_bits f) 0

pub front : Standing → List ℕ
front s = pack 10 (front_bits s)

pub back : Form → Standing → List ℕ
back f s = pack (f.bytes - 13) (back_bits f s)

pub front_size : (s : Standing) → length (front s) ≡ 10
unfolding front
front_size s = length_pack 10 (front_bits s)

front_80 : (s : Standing) → length (front_bits s) ≡ 80
unfolding front_bits
front_80 s = simp (length-append, length_bits, length_bit) refl

-- A RECORD IN THREE PARTS: the standing is told before and after the origin fields.
pub record_parts : (f : Form) → 13 ≤ f.bytes → (s : Standing) (o b : ℕ) → record_bytes f s o b ≡ front s ++ (origins o b ++ back f s)
unfolding record_bytes record_bits front back front_bits back_bits
record_parts f h s o b =
    let whole : f.bytes ≡ 10 + (3 + (f.bytes - 13)) = omega arith in
    let parts : record_bits f s o b ≡ front_bits s ++ ((bits 16 o ++ bits 8 b) ++ back_bits f s) = simp append_assoc refl in
    let fields : length (bits 16 o ++ bits 8 b) ≡ 8 * 3 = simp (length-append, length_bits) refl in
    ap₂ pack whole parts
    ∙ pack_more 10 (3 + (f.bytes - 13)) (front_bits s) ((bits 16 o ++ bits 8 b) ++ back_bits f s) (front_80 s)
    ∙ ap (λ x. pack 10 (front_bits s) ++ x)
    (pack_more 3 (f.bytes - 13) (bits 16 o ++ bits 8 b) (back_bits f s) fields ∙ ap (λ x. x ++ pack (f.bytes - 13) (back_bits f s)) (pack_origins o b))

-- Of the bytes that hold a record, the first are the record.
pub take_held : (f : Form) (s : Standing) (o b : ℕ) → take f.bytes (held (record_bytes f s o b)) ≡ record_bytes f s o b
take_held f s o b = take_at (record_bytes f s o b) _ f.bytes (record_size f s o b)

module _ (n : ℕ) (s : Standing) (o b : ℕ) (few : length s.order ≤ n) (most : n ≤ 64) where
  -- The bytes that the wide form has more.
  more : ℕ
  more = 64 - (narrow n).bytes

  bits_more : record_bits wide s o b ≡ record_bits (narrow n) s o b ++ replicate (8 * more) 0
  unfolding record_bits more
  bits_more =
      let l = s.order in
      let k = spare_bits (narrow n) in
      let left : 64 ≡ n + (64 - n) = omega arith in
      let zeros : 6 * (64 - n) + 24 ≡ k + 8 * (64 - (narrow n).bytes) = omega arith in
      let six : six_bits 64 l ++ bits 24 0 ≡ six_bits n l ++ replicate (6 * (64 - n) + 24) 0 =
      ap₂ ◌++◌ (ap (λ i. six_bits i l) left ∙ six_more n (64 - n) l few) (bits_zero 24) ∙ append_assoc (six_bits n l) (replicate (6 * (64 - n)) 0) (replicate 24 0) ∙ ap (λ z. six_bits n l ++ z) (replicate-append-replicate (6 * (64 - n)) 24 0) in
      let narrower : (six_bits n l ++ bits k 0) ++ replicate (8 * (64 - (narrow n).bytes)) 0 ≡ six_bits n l ++ replicate (k + 8 * (64 - (narrow n).bytes)) 0 =
      append_assoc (six_bits n l) (bits k 0) (replicate (8 * (64 - (narrow n).bytes)) 0) ∙ ap (λ z. six_bits n l ++ z) (ap (λ z. z ++ replicate (8 * (64 - (narrow n).bytes)) 0) (bits_zero k) ∙ replicate-append-replicate k (8 * (64 - (narrow n).bytes)) 0) in
      let same : six_bits 64 l ++ bits 24 0 ≡ (six_bits n l ++ bits k 0) ++ replicate (8 * (64 - (narrow n).bytes)) 0 = six ∙ ap (λ i. six_bits n l ++ replicate i 0) zeros ∙ sym narrower in
      rw same (simp append_assoc)

  -- THE WIDE RECORD IS THE NARROW ONE AND ZERO BYTES,
  pub wide_narrow : record_bytes wide s o b ≡ record_bytes (narrow n) s o b ++ replicate (64 - (narrow n).bytes) 0
  unfolding record_bytes more
  wide_narrow =
      let w = (narrow n).bytes in
      let whole : 64 ≡ w + (64 - w) = omega (arith, narrow_most n most) in
      ap₂ pack whole bits_more
      ∙ pack_more w (64 - w) (record_bits (narrow n) s o b) (replicate (8 * (64 - w)) 0) (length_record (narrow n) (narrow_room n) s o b)
      ∙ ap (λ z. pack w (record_bits (narrow n) s o b) ++ z) (pack_zeros (64 - w))

  -- which is how code holds it.
  pub held_record : held (record_bytes (narrow n) s o b) ≡ record_bytes wide s o b
  held_record = ap (λ k. record_bytes (narrow n) s o b ++ replicate (64 - k) 0) (record_size (narrow n) s o b) ∙ sym wide_narrow
