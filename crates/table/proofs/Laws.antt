-- Where the bytes of a slot stand in the table, and what the fields of a record say: a comparison of two finds no unequal byte just where their standings are equal,
-- and the origin fields hold the numbers put there.
-- Assumes nothing.
use mathlib.Core.Path.{◌≡◌, sym, ap, ap₂, ◌∙◌}
use Prim.Native.Nat.{ℕ, zero, suc, ◌+◌, ◌*◌, ◌/◌, ◌≤◌, ◌<◌}
use mathlib.Core.Bool.{true}
use mathlib.Core.List.{List, ◌++◌}
use native.Mathlib.Omega.{arith}
use native.Mathlib.Nat.{mul-suc, mul-zero}
use native.Mathlib.Decide.{dec_lt}
use borrow.Author.Tests.{lt-ltb, le-ltb}
use lib.ListN.{length, get_or, take, drop, length-drop}
use lib.Seq.{sets, length-sets, length-take-le, get_or-take, get_or-drop, take_at, drop-append-add, get_or-append-add}
use Rattle.theory.specs.Pattern.{Re, Numbered, count}
use Rattle.theory.specs.Standing.{Standing, standing}
use Rattle.verdict.specs.Record.{Form, record_bytes}
use Rattle.verdict.proofs.Packed.{origins}
use Rattle.verdict.proofs.Forms.{front, back, front_size, record_parts}
use Rattle.verdict.proofs.Tables.{record_size, times_fit}
use Rattle.verdict.proofs.Injective.{record_injective}
use Rattle.table.specs.Slots.{slot_count, slot_at, if_slot, put}
use Rattle.table.specs.Looks.{same_standing}
use Rattle.table.proofs.Comparisons.{equal_same, same_equal}

-- Of a width that no record has there is no slot, of another as many as fit.
pub slots_below : (w n : ℕ) → w < 13 → slot_count w n ≡ 0
slots_below w n h = rw (lt-ltb w 13 h)

pub slots_above : (w n : ℕ) → 64 < w → slot_count w n ≡ 0
slots_above w n h = rw (le-ltb w 13 (omega arith), lt-ltb 64 w h)

pub slots_are : (w n : ℕ) → 13 ≤ w → w ≤ 64 → slot_count w n ≡ n / w
slots_are w n least most = rw (le-ltb w 13 least, le-ltb 64 w most)

-- So where there is a slot, its width is one that a record has.
pub slots_width : (w n k : ℕ) → k < slot_count w n → (13 ≤ w) × (w ≤ 64)
slots_width w n k h =
    elim (dec_lt w 13) [
      | yes l ↦ absurd (omega (arith, slots_below w n l))
      | no l ↦ elim (dec_lt 64 w) [ yes m ↦ absurd (omega (arith, slots_above w n m)) | no m ↦ (omega arith, omega arith) ]
    ]

-- A slot's bytes are in the table, and so are its origin fields, which end before byte 13.
pub slot_fits : (w n k : ℕ) → k < slot_count w n → w * k + w ≤ n
slot_fits w n k h =
    let (least, most) = slots_width w n k h in
    omega (arith, mul-suc w k, times_fit w n (suc k) (omega (arith, slots_are w n least most)))

pub slots_fit : (w n k : ℕ) → k ≤ slot_count w n → w * k ≤ n
slots_fit w n zero h = omega (arith, mul-zero w)
slots_fit w n (suc k) h = omega (arith, slot_fits w n k h, mul-suc w k)

pub fields_fit : (w n k : ℕ) → k < slot_count w n → w * k + 13 ≤ n
fields_fit w n k h = let (least, most) = slots_width w n k h in omega (arith, slot_fits w n k h)

-- Where the table has a slot k, and where it does not.
pub slot_there : {A : Type 0} (w : ℕ) (t : List ℕ) (k : ℕ) (x y : A) → k < slot_count w (length t) → if_slot w t k x y ≡ x
slot_there w t k x y h = rw (lt-ltb k (slot_count w (length t)) h)

pub slot_missing : {A : Type 0} (w : ℕ) (t : List ℕ) (k : ℕ) (x y : A) → slot_count w (length t) ≤ k → if_slot w t k x y ≡ y
slot_missing w t k x y h = rw (le-ltb k (slot_count w (length t)) h)

-- The w bytes that begin at a place, and so those of a slot.
pub part_byte : (w : ℕ) (t : List ℕ) (at i : ℕ) → i < w → get_or t (at + i) 0 ≡ get_or (take w (drop at t)) i 0
part_byte w t at i h = sym (get_or-take w (drop at t) i 0 h ∙ get_or-drop at t i 0)

pub part_length : (w : ℕ) (t : List ℕ) (at : ℕ) → at + w ≤ length t → length (take w (drop at t)) ≡ w
part_length w t at h = length-take-le w (drop at t) (omega (arith, length-drop at t))

pub slot_byte : (w : ℕ) (t : List ℕ) (k i : ℕ) → i < w → get_or t (w * k + i) 0 ≡ get_or (slot_at w t k) i 0
slot_byte w t k i h = part_byte w t (w * k) i h

pub slot_length : (w : ℕ) (t : List ℕ) (k : ℕ) → k < slot_count w (length t) → length (slot_at w t k) ≡ w
slot_length w t k h = part_length w t (w * k) (slot_fits w (length t) k h)

-- A slot that is there has as many bytes as a record of its width, which is one that a record has.
pub slot_size : (w : ℕ) (t : List ℕ) (k : ℕ) (u : List ℕ) → k + 1 ≤ slot_count w (length t) → u ≡ slot_at w t k → (length u ≡ w) × (13 ≤ w) × (w ≤ 64)
slot_size w t k u h e = let there : k < slot_count w (length t) = omega arith in let (least, most) = slots_width w (length t) k there in (ap length e ∙ slot_length w t k there, least, most)

-- A store keeps the table's length.
pub put_length : (w : ℕ) (t : List ℕ) (k : ℕ) (v : List ℕ) → length (put w t k v) ≡ length t
put_length w t k v =
    elim (dec_lt k (slot_count w (length t))) [
      | yes h ↦ ap length (slot_there w t k (sets t (w * k) (take w v)) t h) ∙ length-sets t (w * k) (take w v)
      | no h ↦ ap length (slot_missing w t k (sets t (w * k) (take w v)) t (omega arith))
    ]

module _ (f : Form) (least : 13 ≤ f.bytes) where
  module _ (s : Standing) (o b : ℕ) where
    -- What stands before the origin fields, after them, and in them.
    front_of : take 10 (record_bytes f s o b) ≡ front s
    front_of = ap (take 10) (record_parts f least s o b) ∙ take_at (front s) (origins o b ++ back f s) 10 (front_size s)

    back_of : drop 13 (record_bytes f s o b) ≡ back f s
    back_of = let e : 13 ≡ length (front s) + 3 = omega (arith, front_size s) in ap₂ drop e (record_parts f least s o b) ∙ drop-append-add (front s) (origins o b ++ back f s) 3

    field_of : (i : ℕ) → get_or (record_bytes f s o b) (10 + i) 0 ≡ get_or (origins o b ++ back f s) i 0
    field_of i =
        let e : 10 + i ≡ length (front s) + i = omega (arith, front_size s) in
        ap₂ (λ l j. get_or l j 0) (record_parts f least s o b) e ∙ get_or-append-add (front s) (origins o b ++ back f s) i 0

    -- The origin fields.
    pub origin_of_lem : o < 65536 → 256 * get_or (record_bytes f s o b) 10 0 + get_or (record_bytes f s o b) 11 0 ≡ o
    origin_of_lem h = let high = field_of 0 in let low = field_of 1 in omega arith

    pub byte_of : b < 256 → get_or (record_bytes f s o b) 12 0 ≡ b
    byte_of h = let e = field_of 2 in omega arith

  -- Records of one standing are found to be,
  pub same_agree : (s : Standing) (o b o' b' : ℕ) → same_standing f.bytes (record_bytes f s o b) (record_bytes f s o' b') ≡ true
  same_agree s o b o' b' = equal_same f.bytes least (record_bytes f s o b) (record_bytes f s o' b') (front_of s o b ∙ sym (front_of s o' b')) (back_of s o b ∙ sym (back_of s o' b'))

-- and records of two standings of a pattern are not, in a form with room for its leaves.
pub agree_same : (f : Form) → 104 + 6 * f.numbers ≤ 8 * f.bytes → (r : Re) → Numbered 0 r → count r ≤ 64 → count r ≤ f.numbers → (v w : List ℕ) (o b o' b' : ℕ)
    → same_standing f.bytes (record_bytes f (standing r v) o b) (record_bytes f (standing r w) o' b') ≡ true → standing r v ≡ standing r w
agree_same f room r d few leaves v w o b o' b' a =
    let s = standing r v in
    let t = standing r w in
    let least : 13 ≤ f.bytes = omega arith in
    let (low, high) = same_equal f.bytes least (record_bytes f s o b) (record_bytes f t o' b') (record_size f s o b) (record_size f t o' b') a in
    let x : front s ≡ front t = sym (front_of f least s o b) ∙ low ∙ front_of f least t o' b' in
    let y : back f s ≡ back f t = sym (back_of f least s o b) ∙ high ∙ back_of f least t o' b' in
    record_injective r d few f room leaves v w 0 0 0 0 (record_parts f least s 0 0 ∙ ap₂ (λ x y. x ++ (origins 0 0 ++ y)) x y ∙ sym (record_parts f least t 0 0))
