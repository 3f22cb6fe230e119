-- Laws of the records and of the table.
-- Assumes nothing.
use mathlib.Core.Path.{◌≡◌, refl, sym, ap, ap₂, ◌∙◌}
use mathlib.Core.Logic.{inl, ◌≢◌}
use Prim.Native.Nat.{ℕ, zero, suc, ◌+◌, ◌*◌, ◌/◌, ◌≤◌, ◌<◌}
use mathlib.Core.Bool.{Bool, true, false, cond}
use mathlib.Core.List.{List, [], ◌∷◌, ◌++◌, append-nil, append_assoc}
use native.Mathlib.Omega.{arith}
use native.Mathlib.Nat.{mul-div-le, mul-suc, mul-zero, mul-le-mul_left, min-le_left, min-le_right, zero-add}
use lib.ListN.{length, take, drop, length-append, length-drop}
use lib.Seq.{sets, sets-eq, take_at, take-append_seam, drop-append-add, drop-drop}
use lib.Dec.{T, eqb, eqb→eq, eqb_refl}
use Rattle.theory.specs.Pattern.{Re}
use Rattle.theory.specs.Standing.{Standing, standing}
use Rattle.theory.specs.Records.{at, Records}
use Rattle.theory.specs.Lines.{◌≺◌}
use Rattle.theory.proofs.Tests.{T_true, not_true, and_split}
use Rattle.theory.proofs.Lines.{below_left}
use Rattle.verdict.specs.Bits.{bits, bit, pack}
use Rattle.verdict.specs.Record.{Form, six_bits, record_bits, record_bytes}
use Rattle.verdict.specs.Table.{body, last_byte, same_list, same_bool, same, number_of, record_of, records_of, records, slots, onto}

-- Sizes: a record has its form's bytes, where the leaf numbers have room in them.
pub length_bits : (d n : ℕ) → length (bits d n) ≡ d
unfolding bits
length_bits zero n = refl
length_bits (suc d) n = ap suc (length_bits d n)

pub length_bit : (c : Bool) → length (bit c) ≡ 1
length_bit true = refl
length_bit false = refl

pub length_six_bits : (n : ℕ) (l : List ℕ) → length (six_bits n l) ≡ 6 * n
length_six_bits zero l = refl
length_six_bits (suc n) [] = omega (arith, length-append (bits 6 0) (six_bits n []), length_bits 6 0, length_six_bits n [])
length_six_bits (suc n) (p ∷ l) = omega (arith, length-append (bits 6 p) (six_bits n l), length_bits 6 p, length_six_bits n l)

pub length_record : (f : Form) → 104 + 6 * f.numbers ≤ 8 * f.bytes → (s : Standing) (origin byte : ℕ) → length (record_bits f s origin byte) ≡ 8 * f.bytes
unfolding record_bits
length_record f h s o b =
    simp (length-append, length_bits, length_bit, length_six_bits) (omega arith)

pub length_pack : (n : ℕ) (l : List ℕ) → length (pack n l) ≡ n
unfolding pack
length_pack zero l = refl
length_pack (suc n) l = ap suc (length_pack n (drop 8 l))

pub record_size : (f : Form) (s : Standing) (origin byte : ℕ) → length (record_bytes f s origin byte) ≡ f.bytes
unfolding record_bytes
record_size f s o b = length_pack f.bytes (record_bits f s o b)

pub records_size : (f : Form) (r : Re) (L M : List (List ℕ)) → length (records_of f (standing r) L M) ≡ f.bytes * length M
unfolding records_of
records_size f r L [] = sym (mul-zero f.bytes)
records_size f r L (w ∷ M) =
    omega (arith, length-append (record_of f (standing r) L w) (records_of f (standing r) L M), record_size f (standing r w) (number_of (standing r) L (standing r (body w))) (last_byte w), records_size f r L M, mul-suc f.bytes (length M))

-- k times w bytes are among n, if no more are asked for than go into them.
pub times_fit : (w n k : ℕ) → k ≤ n / w → w * k ≤ n
times_fit w n k h = omega (arith, mul-le-mul_left w h, mul-div-le n w)

-- So the slots are in the table.
pub slots_fit : (f : Form) (n k : ℕ) → k ≤ slots f n → f.bytes * k ≤ n
unfolding slots
slots_fit f n k h = times_fit f.bytes n k (omega (arith, min-le_left (n / f.bytes) 65535))

pub slots_most : (f : Form) (n : ℕ) → slots f n ≤ 65535
unfolding slots
slots_most f n = min-le_right (n / f.bytes) 65535

-- `onto` stores.
pub onto_sets : (t u : List ℕ) → length u ≤ length t → onto t u ≡ sets t 0 u
onto_sets t u h = ap (λ n. u ++ drop n t) (sym (zero-add (length u))) ∙ sym (sets-eq u t 0 (omega arith))

pub onto_length : (t u : List ℕ) → length u ≤ length t → length (onto t u) ≡ length t
onto_length t u h = omega (arith, length-append u (drop (length u) t), length-drop (length u) t)

-- `same` is equality.
pub same_list_eq : (l m : List ℕ) → T (same_list l m) → l ≡ m
same_list_eq [] [] t = refl
same_list_eq [] (b ∷ m) t = absurd t
same_list_eq (a ∷ l) [] t = absurd t
same_list_eq (a ∷ l) (b ∷ m) t = let c = and_split (eqb a b) (same_list l m) t in ap₂ ◌∷◌ (eqb→eq a b c.0) (same_list_eq l m c.1)

pub same_list_refl : (l : List ℕ) → same_list l l ≡ true
same_list_refl [] = refl
same_list_refl (a ∷ l) = rw (T_true (eqb a a) (eqb_refl a), same_list_refl l)

same_bool_eq : (a b : Bool) → T (same_bool a b) → a ≡ b
same_bool_eq true true t = refl
same_bool_eq true false t = absurd t
same_bool_eq false true t = absurd t
same_bool_eq false false t = refl

same_bool_refl : (a : Bool) → same_bool a a ≡ true
same_bool_refl true = refl
same_bool_refl false = refl

pub same_eq : (s t : Standing) → T (same s t) → s ≡ t
unfolding same
same_eq s t h =
    let a = and_split (same_list s.order t.order) _ h in
    let b = and_split (same_bool s.first t.first) _ a.1 in
    let c = and_split (same_list s.all t.all) (same_bool s.some t.some) b.1 in
    let e1 = same_list_eq s.order t.order a.0 in
    let e2 = same_bool_eq s.first t.first b.0 in
    let e3 = same_list_eq s.all t.all c.0 in
    let e4 = same_bool_eq s.some t.some c.1 in
    λ i. record { order = e1 i; first = e2 i; all = e3 i; some = e4 i }

pub same_refl : (s : Standing) → same s s ≡ true
unfolding same
same_refl s = rw (same_list_refl s.order, same_bool_refl s.first, same_list_refl s.all, same_bool_refl s.some)

pub same_no : (s t : Standing) → s ≢ t → same s t ≡ false
same_no s t h = not_true (same s t) λ c. h (same_eq s t c)

-- The number of a record.
module _ (r : Re) where
  pub number_is : (L : List (List ℕ)) (s : Standing) (j : ℕ) → j < length L → standing r (at L j) ≡ s → ((k : ℕ) → k < j → standing r (at L k) ≢ s) → number_of (standing r) L s ≡ j
  unfolding number_of
  number_is [] s j l e n = absurd (omega arith)
  number_is (w ∷ L) s zero l e n = rw (e, same_refl s)
  number_is (w ∷ L) s (suc j) l e n = rw (same_no (standing r w) s (n 0 (omega arith))) (ap suc (number_is L s j (omega arith) e λ k h. n (suc k) (omega arith)))

  -- In a list of records it is the place of the standing.
  pub number_at : {L : List (List ℕ)} → Records (standing r) L → (s : Standing) (j : ℕ) → j < length L → standing r (at L j) ≡ s → number_of (standing r) L s ≡ j
  number_at {L} a s j l e = number_is L s j l e λ k h c. a.fresh k j h l (c ∙ sym e)

  -- A line added at the end changes no number,
  pub number_add : (L : List (List ℕ)) (w : List ℕ) (s : Standing) (j : ℕ) → j < length L → standing r (at L j) ≡ s → number_of (standing r) (L ++ (w ∷ [])) s ≡ number_of (standing r) L s
  unfolding number_of
  number_add [] w s j l e = absurd (omega arith)
  number_add (x ∷ L) w s zero l e = rw (e, same_refl s)
  number_add (x ∷ L) w s (suc j) l e = ap (λ n. cond (same (standing r x) s) 0 (suc n)) (number_add L w s j (omega arith) e)

pub body_snoc : (u : List ℕ) (b : ℕ) → body (u ++ (b ∷ [])) ≡ u
body_snoc [] b = refl
body_snoc (a ∷ []) b = refl
body_snoc (a ∷ c ∷ u) b = ap (λ x. a ∷ x) (body_snoc (c ∷ u) b)

pub last_snoc : (u : List ℕ) (b : ℕ) → last_byte (u ++ (b ∷ [])) ≡ b
last_snoc [] b = refl
last_snoc (a ∷ []) b = refl
last_snoc (a ∷ c ∷ u) b = last_snoc (c ∷ u) b

-- The records of more lines are those of fewer, and then the new line's.
records_of_append : (f : Form) (r : Re) (L M N : List (List ℕ)) → records_of f (standing r) L (M ++ N) ≡ records_of f (standing r) L M ++ records_of f (standing r) L N
unfolding records_of
records_of_append f r L [] N = refl
records_of_append f r L (w ∷ M) N = rw (records_of_append f r L M N, append_assoc)

-- Where a line comes from: the empty one from itself, any other from a line before it.
pub data From : List ℕ → Type 0 where
  nothing : From []
  grown : (u : List ℕ) (b : ℕ) → From (u ++ (b ∷ []))

pub from_where : (w : List ℕ) → From w
from_where [] = nothing
from_where (a ∷ w) = go (from_where w)
  where
    go : {w : List ℕ} → From w → From (a ∷ w)
    go nothing = grown [] a
    go (grown u b) = grown (a ∷ u) b

pub snoc_after : (u : List ℕ) (b : ℕ) → u ≺ u ++ (b ∷ [])
unfolding ◌≺◌
snoc_after u b = inl (omega (arith, length-append u (b ∷ [])))

module _ (r : Re) where
  -- The line that line k comes from has its record in the list.
  pub origin_at_lem : {L : List (List ℕ)} → Records (standing r) L → (k : ℕ) → k < length L → (j : ℕ) × (j ≤ k) × (standing r (at L j) ≡ standing r (body (at L k)))
  origin_at_lem {L} a k l = go (at L k) refl (from_where (at L k))
    where
      go : (w : List ℕ) → at L k ≡ w → From w → (j : ℕ) × (j ≤ k) × (standing r (at L j) ≡ standing r (body w))
      go _ e nothing = (k, omega arith, ap (standing r) e)
      go _ e (grown u b) =
          let (j, i, s) = a.before k l u (below_left 256 u (b ∷ []) (rw e at (a.bytes k l))) (rw e (snoc_after u b)) in
          (j, omega arith, s ∙ ap (standing r) (sym (body_snoc u b)))

module _ (f : Form) (r : Re) where
  pub records_of_same : (L N M : List (List ℕ)) → ((k : ℕ) → k < length M → number_of (standing r) L (standing r (body (at M k))) ≡ number_of (standing r) N (standing r (body (at M k)))) → records_of f (standing r) L M ≡ records_of f (standing r) N M
  unfolding records_of
  records_of_same L N [] e = refl
  records_of_same L N (w ∷ M) e =
      ap₂ ◌++◌ (ap (λ n. record_bytes f (standing r w) n (last_byte w)) (e 0 (omega arith))) (records_of_same L N M λ k h. e (suc k) (omega arith))

  pub records_add : {L : List (List ℕ)} (w : List ℕ) → Records (standing r) L → records f (standing r) (L ++ (w ∷ [])) ≡ records f (standing r) L ++ record_of f (standing r) (L ++ (w ∷ [])) w
  unfolding records_of
  records_add {L} w a =
      records_of_append f r (L ++ (w ∷ [])) L (w ∷ [])
      ∙ ap₂ ◌++◌
      (records_of_same (L ++ (w ∷ [])) L L λ k h. let (j, i, e) = origin_at_lem r a k h in number_add r L w (standing r (body (at L k))) j (omega arith) e)
      (append-nil (record_of f (standing r) (L ++ (w ∷ [])) w))

  -- The record of a line that the byte b made of line j's standing.
  pub record_is : {L : List (List ℕ)} → Records (standing r) L → (u : List ℕ) (b j : ℕ) → j < length L → standing r (at L j) ≡ standing r u
      → record_of f (standing r) L (u ++ (b ∷ [])) ≡ record_bytes f (standing r (u ++ (b ∷ []))) j b
  record_is a u b j l e = ap₂ (record_bytes f (standing r (u ++ (b ∷ [])))) (rw (body_snoc u b) (number_at r a (standing r u) j l e)) (last_snoc u b)

  -- The first record comes from nothing.
  pub record_zero : (L : List (List ℕ)) → record_of f (standing r) ([] ∷ L) [] ≡ record_bytes f (standing r []) 0 0
  unfolding number_of
  record_zero L = rw (same_refl (standing r []))

-- WHAT A STORE OF ONE MORE RECORD MAKES.
pub onto_more : (t u x : List ℕ) → length u + length x ≤ length t → onto t (u ++ x) ≡ sets (onto t u) (length u) x
onto_more t u x h =
    let size : length (onto t u) ≡ length t = onto_length t u (omega arith) in
    let front : take (length u) (onto t u) ≡ u = take-append_seam u (drop (length u) t) in
    let back : drop (length u + length x) (onto t u) ≡ drop (length u + length x) t = drop-append-add u (drop (length u) t) (length x) ∙ drop-drop (length x) (length u) t in
    ap (λ n. (u ++ x) ++ drop n t) (length-append u x)
    ∙ sym (sets-eq x (onto t u) (length u) (omega arith) ∙ ap₂ (λ a b. (a ++ x) ++ b) front back)

-- Slot k holds record k.
module _ (f : Form) (r : Re) where
  slot_of : (L M : List (List ℕ)) (y : List ℕ) (k : ℕ) → k < length M → take f.bytes (drop (f.bytes * k) (records_of f (standing r) L M ++ y)) ≡ record_of f (standing r) L (at M k)
  unfolding records_of
  slot_of L [] y k l = absurd (omega arith)
  slot_of L (w ∷ M) y zero l =
      ap (λ i. take f.bytes (drop i ((record_of f (standing r) L w ++ records_of f (standing r) L M) ++ y))) (mul-zero f.bytes)
      ∙ ap (take f.bytes) (append_assoc (record_of f (standing r) L w) (records_of f (standing r) L M) y)
      ∙ take_at (record_of f (standing r) L w) (records_of f (standing r) L M ++ y) f.bytes (record_size f (standing r w) (number_of (standing r) L (standing r (body w))) (last_byte w))
  slot_of L (w ∷ M) y (suc k) l =
      let size : length (record_of f (standing r) L w) ≡ f.bytes = record_size f (standing r w) (number_of (standing r) L (standing r (body w))) (last_byte w) in
      let e : f.bytes * suc k ≡ length (record_of f (standing r) L w) + f.bytes * k = omega (arith, mul-suc f.bytes k) in
      ap (take f.bytes) (ap₂ drop e (append_assoc (record_of f (standing r) L w) (records_of f (standing r) L M) y) ∙ drop-append-add (record_of f (standing r) L w) (records_of f (standing r) L M ++ y) (f.bytes * k))
      ∙ slot_of L M y k (omega arith)

  pub slot : (L : List (List ℕ)) (t : List ℕ) (k : ℕ) → k < length L → take f.bytes (drop (f.bytes * k) (onto t (records f (standing r) L))) ≡ record_of f (standing r) L (at L k)
  slot L t k l = slot_of L L (drop (length (records f (standing r) L)) t) k l
