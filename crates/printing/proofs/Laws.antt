-- What is appended to a buffer: one text after another, nothing, a byte, and a text past the end. Bytes in hex. A number has one text.
-- Assumes nothing.
use mathlib.Core.Path.{◌≡◌, refl, sym, ap, ◌∙◌, subst}
use Prim.Native.Nat.{ℕ, suc, ◌+◌, ◌*◌, ◌-◌, ◌≤◌, ◌<◌, ◌/◌, ◌%◌, ◌^◌, min}
use mathlib.Core.Bool.{Bool, true, false, not}
use mathlib.Core.Option.{none, some}
use mathlib.Core.List.{List, [], ◌∷◌, ◌++◌, append_assoc, append-nil}
use native.Mathlib.Omega.{arith}
use native.Mathlib.Numerals.{add-one}
use native.Mathlib.Nat.{pow-le-pow_right}
use lib.Dec.{T, leb, leb→le, nleb→lt}
use lib.ListN.{length, take, get_or, set, length-append, length-take, length-set}
use lib.Seq.{take_all, take-append-add, take-append-le, take-suc, take-suc-set, take-take, length-take-le}
use borrow.Rule.Slice.PartMut.{put_mid}
use Rattle.std.proofs.lemmas.Slice.{take-put_mid}
use Rattle.io.specs.Digits.{hex_digit_ascii, last_digits, IsDigitCount}
use Rattle.printing.specs.Text.{Appended, Adds, Field, hex, Printed, no_fields, field, no_pairs, absent, between, pair_at, pairs_of, LimitText, limited, unlimited}
use Rattle.printing.specs.Puts.{PutField, PutFields, PutLine, PutPair, PutPairs}
use Rattle.printing.specs.declared.Output.{Output}

-- A part of x that is cut off does not count past the first m bytes.
take_cut : (k m : ℕ) (x y : List ℕ) → (k < length x → m ≤ k) → take m (take k x ++ y) ≡ take m (x ++ y)
take_cut k m x y h = go (leb (length x) k) (leb→le (length x) k) (nleb→lt (length x) k)
  where
    go : (b : Bool) → (T b → length x ≤ k) → (T (not b) → k < length x) → take m (take k x ++ y) ≡ take m (x ++ y)
    go true p q = ap (λ l. take m (l ++ y)) (take_all k x (p tt))
    go false p q =
        let s = q tt in
        let t : m ≤ k = h s in
        let e : length (take k x) ≡ k = length-take-le k x (omega arith) in
        take-append-le m (take k x) y (omega arith) ∙ take-take m k x t ∙ sym (take-append-le m x y (omega arith))

-- Two appendings, one after the other, are the appending of the joined text.
pub join : {a b c : List ℕ} {n m k : ℕ} {v w : List ℕ} → Appended a n v b m → Appended b m w c k → Appended a n (v ++ w) c k
join {a} {b} {c} {n} {m} {k} {v} {w} f g =
    let s : m ≡ min 65536 (n + length v) = f.size in
    let t : k ≡ min 65536 (m + length w) = g.size in
    let z : length a ≡ 65536 = f.buffer in
    let l : length (v ++ w) ≡ length v + length w = length-append v w in
    let p : length (take n a) ≡ min n (length a) = length-take n a in
    let q : length (take n a ++ v) ≡ length (take n a) + length v = length-append (take n a) v in
    record {
      buffer = z;
      size = omega arith;
      text =
          g.text
          ∙ ap (λ x. take k (x ++ w)) f.text
          ∙ take_cut m k (take n a ++ v) w (λ h. omega arith)
          ∙ ap (λ x. take k x) (append_assoc (take n a) v w);
    }

pub take_min : (k : ℕ) (l : List ℕ) → take (min k (length l)) l ≡ take k l
take_min k l = go (leb (length l) k) (leb→le (length l) k) (nleb→lt (length l) k)
  where
    go : (b : Bool) → (T b → length l ≤ k) → (T (not b) → k < length l) → take (min k (length l)) l ≡ take k l
    go true p q = let s = p tt in take_all (min k (length l)) l (omega arith) ∙ sym (take_all k l s)
    go false p q = let s = q tt in let e : min k (length l) ≡ k = omega arith in ap (λ i. take i l) e

-- The first k elements, where i is k or the length.
pub first_of : (k : ℕ) (l : List ℕ) {i : ℕ} → i ≡ min k (length l) → take i l ≡ take k l
first_of k l e = ap (λ i. take i l) e ∙ take_min k l

pub same_text : {a b : List ℕ} {n m : ℕ} {v w : List ℕ} → Appended a n v b m → v ≡ w → Appended a n w b m
same_text g e = rw e at g

-- As much of s as there is room for is written after what waits.
pub put_fits : (a s ys : List ℕ) (u i n : ℕ) → length a ≡ 65536 → i ≡ min u 65536 → n ≡ min (length s) (65536 - i) → ys ≡ take n s → Appended a u s (put_mid i (i + n - i) a ys) (i + n)
put_fits a s ys u i n z e f y =
    let l : length (take n s) ≡ min n (length s) = length-take n s in
    let k : length ys ≡ n = omega (arith, ap length y) in
    let t : length (take i a) ≡ i = length-take-le i a (omega arith) in
    let w : take i a ≡ take u a = ap (λ j. take j a) (omega arith) ∙ take_min u a in
    record {
      buffer = z;
      size = omega arith;
      text =
          take-put_mid i (i + n - i) a ys (i + n) (omega arith) (omega arith)
          ∙ ap (λ x. take i a ++ x) y
          ∙ sym (take-append-add (take i a) s n)
          ∙ ap (λ j. take (j + n) (take i a ++ s)) t
          ∙ ap (λ x. take (i + n) (x ++ s)) w;
    }

-- w is appended, and the buffer keeps its length.
pub record Put (old : List ℕ) (n : ℕ) (w : List ℕ) (new : List ℕ) (m : ℕ) : Type 0 where
  pub kept : length new ≡ length old
  pub appended : Appended old n w new m

-- Nothing, and a byte.
pub put_none : (a : List ℕ) (n m : ℕ) → length a ≡ 65536 → m ≡ min n (length a) → Put a n [] a m
put_none a n m z e =
    record {
      kept = refl;
      appended =
          record {
            buffer = z;
            size = omega arith;
            text = rw append-nil (sym (take-take m n a (omega arith)));
          };
    }

pub put_one : (a : List ℕ) (n b : ℕ) → length a ≡ 65536 → n < length a → Put a n (b ∷ []) (set a n b) (n + 1)
put_one a n b z h =
    let l : length (take n a ++ (b ∷ [])) ≡ length (take n a) + 1 = length-append (take n a) (b ∷ []) in
    let p : length (take n a) ≡ min n (length a) = length-take n a in
    record {
      kept = length-set a n b;
      appended =
          record {
            buffer = z;
            size = omega arith;
            text =
                ap (λ i. take i (set a n b)) (add-one n)
                ∙ take-suc-set a n b h
                ∙ sym (take_all (n + 1) (take n a ++ (b ∷ [])) (omega arith));
          };
    }

-- A full buffer takes nothing.
pub put_full : (a : List ℕ) (n m : ℕ) (w : List ℕ) → length a ≡ 65536 → length a ≤ n → m ≡ length a → Put a n w a m
put_full a n m w z h e =
    record {
      kept = refl;
      appended =
          record {
            buffer = z;
            size = omega arith;
            text = ap (λ l. take m l) (sym (take_all n a h)) ∙ sym (take-append-le m (take n a) w (omega (arith, length-take n a)));
          };
    }

hex_join : (l m : List ℕ) → hex (l ++ m) ≡ hex l ++ hex m
hex_join [] m = refl
hex_join (b ∷ l) m = ap (λ x. last_digits 16 2 b ++ x) (hex_join l m) ∙ sym (append_assoc (last_digits 16 2 b) (hex l) (hex m))

-- Two digits a byte.
pub hex_size : (l : List ℕ) → length (hex l) ≡ 2 * length l
hex_size [] = refl
hex_size (b ∷ l) = omega (arith, hex_size l, length-append (last_digits 16 2 b) (hex l))

-- No spans are longer: two words and four numbers.
pub spans_size : (word from short second long : List ℕ) → length word ≡ 6 → length second ≡ 6 → length from ≤ 21 → length short ≤ 21 → length long ≤ 21
    → length (word ++ (from ++ (short ++ (second ++ (from ++ long))))) ≤ 96
spans_size word from short second long e g f s l =
    omega (
      arith,
      length-append word (from ++ (short ++ (second ++ (from ++ long)))),
      length-append from (short ++ (second ++ (from ++ long))),
      length-append short (second ++ (from ++ long)),
      length-append second (from ++ long),
      length-append from long,
    )

-- One byte more of a slice, as it is and in hex.
pub take_more : (l : List ℕ) (i : ℕ) → i < length l → take i l ++ (get_or l i 0 ∷ []) ≡ take (i + 1) l
take_more l i h = sym (take-suc l i 0 h) ∙ ap (λ j. take j l) (sym (add-one i))

pub hex_more : (l : List ℕ) (i : ℕ) → i < length l → hex (take i l) ++ last_digits 16 2 (get_or l i 0) ≡ hex (take (i + 1) l)
hex_more l i h = sym (hex_join (take i l) (get_or l i 0 ∷ [])) ∙ ap hex (take_more l i h)

-- A byte's two digits.
pub pair_of : (b : ℕ) {x y : ℕ} → b < 256 → x ≡ hex_digit_ascii (b / 16) → y ≡ hex_digit_ascii (b % 16) → (x ∷ (y ∷ [])) ≡ last_digits 16 2 b
pair_of b h p q =
    let e : b / 16 ≡ b / 16 % 16 = omega arith in
    cc (ap hex_digit_ascii e)

-- The fewest digits of a number are no more than any other fewest.
fewest_le : (x j k : ℕ) → IsDigitCount 10 1 x j → IsDigitCount 10 1 x k → j ≤ k
fewest_le x j k f g = go (leb j k) (leb→le j k) (nleb→lt j k)
  where
    go : (b : Bool) → (T b → j ≤ k) → (T (not b) → k < j) → j ≤ k
    go true p q = p tt
    go false p q =
        let s = q tt in
        let t : 10 ^ k ≤ 10 ^ (j - 1) = pow-le-pow_right (omega arith) (omega arith) in
        let u : 10 ^ (j - 1) ≤ x = f.2 (omega (arith, g.0)) in
        absurd (omega (arith, g.1))

fewest_most : (x j k : ℕ) → IsDigitCount 10 1 x j → 0 < k → x < 10 ^ k → j ≤ k
fewest_most x j k f h l = go (leb j k) (leb→le j k) (nleb→lt j k)
  where
    go : (b : Bool) → (T b → j ≤ k) → (T (not b) → k < j) → j ≤ k
    go true p q = p tt
    go false p q =
        let s = q tt in
        let t : 10 ^ k ≤ 10 ^ (j - 1) = pow-le-pow_right (omega arith) (omega arith) in
        let u : 10 ^ (j - 1) ≤ x = f.2 (omega arith) in
        absurd (omega arith)

-- A number of 64 bits has at most 20 digits, and its field 21 bytes.
pub field_size : {x k : ℕ} (l : List ℕ) → IsDigitCount 10 1 x k → x < 18446744073709551616 → length (32 ∷ take k l) ≤ 21
field_size {x} {k} l f h = omega (arith, length-take k l, fewest_most x k 20 f (omega arith) (omega arith))

-- A number has one text.
pub field_one : {x : ℕ} {v w : List ℕ} → Field x v → Field x w → v ≡ w
field_one {x} f g =
    let d = f.decimal in
    let e = g.decimal in
    let p : d.places ≤ e.places = fewest_le x d.places e.places d.fewest e.fewest in
    let q : e.places ≤ d.places = fewest_le x e.places d.places e.fewest d.fewest in
    let k : d.places ≡ e.places = omega arith in
    f.text ∙ ap (λ l. 32 ∷ l) (d.text ∙ ap (λ i. last_digits 10 i x) k ∙ sym e.text) ∙ sym g.text

-- Where there is room, nothing is cut off.
pub fits : {a b : List ℕ} {n m : ℕ} {w : List ℕ} → Appended a n w b m → n + length w ≤ 65536 → (m ≡ n + length w) × (take m b ≡ take n a ++ w)
fits {a} {b} {n} {m} {w} f h =
    let p : length (take n a) ≡ min n (length a) = length-take n a in
    (omega (arith, f.size), f.text ∙ take_all m (take n a ++ w) (omega (arith, f.size, f.buffer, length-append (take n a) w)))

-- A line of at most k bytes has at most m.
pub printed_most : {k m n i : ℕ} {L : List ℕ → Type 0} {a b : List ℕ} → k ≤ m → Printed k L a n b i → Printed m L a n b i
printed_most h (w, l, s, t) = (w, l, omega arith, t)

-- What the brackets take: one after another, each of at most 42 bytes.
pub put_between : {a b c : Output} {x y : ℕ} → PutField [] x a b → PutField [] y b c → PutPair (some (x, y)) a c
put_between f g = record {
  text = f.text ++ g.text;
  more = λ p. between p f.field g.field;
  most = omega (arith, length-append f.text g.text, f.most, g.most);
  put = join f.put g.put;
}

pub put_absent : {a b : Output} → Adds a (32 ∷ 45 ∷ []) b → PutPair none a b
put_absent p = record { text = 32 ∷ 45 ∷ []; more = λ q. absent q; most = omega arith; put = p }

pub put_no_pairs : {a b : Output} {known : ℕ} {places : List ℕ} → Adds a [] b → PutPairs 0 known places a b
unfolding pairs_of
put_no_pairs p = record { text = []; pairs = no_pairs; most = omega arith; put = p }

pub put_more_pairs : {a b c : Output} {f known : ℕ} {places : List ℕ} → PutPairs f known places a b → PutPair (pair_at known places f) b c → PutPairs (f + 1) known places a c
unfolding pairs_of
put_more_pairs {a = a} {c = c} {f = f} {known = known} {places = places} p q =
    let e : suc f ≡ f + 1 = omega arith in
    subst (λ i. PutPairs i known places a c) e (record {
      text = p.text ++ q.text;
      pairs = q.more p.pairs;
      most = omega (arith, length-append p.text q.text, p.most, q.most);
      put = join p.put q.put;
    })

-- A limit, or none.
pub put_limited : {a b : Output} {x : ℕ} → PutField (32 ∷ 103 ∷ 114 ∷ 101 ∷ 97 ∷ 116 ∷ 101 ∷ 115 ∷ 116 ∷ []) x a b → PutLine 30 (LimitText (some x)) a b
put_limited g = (_, limited g.field, omega (arith, g.most), g.put)

pub put_unlimited : {a b : Output} → Adds a (32 ∷ 110 ∷ 111 ∷ 32 ∷ 108 ∷ 105 ∷ 109 ∷ 105 ∷ 116 ∷ []) b → PutLine 30 (LimitText none) a b
put_unlimited f = (_, unlimited, omega arith, f)

-- Numbers, each after a space.
pub put_no_fields : {a b : Output} → Adds a [] b → PutFields [] a b
put_no_fields p = record { text = []; fields = no_fields; most = omega arith; put = p }

pub put_more_fields : {a b c : Output} {x : ℕ} (l : List ℕ) (i : ℕ) → PutFields (take i l) a b → PutField [] x b c → x ≡ get_or l i 0 → i < length l → PutFields (take (i + 1) l) a c
put_more_fields {a} {b} {c} {x} l i p q e h = subst (λ v. PutFields v a c) (ap (λ y. take i l ++ (y ∷ [])) e ∙ take_more l i h) (record {
  text = p.text ++ q.text;
  fields = field p.fields q.field;
  most = omega (arith, length-append p.text q.text, length-append (take i l) (x ∷ []), p.most, q.most);
  put = join p.put q.put;
})

pub put_all_fields : {a b : Output} (l : List ℕ) (i : ℕ) → PutFields (take i l) a b → length l ≤ i → PutFields l a b
put_all_fields {a} {b} l i p h = subst (λ v. PutFields v a b) (take_all i l h) p

pub fields_size : (word from to second rest : List ℕ) {n : ℕ} → length word ≡ 6 → length second ≡ 7 → length from ≤ 21 → length to ≤ 21 → length rest ≤ 42 * n → n ≤ 8
    → length (word ++ (from ++ (to ++ (second ++ (rest ++ (10 ∷ [])))))) ≤ 392
fields_size word from to second rest a b c d e f =
    omega (
      arith,
      length-append word (from ++ (to ++ (second ++ (rest ++ (10 ∷ []))))),
      length-append from (to ++ (second ++ (rest ++ (10 ∷ [])))),
      length-append to (second ++ (rest ++ (10 ∷ []))),
      length-append second (rest ++ (10 ∷ [])),
      length-append rest (10 ∷ []),
    )
