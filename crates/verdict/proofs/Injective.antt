-- Two standings of a pattern of at most 64 leaves that have the same record are one.
-- Assumes nothing.
use mathlib.Core.Path.{◌≡◌, refl, sym, ap, ap₂, ◌∙◌}
use Prim.Native.Nat.{ℕ, zero, suc, ◌+◌, ◌*◌, ◌^◌, ◌≤◌, ◌<◌}
use mathlib.Core.Bool.{Bool, true, false}
use mathlib.Core.List.{List, [], ◌∷◌, ◌++◌}
use native.Mathlib.Omega.{arith}
use native.Mathlib.Nat.{mod-eq_of_lt}
use lib.ListN.{length, take, drop, length-drop, take-append-drop}
use lib.Seq.{take_at, drop_at, length-take-le}
use lib.Dec.{T, eqb, eqb_refl, eqb→eq}
use Rattle.theory.specs.Pattern.{Re, Numbered, count}
use Rattle.theory.specs.Outcomes.{outcomes}
use Rattle.theory.specs.Lines.{Below}
use Rattle.theory.specs.Standing.{standing, member, from, filter, set_of, wanted}
use Rattle.theory.proofs.Tests.{either, or_cases, or_left, or_right, same_test}
use Rattle.theory.proofs.Members.{filter_of, filter_passes, member_from}
use Rattle.theory.proofs.Sizes.{order_below, order_size}
use Rattle.verdict.specs.Bits.{bits, bit, from_bits, pack}
use Rattle.verdict.specs.Record.{Form, set_bits, six_bits, record_bits, record_bytes}
use Rattle.verdict.proofs.Tables.{length_bits, length_six_bits, length_record, length_bit}
use Rattle.verdict.proofs.StayBytes.{record_two, drop_below}
use Rattle.verdict.proofs.Packed.{number_one, length_set}

-- Bits of one number are one list.

same_bits : (l m : List ℕ) (a b : ℕ) → Below 2 l → Below 2 m → length l ≡ length m → from_bits a l ≡ from_bits b m → (a ≡ b) × (l ≡ m)
same_bits [] [] a b h g s e = (e, refl)
same_bits [] (y ∷ m) a b h g s e = absurd (omega arith)
same_bits (x ∷ l) [] a b h g s e = absurd (omega arith)
same_bits (x ∷ l) (y ∷ m) a b h g s e =
    let (p, q) = same_bits l m (2 * a + x) (2 * b + y) h.1 g.1 (omega arith) e in
    (omega arith, ap₂ ◌∷◌ (omega arith) q)

take_below : (m k : ℕ) (l : List ℕ) → Below m l → Below m (take k l)
take_below m zero l h = tt
take_below m (suc k) [] h = tt
take_below m (suc k) (b ∷ l) h = (h.0, take_below m k l h.1)

no_length : (l : List ℕ) → length l ≡ 0 → l ≡ []
no_length [] e = refl
no_length (b ∷ l) e = absurd (omega arith)

-- Bytes of one list of bits.
pack_same : (n : ℕ) (l m : List ℕ) → Below 2 l → Below 2 m → length l ≡ 8 * n → length m ≡ 8 * n → pack n l ≡ pack n m → l ≡ m
unfolding pack
pack_same zero l m h g a b e = no_length l a ∙ sym (no_length m b)
pack_same (suc n) l m h g a b e =
    let la : length (take 8 l) ≡ 8 = length-take-le 8 l (omega arith) in
    let lb : length (take 8 m) ≡ 8 = length-take-le 8 m (omega arith) in
    let e1 : from_bits 0 (take 8 l) ≡ from_bits 0 (take 8 m) = cc in
    let e2 : pack n (drop 8 l) ≡ pack n (drop 8 m) = cc in
    let t : take 8 l ≡ take 8 m = (same_bits (take 8 l) (take 8 m) 0 0 (take_below 2 8 l h) (take_below 2 8 m g) (la ∙ sym lb) e1).1 in
    let d : drop 8 l ≡ drop 8 m = pack_same n (drop 8 l) (drop 8 m) (drop_below 2 8 l h) (drop_below 2 8 m g) (omega (arith, length-drop 8 l)) (omega (arith, length-drop 8 m)) e2 in
    sym (take-append-drop 8 l) ∙ ap₂ ◌++◌ t d ∙ take-append-drop 8 m

apart : (a b c d : List ℕ) → length a ≡ length c → a ++ b ≡ c ++ d → (a ≡ c) × (b ≡ d)
apart a b c d s e = (
  sym (take_at a b (length c) s) ∙ ap (take (length c)) e ∙ take_at c d (length c) refl,
  sym (drop_at a b (length c) s) ∙ ap (drop (length c)) e ∙ drop_at c d (length c) refl,
)

bits_apart : (k m n : ℕ) (b d : List ℕ) → bits k m ++ b ≡ bits k n ++ d → (bits k m ≡ bits k n) × (b ≡ d)
bits_apart k m n b d e = apart (bits k m) b (bits k n) d (length_bits k m ∙ sym (length_bits k n)) e

bits_same : (k m n : ℕ) → m < 2 ^ k → n < 2 ^ k → bits k m ≡ bits k n → m ≡ n
bits_same k m n h g e = sym (mod-eq_of_lt h) ∙ sym (number_one k m) ∙ ap (from_bits 0) e ∙ number_one k n ∙ mod-eq_of_lt g

bit_same : (a b : Bool) → bit a ≡ bit b → a ≡ b
bit_same true true e = refl
bit_same true false e = absurd (let z : ◌≡◌ {A = ℕ} 1 0 = cc in omega arith)
bit_same false true e = absurd (let z : ◌≡◌ {A = ℕ} 0 1 = cc in omega arith)
bit_same false false e = refl

bit_apart : (x y : Bool) (b d : List ℕ) → bit x ++ b ≡ bit y ++ d → (x ≡ y) × (b ≡ d)
bit_apart x y b d e = let c = apart (bit x) b (bit y) d (length_bit x ∙ sym (length_bit y)) e in (bit_same x y c.0, c.1)

set_same : (l m k : List ℕ) → set_bits l k ≡ set_bits m k → (p : ℕ) → T (member p k) → member p l ≡ member p m
set_same l m [] e p t = absurd t
set_same l m (q ∷ k) e p t =
    let c = bit_apart (member q l) (member q m) (set_bits l k) (set_bits m k) e in
    either (λ i. let s = eqb→eq p q i in rw s c.0) (λ i. set_same l m k c.1 p i) (or_cases (eqb p q) (member p k) t)

six_same : (n : ℕ) (l m : List ℕ) → Below 64 l → Below 64 m → length l ≡ length m → length l ≤ n → six_bits n l ≡ six_bits n m → l ≡ m
six_same n [] [] h g s i e = refl
six_same n [] (q ∷ m) h g s i e = absurd (omega arith)
six_same n (p ∷ l) [] h g s i e = absurd (omega arith)
six_same zero (p ∷ l) (q ∷ m) h g s i e = absurd (omega arith)
six_same (suc n) (p ∷ l) (q ∷ m) h g s i e =
    let c = bits_apart 6 p q (six_bits n l) (six_bits n m) e in
    ap₂ ◌∷◌ (bits_same 6 p q h.0 g.0 c.0) (six_same n l m h.1 g.1 (omega arith) (omega arith) c.1)

filter_from : (f g : ℕ → Bool) (n d : ℕ) → ((p : ℕ) → n ≤ p → p < n + d → f p ≡ g p) → filter f (from n d) ≡ filter g (from n d)
filter_from f g n zero h = refl
filter_from f g n (suc d) h = rw (h n (omega arith) (omega arith), filter_from f g (suc n) d λ p a b. h p (omega arith) (omega arith))

pub below_by : (c : ℕ) (l : List ℕ) → ((p : ℕ) → T (member p l) → p < c) → Below c l
below_by c [] h = tt
below_by c (p ∷ l) h = (h p (or_left (eqb p p) (member p l) (eqb_refl p)), below_by c l λ q t. h q (or_right (eqb q p) (member q l) t))

module _ (r : Re) (d : Numbered 0 r) (few : count r ≤ 64) where
  all_same : (v w : List ℕ) → set_bits (standing r v).all (from 0 64) ≡ set_bits (standing r w).all (from 0 64) → (standing r v).all ≡ (standing r w).all
  unfolding standing
  all_same v w e =
      filter_from (λ p. member p (wanted (outcomes r v 0))) (λ p. member p (wanted (outcomes r w 0))) 0 (count r) λ p a b.
      sym (inside v p (omega arith)) ∙ set_same (set_of r (wanted (outcomes r v 0))) (set_of r (wanted (outcomes r w 0))) (from 0 64) e p (member_from p 0 64 (omega arith) (omega arith)) ∙ inside w p (omega arith)
    where
      inside : (v : List ℕ) (p : ℕ) → p < count r → member p (set_of r (wanted (outcomes r v 0))) ≡ member p (wanted (outcomes r v 0))
      inside v p h =
          same_test (member p (set_of r (wanted (outcomes r v 0)))) (member p (wanted (outcomes r v 0)))
          (λ t. filter_passes (λ q. member q (wanted (outcomes r v 0))) (from 0 (count r)) p t)
          (λ t. filter_of (λ q. member q (wanted (outcomes r v 0))) (from 0 (count r)) p t (member_from p 0 (count r) (omega arith) (omega arith)))

  -- ONE RECORD, ONE STANDING: two lines whose standings are not equal have different records, in each form with room for the pattern's leaves.
  pub record_injective : (f : Form) → 104 + 6 * f.numbers ≤ 8 * f.bytes → count r ≤ f.numbers → (v w : List ℕ) (o b o' b' : ℕ) → record_bytes f (standing r v) o b ≡ record_bytes f (standing r w) o' b' → standing r v ≡ standing r w
  unfolding record_bytes record_bits
  record_injective f room leaves v w o b o' b' e =
      let s = standing r v in
      let t = standing r w in
      let x : record_bits f s o b ≡ record_bits f t o' b' = pack_same f.bytes (record_bits f s o b) (record_bits f t o' b') (record_two f s o b) (record_two f t o' b') (length_record f room s o b) (length_record f room t o' b') e in
      let x1 = bits_apart 7 (length s.order) (length t.order) _ _ x in
      let x2 = bit_apart s.first t.first _ _ x1.1 in
      let x3 = bit_apart s.some t.some _ _ x2.1 in
      let x4 = bits_apart 7 0 0 _ _ x3.1 in
      let x5 = apart (set_bits s.all (from 0 64)) _ (set_bits t.all (from 0 64)) _ (length_set s.all (from 0 64) ∙ sym (length_set t.all (from 0 64))) x4.1 in
      let x6 = bits_apart 16 o o' _ _ x5.1 in
      let x7 = bits_apart 8 b b' _ _ x6.1 in
      let x8 = apart (six_bits f.numbers s.order) _ (six_bits f.numbers t.order) _ (length_six_bits f.numbers s.order ∙ sym (length_six_bits f.numbers t.order)) x7.1 in
      let n : length s.order ≡ length t.order = bits_same 7 (length s.order) (length t.order) (omega (arith, order_size r d v)) (omega (arith, order_size r d w)) x1.0 in
      let e1 : s.order ≡ t.order =
      six_same f.numbers s.order t.order (below_by 64 s.order λ p i. omega (arith, order_below r d v p i)) (below_by 64 t.order λ p i. omega (arith, order_below r d w p i)) n (omega (arith, order_size r d v)) x8.0 in
      let e3 = all_same v w x5.0 in
      λ i. record { order = e1 i; first = x2.0 i; all = e3 i; some = x3.0 i }
