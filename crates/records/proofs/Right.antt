-- What is packed is the standing's record, and what is unpacked from a record is its standing.
-- Assumes nothing.
use mathlib.Core.Path.{◌≡◌, refl, sym, ap, ◌∙◌, subst}
use mathlib.Core.Bool.{Bool, true, false}
use mathlib.Core.List.{List, [], ◌∷◌, ◌++◌}
use Prim.Native.Nat.{ℕ, ◌+◌, ◌*◌, ◌/◌, ◌%◌, ◌≤◌, ◌<◌, min}
use native.Mathlib.Nat.{zero-add, mod-eq_of_lt, min-eq_left}
use native.Mathlib.Omega.{arith}
use native.Mathlib.Decide.{dec_lt}
use lib.ListN.{length, get_or, take, drop, replicate}
use lib.Seq.{sets, length-take-le}
use lib.Dec.{eqb}
use Rattle.theory.specs.Pattern.{Re, count, Numbered}
use Rattle.theory.specs.Standing.{member, from, filter, standing}
use Rattle.theory.specs.Standing as Theory
use Rattle.theory.proofs.Tests.{not_true, same_test}
use Rattle.theory.proofs.Members.{filter_of, filter_passes, member_from, length_from, once_size, from_range, filter_in}
use Rattle.theory.proofs.Sizes.{order_once, order_below, order_size}
use Rattle.words.specs.Sets.{has_bit}
use Rattle.verdict.specs.Record.{wide, record_bytes}
use Rattle.verdict.proofs.Packed.{set_bytes, six_bytes, packed}
use Rattle.verdict.proofs.Forms.{held_record}
use Rattle.verdict.proofs.Injective.{below_by}
use Rattle.standing.specs.declared.Standing.{Standing}
use Rattle.standing.specs.Stands.{means, Fine}
use Rattle.standing.proofs.Sets.{filter_cut}
use Rattle.records.specs.Packing.{Packed, Unpacked}
use Rattle.records.specs.Bytes.{one, bytes_of, set_of, threes, fours}
use Rattle.records.proofs.Sets.{bit_one, one_less, bytes_right, set_right, set_few}
use Rattle.records.proofs.Orders.{threes_right, fours_right}

-- The record as its fields are put in.
abbrev pub put : ℕ → ℕ → List ℕ → List ℕ → List ℕ → List ℕ
put a b origin c order = sets (sets (sets (sets (replicate 64 0) 13 order) 0 (a ∷ b ∷ [])) 2 c) 10 origin

put_all : (a b o p q : ℕ) (l m : List ℕ)
    → put a b (o ∷ p ∷ q ∷ []) (set_bytes m 8 0) (six_bytes 16 l) ≡ a ∷ b ∷ (set_bytes m 8 0 ++ (o ∷ p ∷ q ∷ (six_bytes 16 l ++ (0 ∷ 0 ∷ 0 ∷ []))))
put_all a b o p q l m = refl

-- The leaves of a set below c.
filter_below : (f : ℕ → Bool) (c p : ℕ) → p < c → member p (filter f (from 0 c)) ≡ f p
filter_below f c p h = same_test (member p (filter f (from 0 c))) (f p) (filter_passes f (from 0 c) p) (λ t. filter_of f (from 0 c) p t (member_from p 0 c (omega arith) (omega arith)))

filter_above : (f : ℕ → Bool) (c p : ℕ) → c ≤ p → member p (filter f (from 0 c)) ≡ false
filter_above f c p h = not_true (member p (filter f (from 0 c))) λ t. omega (arith, from_range p 0 c (filter_in f (from 0 c) p t))

-- The record, from the fields as the code puts them in.
abbrev given : Standing → ℕ → ℕ → List ℕ
given s origin byte = put (2 * min s.n 64 + one s.first) (one s.some * 128) ((origin / 256 % 256) ∷ (origin % 256) ∷ byte ∷ []) (bytes_of 8 s.all) (threes 16 (take (min s.n 64) s.list))

put_right : (s : Standing) (origin byte : ℕ) → length s.list ≡ 64 → byte < 256 → (r : Re) → Fine r s → given s origin byte ≡ record_bytes wide (means (count r) s) origin byte
put_right s origin byte long small r fine =
    let m = means (count r) s in
    let n : min s.n 64 ≡ s.n = min-eq_left fine.size in
    let size : length m.order % 128 ≡ s.n = omega (arith, length-take-le s.n s.list (omega (arith, fine.size)), fine.size) in
    let last : byte % 256 ≡ byte = mod-eq_of_lt small in
    let set : bytes_of 8 s.all ≡ set_bytes m.all 8 0 = bytes_right m.all 8 0 s.all λ j. rw (zero-add j) (leaves j (dec_lt j (count r))) in
    rw (n, set, threes_right 16 (take s.n s.list))
    (put_all (2 * s.n + one s.first) (one s.some * 128) (origin / 256 % 256) (origin % 256) byte m.order m.all ∙ sym (rw (size, last) at (packed m origin byte)))
  where
    leaves : (p : ℕ) → Dec (p < count r) → member p (filter (has_bit s.all) (from 0 (count r))) ≡ has_bit s.all p
    leaves p (yes h) = filter_below (has_bit s.all) (count r) p h
    leaves p (no h) = filter_above (has_bit s.all) (count r) p (omega arith) ∙ sym (fine.set p (omega arith))

-- THE RECORD of the standing.
pub pack_right : (s : Standing) (origin byte : ℕ) → length s.list ≡ 64 → byte < 256 → Packed s origin byte (given s origin byte)
pack_right s origin byte long small = record {
  is = λ {r} {t} most x.
      let few : length t.order ≤ count r = subst (λ m. length m.order ≤ count r) x.is (rw (length_from 0 (count r)) at (once_size x.fine.once (from 0 (count r)) (λ p i. member_from p 0 (count r) (omega arith) (omega (arith, x.fine.leaves p i))))) in
      put_right s origin byte long small r x.fine ∙ ap (λ m. record_bytes wide m origin byte) x.is ∙ sym (held_record (count r) t origin byte few most);
}

-- The standing as its fields are taken out.
abbrev pub taken : List ℕ → Standing
taken v = record { list = fours 16 (drop 13 v); n = get_or v 0 0 / 2; first = eqb (get_or v 0 0 % 2) 1; all = set_of 8 (drop 2 v); some = eqb (get_or v 1 0 / 128) 1 }

-- The bytes of a record, field by field.
abbrev fields : Theory.Standing → ℕ → ℕ → List ℕ
fields t origin byte =
    (2 * (length t.order % 128) + one t.first)
    ∷ (one t.some * 128)
    ∷ (set_bytes t.all 8 0 ++ ((origin / 256 % 256) ∷ (origin % 256) ∷ (byte % 256) ∷ (six_bytes 16 t.order ++ (0 ∷ 0 ∷ 0 ∷ []))))

first_right : (m : ℕ) (c : Bool) → eqb ((2 * m + one c) % 2) 1 ≡ c
first_right m c = let e : (2 * m + one c) % 2 ≡ one c = omega (arith, one_less c) in rw e (bit_one c)

some_right : (c : Bool) → eqb (one c * 128 / 128) 1 ≡ c
some_right true = refl
some_right false = refl

-- What is taken out of the record of a line's standing t is a standing s that means t.
module _ (r : Re) (d : Numbered 0 r) (most : count r ≤ 64) (w : List ℕ) (origin byte : ℕ) where
  t : Theory.Standing
  t = standing r w

  s : Standing
  s = taken (fields t origin byte)

  n_right : s.n ≡ length t.order
  unfolding s t
  n_right = omega (arith, one_less t.first, order_size r d w)

  order_right : take s.n s.list ≡ t.order
  unfolding s t
  order_right =
      rw n_right
      (fours_right 16 t.order (0 ∷ 0 ∷ 0 ∷ []) (below_by 64 t.order λ p i. omega (arith, order_below r d w p i)) (omega (arith, order_size r d w)))

  leaf_right : (p : ℕ) → p < 64 → has_bit s.all p ≡ member p t.all
  unfolding s t
  leaf_right p h = set_right t.all _ p h

  s_fine : Fine r s
  unfolding s t standing
  s_fine = record {
    size = omega (arith, n_right, order_size r d w);
    leaves = λ p i. order_below r d w p (rw order_right at i);
    once = rw order_right (order_once r d w);
    set = λ p h. go p h (dec_lt p 64);
  }
    where
      go : (p : ℕ) → count r ≤ p → Dec (p < 64) → has_bit s.all p ≡ false
      go p h (yes k) = leaf_right p k ∙ filter_above _ (count r) p h
      go p h (no k) = set_few _ p (omega arith)

  s_means : means (count r) s ≡ t
  unfolding s t standing
  s_means =
      let all : filter (has_bit s.all) (from 0 (count r)) ≡ t.all = filter_cut _ _ 0 (count r) λ p h. leaf_right p (omega arith) ∙ filter_below _ (count r) p (omega arith) in
      let first = first_right (length t.order % 128) t.first in
      let some = some_right t.some in
      λ i. record { order = order_right i; first = first i; all = all i; some = some i }

-- THE STANDING, from the fields as the code takes them out.
pub unpack_right : (v : List ℕ) → Unpacked v (taken v)
unfolding s t
unpack_right v = record {
  stands = λ {r} w origin byte d most e.
      let all : v ≡ fields (standing r w) origin byte = e ∙ held_record (count r) (standing r w) origin byte (order_size r d w) most ∙ packed (standing r w) origin byte in
      rw all (record { fine = s_fine r d most w origin byte; is = s_means r d most w origin byte });
}
