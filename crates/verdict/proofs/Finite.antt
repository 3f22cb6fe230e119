-- A pattern has finitely many standings, so its records come to an end.
-- Assumes nothing.
use mathlib.Core.Path.{◌≡◌, refl, sym, ap, ap₂, subst}
use mathlib.Core.Logic.{◌⊎◌, inl, inr}
use Prim.Native.Nat.{ℕ, zero, suc, ◌+◌, ◌*◌, ◌^◌, ◌≤◌, ◌<◌}
use mathlib.Core.Bool.{Bool, true, false, cond}
use mathlib.Core.List.{List, [], ◌∷◌}
use native.Mathlib.Omega.{arith}
use native.Mathlib.Decide.{dec_lt}
use native.Mathlib.Nat.{mul-le-mul_left, mul-suc, pow-succ', pow-zero}
use lib.ListN.{length}
use lib.Dec.{T, eqb, eqb_refl}
use Rattle.theory.specs.Pattern.{Re, Numbered, count}
use Rattle.theory.specs.Outcomes.{outcomes}
use Rattle.theory.specs.Standing.{Standing, standing, member, from, filter, set_of, wanted}
use Rattle.theory.specs.Records.{at, Records, Alike, Unlike}
use Rattle.theory.specs.Code.Search.{SearchEnd, alike, unlike, full}
use Rattle.theory.proofs.Tests.{or_left, or_right}
use Rattle.theory.proofs.Sizes.{order_below, order_size}
use Rattle.theory.proofs.Run.{check}
use Rattle.theory.proofs.Members.{length_from, filter_size}
use Rattle.verdict.proofs.Words.{pigeons}

-- A digit below b, and a number above it.
pub digits_less : (b m x y : ℕ) → x < b → y < m → x + b * y < b * m
digits_less b m x y h g = omega (arith, mul-le-mul_left b g, mul-suc b y)

digits_below : (b x y z w : ℕ) → x < b → w < b → y < z → x + b * y ≡ w + b * z → ⊥
digits_below b x y z w h g o e = omega (arith, mul-le-mul_left b o, mul-suc b y)

pub digits_same : (b x y z w : ℕ) → x < b → w < b → x + b * y ≡ w + b * z → (x ≡ w) × (y ≡ z)
digits_same b x y z w h g e =
    elim (dec_lt y z) [
      | yes o ↦ absurd (digits_below b x y z w h g o e)
      | no o ↦ elim (dec_lt z y) [
        | yes i ↦ absurd (digits_below b w z y x g h i (sym e))
        | no i ↦ (let s : y ≡ z = omega arith in (omega (arith, ap (λ m. b * m) s), s))
      ]
    ]

-- A list of at most n numbers below c, as a number.
abbrev Small : ℕ → List ℕ → Type 0
Small c [] = Unit {0}
Small c (p ∷ l) = (p < c) × Small c l

code : ℕ → ℕ → List ℕ → ℕ
code c zero l = 0
code c (suc n) [] = 0 + suc c * code c n []
code c (suc n) (p ∷ l) = suc p + suc c * code c n l

code_less : (c n : ℕ) (l : List ℕ) → Small c l → code c n l < suc c ^ n
unfolding code
code_less c zero l h = rw pow-zero (omega arith)
code_less c (suc n) [] h = rw (pow-succ' (suc c) n) (digits_less (suc c) (suc c ^ n) 0 (code c n []) (omega arith) (code_less c n [] tt))
code_less c (suc n) (p ∷ l) h = rw (pow-succ' (suc c) n) (digits_less (suc c) (suc c ^ n) (suc p) (code c n l) (omega arith) (code_less c n l h.1))

code_same : (c n : ℕ) (l m : List ℕ) → Small c l → Small c m → length l ≤ n → length m ≤ n → code c n l ≡ code c n m → l ≡ m
unfolding code
code_same c zero [] [] h g a b e = refl
code_same c zero [] (q ∷ m) h g a b e = absurd (omega arith)
code_same c zero (p ∷ l) m h g a b e = absurd (omega arith)
code_same c (suc n) [] [] h g a b e = refl
code_same c (suc n) [] (q ∷ m) h g a b e = absurd (let x = digits_same (suc c) 0 (code c n []) (code c n m) (suc q) (omega arith) (omega arith) e in omega arith)
code_same c (suc n) (p ∷ l) [] h g a b e = absurd (let x = digits_same (suc c) (suc p) (code c n l) (code c n []) 0 (omega arith) (omega arith) e in omega arith)
code_same c (suc n) (p ∷ l) (q ∷ m) h g a b e =
    let x = digits_same (suc c) (suc p) (code c n l) (code c n m) (suc q) (omega arith) (omega arith) e in
    let s : p ≡ q = omega arith in
    ap₂ ◌∷◌ s (code_same c n l m h.1 g.1 (omega arith) (omega arith) x.1)

small_by : (c : ℕ) (l : List ℕ) → ((p : ℕ) → T (member p l) → p < c) → Small c l
small_by c [] h = tt
small_by c (p ∷ l) h = (h p (or_left (eqb p p) (member p l) (eqb_refl p)), small_by c l λ q t. h q (or_right (eqb q p) (member q l) t))

filter_small : (f : ℕ → Bool) (c : ℕ) (l : List ℕ) → Small c l → Small c (filter f l)
filter_small f c [] h = tt
filter_small f c (p ∷ l) h = go (f p) (filter_small f c l h.1)
  where
    go : (b : Bool) → Small c (filter f l) → Small c (cond b (p ∷ filter f l) (filter f l))
    go true s = (h.0, s)
    go false s = s

from_small : (c n d : ℕ) → n + d ≤ c → Small c (from n d)
from_small c n zero h = tt
from_small c n (suc d) h = (omega arith, from_small c (suc n) d (omega arith))

bool : Bool → ℕ
bool true = 1
bool false = 0

bool_less : (b : Bool) → bool b < 2
unfolding bool
bool_less true = omega arith
bool_less false = omega arith

bool_same : (a b : Bool) → bool a ≡ bool b → a ≡ b
unfolding bool
bool_same true true e = refl
bool_same true false e = absurd (omega arith)
bool_same false true e = absurd (omega arith)
bool_same false false e = refl

module _ (r : Re) (d : Numbered 0 r) where
  -- A standing as a number,
  most : ℕ
  most = suc (count r) ^ count r

  standing_code : Standing → ℕ
  standing_code s = bool s.first + 2 * (bool s.some + 2 * (code (count r) (count r) s.order + most * code (count r) (count r) s.all))

  -- below this bound.
  pub bound : ℕ
  bound = 2 * (2 * (most * most))

  order_small : (w : List ℕ) → Small (count r) (standing r w).order
  order_small w = small_by (count r) (standing r w).order (order_below r d w)

  all_small : (w : List ℕ) → Small (count r) (standing r w).all
  unfolding standing
  all_small w = filter_small _ (count r) (from 0 (count r)) (from_small (count r) 0 (count r) (omega arith))

  all_size : (w : List ℕ) → length (standing r w).all ≤ count r
  unfolding standing
  all_size w = subst (λ n. length (set_of r (wanted (outcomes r w 0))) ≤ n) (length_from 0 (count r)) (filter_size (λ p. member p (wanted (outcomes r w 0))) (from 0 (count r)))

  code_bound : (w : List ℕ) → standing_code (standing r w) < bound
  unfolding standing_code bound most
  code_bound w =
      let s = standing r w in
      let m = suc (count r) ^ count r in
      digits_less 2 (2 * (m * m)) (bool s.first) _ (bool_less s.first)
      (digits_less 2 (m * m) (bool s.some) _ (bool_less s.some)
      (digits_less m m _ _ (code_less (count r) (count r) s.order (order_small w)) (code_less (count r) (count r) s.all (all_small w))))

  code_standing : (v w : List ℕ) → standing_code (standing r v) ≡ standing_code (standing r w) → standing r v ≡ standing r w
  unfolding standing_code most
  code_standing v w e =
      let s = standing r v in
      let t = standing r w in
      let c = count r in
      let m = suc (count r) ^ count r in
      let a = digits_same 2 (bool s.first) _ _ (bool t.first) (bool_less s.first) (bool_less t.first) e in
      let b = digits_same 2 (bool s.some) _ _ (bool t.some) (bool_less s.some) (bool_less t.some) a.1 in
      let f = digits_same m (code c c s.order) (code c c s.all) (code c c t.all) (code c c t.order) (code_less c c s.order (order_small v)) (code_less c c t.order (order_small w)) b.1 in
      let e1 = code_same c c s.order t.order (order_small v) (order_small w) (order_size r d v) (order_size r d w) f.0 in
      let e2 = bool_same s.first t.first a.0 in
      let e3 = code_same c c s.all t.all (all_small v) (all_small w) (all_size v) (all_size w) f.1 in
      let e4 = bool_same s.some t.some b.0 in
      λ i. record { order = e1 i; first = e2 i; all = e3 i; some = e4 i }

  -- THERE ARE NO MORE RECORDS THAN THAT,
  pub bounded : {L : List (List ℕ)} → Records (standing r) L → length L ≤ bound
  bounded {L} a =
      pigeons bound (λ k. k) (λ k. standing_code (standing r (at L k))) (length L)
      (λ k l. (standing_code (standing r (at L k)), code_bound (at L k), refl))
      (λ j k o l e. a.fresh j k o l (code_standing (at L j) (at L k) e))

  -- so the records of a pattern are all there, or go up to the first witness's.
  pub settled : ((L : List (List ℕ)) × Alike (standing r) L) ⊎ ((L : List (List ℕ)) × (w : List ℕ) × Unlike (standing r) L w)
  settled = go (check r d (suc bound))
    where
      go : SearchEnd r (suc bound) → ((L : List (List ℕ)) × Alike (standing r) L) ⊎ ((L : List (List ℕ)) × (w : List ℕ) × Unlike (standing r) L w)
      go (alike L h a) = inl (L, a)
      go (unlike L w h a) = inr (L, w, a)
      go (full L h a) = absurd (let c = bounded a.records in omega arith)
