-- Laws of the bytes of a line: those before its newline, and the first ones of them.
-- Assumes nothing.
use mathlib.Core.Path.{◌≡◌, refl, sym, ap, ◌∙◌}
use mathlib.Core.Bool.{Bool, true, false, not, true≢false}
use mathlib.Core.List.{List, [], ◌∷◌, ◌++◌}
use Prim.Native.Nat.{ℕ, zero, suc, ◌+◌, ◌-◌, ◌≤◌, ◌<◌, min}
use native.Mathlib.Omega.{arith}
use native.Mathlib.Numerals.{add-one}
use lib.ListN.{length, take, drop, get_or, set, length-append, length-take}
use lib.Seq.{take_all, take-append-le, take-suc-set}
use lib.Dec.{T, eqb, leb, leb→le, nleb→lt}
use borrow.Author.Tests.{eq-eqb, eqb-true, lt-leb}
use Rattle.std.specs.Prelude.{None, Some}
use Rattle.std.specs.List.{position, position_or_len, starts_with}
use Rattle.std.proofs.lemmas.List.Quantifiers.{position-Some}
use Rattle.std.proofs.lemmas.List.Sums.{fails_before_first}
use Rattle.std.proofs.lemmas.List.{get_or_append_left, get_or-take, ext_get_or, take-append-drop}
use Rattle.std.proofs.lemmas.Slice.Eq.{starts_is}
use Rattle.std.proofs.lemmas.Bool.Decides.{Decides-eqb}
use Rattle.std.proofs.lemmas.Grind.{common_steps}
use Rattle.printing.proofs.Laws.{take_min}
use Rattle.lines.specs.Lines.{BeginsWith, up_to, ended, past}

-- What is cut off does not count, whatever follows it.
pub take_cut : (k : ℕ) (x y : List ℕ) → take k (take k x ++ y) ≡ take k (x ++ y)
take_cut zero x y = refl
take_cut (suc k) [] y = refl
take_cut (suc k) (a ∷ x) y = ap (λ l. a ∷ l) (take_cut k x y)

-- One byte more, where there is room, and where there is none.
pub keep_one : (k : ℕ) (l : List ℕ) (n b : ℕ) → n < length l → n < k → take (n + 1) (set l n b) ≡ take k (take n l ++ (b ∷ []))
keep_one k l n b h j =
    let p : length (take n l) ≡ min n (length l) = length-take n l in
    let q : length (take n l ++ (b ∷ [])) ≡ length (take n l) + 1 = length-append (take n l) (b ∷ []) in
    ap (λ i. take i (set l n b)) (add-one n) ∙ take-suc-set l n b h ∙ sym (take_all k (take n l ++ (b ∷ [])) (omega arith))

pub keep_none : (k : ℕ) (l : List ℕ) (n b : ℕ) → n ≡ k → k ≤ length l → take n l ≡ take k (take n l ++ (b ∷ []))
keep_none k l n b e h = rw e (sym (take_cut k l (b ∷ []) ∙ take-append-le k l (b ∷ []) h))

-- No more than all.
pub take_least : (k : ℕ) (l : List ℕ) (n : ℕ) → length l ≡ n → take (min k n) l ≡ take k l
take_least k l n e = ap (λ i. take (min k i) l) (sym e) ∙ take_min k l

-- What fits after bytes that are kept is what is kept of all.
pub take_room : (k : ℕ) (x y : List ℕ) → length x ≤ k → x ++ take (min (length y) (k - length x)) y ≡ take k (x ++ y)
take_room k [] y h = let e : min (length y) (k - length {A = ℕ} []) ≡ min k (length y) = omega arith in ap (λ i. take i y) e ∙ take_min k y
take_room zero (a ∷ x) y h = absurd (omega arith)
take_room (suc k) (a ∷ x) y h =
    let e : min (length y) (suc k - suc (length x)) ≡ min (length y) (k - length x) = omega arith in
    ap (λ i. a ∷ (x ++ take i y)) e ∙ ap (λ l. a ∷ l) (take_room k x y (omega arith))

-- The bytes up to the first newline and after it.
parted : (l : List ℕ) (i : ℕ) → i < length l → get_or l i 0 ≡ 10 → ((k : ℕ) → k < i → eqb (get_or l k 0) 10 ≡ false)
    → (up_to l ≡ take i l) × (ended l ≡ true) × (past l ≡ drop (suc i) l)
parted [] i h e f = absurd (omega arith)
parted (b ∷ l) zero h e f = (rw (eq-eqb b 10 e) refl, rw (eq-eqb b 10 e) refl, rw (eq-eqb b 10 e) refl)
parted (b ∷ l) (suc i) h e f =
    let (u, v, w) = parted l i (omega arith) e (λ k j. f (suc k) (omega arith)) in
    let n : eqb b 10 ≡ false = f 0 (omega arith) in
    (rw n (ap (λ x. b ∷ x) u), rw n v, rw n w)

pub at_newline : (l : List ℕ) (i : ℕ) → position (λ b. eqb b 10) l ≡ Some i → (i < length l) × (up_to l ≡ take i l) × (ended l ≡ true) × (past l ≡ drop (i + 1) l)
at_newline l i e =
    let (h, t, f) = position-Some (λ b. eqb b 10) l i 0 e in
    let (u, v, w) = parted l i h (eqb-true (get_or l i 0) 10 t) f in
    (h, u, v, w ∙ ap (λ k. drop k l) (sym (add-one i)))

unparted : (l : List ℕ) → ((k : ℕ) → k < length l → eqb (get_or l k 0) 10 ≡ false) → ended l ≡ false
unparted [] f = refl
unparted (b ∷ l) f = let n : eqb b 10 ≡ false = f 0 (omega arith) in rw n (unparted l (λ k j. f (suc k) (omega arith)))

pub no_newline : (l : List ℕ) → position (λ b. eqb b 10) l ≡ None → ended l ≡ false
no_newline l e =
    let far : length l ≤ position_or_len (λ b. eqb b 10) l = grind (arith, common_steps) in
    unparted l (λ k j. fails_before_first (λ b. eqb b 10) l k 0 (omega arith))

-- Bytes without a newline are all before it, and none is after it.
pub not_ended : (l : List ℕ) → ended l ≡ false → (up_to l ≡ l) × (past l ≡ [])
not_ended [] e = (refl, refl)
not_ended (b ∷ l) e = go (eqb b 10) refl (not_ended l)
  where
    go : (t : Bool) → eqb b 10 ≡ t → (ended l ≡ false → (up_to l ≡ l) × (past l ≡ [])) → (up_to (b ∷ l) ≡ b ∷ l) × (past (b ∷ l) ≡ [])
    go true p f = absurd (true≢false (rw p at e))
    go false p f = let (u, v) = f (rw p at e) in rw p (ap (λ x. b ∷ x) u, v)

-- What the comparison of the first bytes says.
pub begins_is : (s word : List ℕ) (r : Bool) → r ≡ starts_with eqb s word → BeginsWith s word r
begins_is s word r e =
    let is = starts_is Decides-eqb s word r e in
    record {
      yes = λ t.
          let f = is.0 t in
          (omega (arith, ap length f, length-append word (drop (length word) s)), λ k h. ap (λ l. get_or l k 0) f ∙ get_or_append_left word (drop (length word) s) 0 k h);
      no = λ t b.
          let same : take (length word) s ≡ word =
          ext_get_or 0 (take (length word) s) word (omega (arith, length-take (length word) s, b.0)) (λ k h. get_or-take (length word) s k 0 (omega (arith, length-take (length word) s)) ∙ b.1 k (omega (arith, length-take (length word) s))) in
          true≢false (sym (is.1 (drop (length word) s) (sym (take-append-drop (length word) s) ∙ ap (λ x. x ++ drop (length word) s) same)) ∙ t);
    }

-- What fits in a buffer after what waits there: nothing longer than the buffer,
pub no_room : (n k : ℕ) → 65536 < k → false ≡ leb (n + k) 65536
no_room n k h = sym (lt-leb (n + k) 65536 (omega arith))

-- and else what the rest can take.
pub same_room : (n k : ℕ) → k ≤ 65536 → leb n (65536 - k) ≡ leb (n + k) 65536
same_room n k h = go (leb n (65536 - k)) (leb (n + k) 65536) (leb→le n (65536 - k)) (nleb→lt n (65536 - k)) (leb→le (n + k) 65536) (nleb→lt (n + k) 65536)
  where
    go : (a b : Bool) → (T a → n ≤ 65536 - k) → (T (not a) → 65536 - k < n) → (T b → n + k ≤ 65536) → (T (not b) → 65536 < n + k) → a ≡ b
    go true true p q s t = refl
    go false false p q s t = refl
    go true false p q s t = absurd (let x = p tt in let y = t tt in omega arith)
    go false true p q s t = absurd (let x = q tt in let y = s tt in omega arith)
