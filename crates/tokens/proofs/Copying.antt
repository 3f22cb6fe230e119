-- Copies of a part of what an array holds.
-- Assumes nothing.
use mathlib.Core.Path.{◌≡◌, refl, sym, ap, ◌∙◌, subst}
use Prim.Native.Nat.{ℕ, ◌+◌, ◌-◌, ◌≤◌, ◌<◌}
use mathlib.Core.List.{List, [], ◌∷◌, ◌++◌, append_assoc}
use native.Mathlib.Omega.{arith}
use native.Mathlib.Numerals.{add-one}
use lib.ListN.{length, take, get_or, length-append, get_or-append}
use lib.Seq.{take-suc, get_or-take, get_or-append-add}
use Rattle.grammar.specs.Code.Tokens.{blocks}
use Rattle.tokens.specs.Held.{HoldsCodes, Added, Rewritten}
use Rattle.tokens.specs.Copied.{Copied, again, nested}
use Rattle.tokens.proofs.Blocks.{again_more, must_first}
use Rattle.tokens.proofs.Laws.{full}

pub copy_full : (a : List ℕ) (n from size : ℕ) → 2815 ≤ n → Copied a n from size (λ k. k) a n
copy_full a n from size h = record { room = λ r. r; more = omega arith; holds = λ l k z g x y. (full a n k h).holds (l ++ (k ++ z)) g }

three : (l k z : List ℕ) → length (l ++ (k ++ z)) ≡ length l + (length k + length z)
three l k z = length-append l (k ++ z) ∙ ap (λ n. length l + n) (length-append k z)

-- The code at the place `from + i` of an array that holds a block at `from`, and more after it, is the block's i-th.
code_here : {b : List ℕ} {m : ℕ} (from i : ℕ) (l k z t : List ℕ) → HoldsCodes b m ((l ++ (k ++ z)) ++ t) → from ≡ length l → i < length k → from + i < 2815 → get_or b (from + i) 0 ≡ get_or k i 0
code_here {b} {m} from i l k z t s j u f =
    let o = three l k z in
    let q = length-append (l ++ (k ++ z)) t in
    let v = s.used in
    sym (get_or-take m b (from + i) 0 (omega arith))
    ∙ ap (λ x. get_or x (from + i) 0) s.same
    ∙ get_or-take 2815 ((l ++ (k ++ z)) ++ t) (from + i) 0 f
    ∙ get_or-append (l ++ (k ++ z)) t 0 (from + i) (omega arith)
    ∙ ap (λ x. get_or (l ++ (k ++ z)) (x + i) 0) j
    ∙ get_or-append-add l (k ++ z) i 0
    ∙ get_or-append k z 0 i u

pub copy_more : {a b c : List ℕ} {n m p : ℕ} (from size i : ℕ) → i < size → Copied a n from size (take i) b m → Added b m (get_or b (from + i) 0 ∷ []) c p → Copied a n from size (take (i + 1)) c p
copy_more {b = b} {m = m} from size i h w d =
    record {
      room = λ r. d.room (w.room r);
      more = omega (arith, w.more, d.more);
      holds = λ l k z g x y.
          let s : HoldsCodes b m ((l ++ (k ++ z)) ++ take i k) = w.holds l k z g x y in
          let u : i < length k = omega arith in
          let e : get_or b (from + i) 0 ≡ get_or k i 0 = code_here from i l k z (take i k) s (omega arith) u (omega arith) in
          let v : take (i + 1) k ≡ take i k ++ (get_or b (from + i) 0 ∷ []) = rw (add-one i, take-suc k i 0 u, e) refl in
          rw (v, ← append_assoc (l ++ (k ++ z)) (take i k) (get_or b (from + i) 0 ∷ [])) (d.holds ((l ++ (k ++ z)) ++ take i k) s);
    }

pub copies_more : {a b c : List ℕ} {n m p : ℕ} (from i : ℕ) → from ≤ n → Rewritten a n from (again i) b m → Copied b m from (n - from) (λ k. k) c p → Rewritten a n from (again (i + 1)) c p
copies_more from i h w d =
    record {
      room = λ r. d.room (w.room r);
      more = λ r. omega (arith, w.more r, d.more);
      holds = λ l k g e.
          rw (append_assoc l (again i k) k, again_more i k) at
          (d.holds l k (blocks i k []) (w.holds l k g e) e (omega (arith, g.used, length-append l k)));
    }

-- A part rewritten, and then copies of it.
pub copies_of : {a b c : List ℕ} {n m p from : ℕ} {f : List ℕ → List ℕ} (i : ℕ) → Rewritten a n from f b m → Rewritten b m from (again i) c p → Rewritten a n from (λ k. again i (f k)) c p
copies_of {f = f} i w d = record { room = λ r. d.room (w.room r); more = λ r. d.more (w.more r); holds = λ l k g e. d.holds l (f k) (w.holds l k g e) e }

-- THE COPIES OF A LAZY REPEAT, of which some must be: those, then one with the code c in front, and copies of that.
pub led_copies : {a b d e f : List ℕ} {n m p q r from : ℕ} {c : ℕ} (least around : ℕ) → 0 < least → from ≤ n → Rewritten a n from (again (least - 1)) b m → Added b m (c ∷ []) d p
    → Copied d p from (n - from) (λ k. k) e q → Rewritten e q m (again around) f r → Rewritten a n from (nested (c ∷ []) least around) f r
led_copies {e = e} {n = n} {q = q} {from = from} {c = c} least around h i w x y z =
    record {
      room = λ o. z.room (y.room (x.room (w.room o)));
      more = λ o. omega (arith, w.more o, x.more, y.more, z.more (omega (arith, x.more, y.more)));
      holds = λ l k g o.
          let first = w.holds l k g o in
          let rest : List ℕ = blocks (least - 1) k [] ++ (c ∷ []) in
          let led = subst (HoldsCodes _ _) (led_block l k (blocks (least - 1) k [])) (x.holds (l ++ again (least - 1) k) first) in
          let one : HoldsCodes e q ((l ++ again (least - 1) k) ++ (c ∷ k)) = subst (HoldsCodes e q) (led_end l k (blocks (least - 1) k [])) (y.holds l k rest led o (omega (arith, g.used, length-append l k))) in
          subst (HoldsCodes _ _) (must_first least around h l (c ∷ []) k) (z.holds (l ++ again (least - 1) k) (c ∷ k) one first.used);
    }
  where
    led_block : (l k u : List ℕ) → (l ++ (k ++ u)) ++ (c ∷ []) ≡ l ++ (k ++ (u ++ (c ∷ [])))
    led_block l k u = simp append_assoc

    led_end : (l k u : List ℕ) → (l ++ (k ++ (u ++ (c ∷ [])))) ++ k ≡ (l ++ (k ++ u)) ++ (c ∷ k)
    led_end l k u = simp append_assoc
