-- What an array holds after codes are added to it, after a part is rewritten, and after the one and then the other.
-- Assumes nothing.
use mathlib.Core.Path.{◌≡◌, sym, ap, ◌∙◌}
use Prim.Native.Nat.{ℕ, ◌+◌, ◌≤◌, ◌<◌, min}
use mathlib.Core.Bool.{Bool, true, false, not}
use mathlib.Core.List.{List, [], ◌∷◌, ◌++◌, append_assoc, append-nil}
use native.Mathlib.Omega.{arith}
use native.Mathlib.Numerals.{add-one}
use lib.Dec.{T, leb, leb→le, nleb→lt}
use lib.ListN.{length, take, set, length-append, length-set}
use lib.Seq.{take_all, take-append-le, take-suc-set, take-take}
use Rattle.tokens.specs.Held.{HoldsCodes, Added, Rewritten}

pub pushed : (a : List ℕ) (n code : ℕ) → n < 2815 → Added a n (code ∷ []) (set a n code) (n + 1)
pushed a n code h =
    record {
      room = λ r. omega arith;
      more = omega arith;
      holds = λ l k.
          let s : length l ≡ n = omega (arith, k.used) in
          let g : length (l ++ (code ∷ [])) ≡ length l + 1 = length-append l (code ∷ []) in
          record {
            size = length-set a n code ∙ k.size;
            used = omega arith;
            same =
                rw (add-one n, take-suc-set a n code (omega (arith, k.size)), k.same, take_all 2815 l (omega arith))
                (sym (take_all 2815 (l ++ (code ∷ [])) (omega arith)));
          };
    }

-- Where the codes l fill the array, what comes after them is lost.
pub lost : {a : List ℕ} {n : ℕ} (l y z : List ℕ) → 2815 ≤ length l → HoldsCodes a n (l ++ y) → HoldsCodes a n (l ++ z)
lost l y z h k =
    record {
      size = k.size;
      used = omega (arith, k.used, length-append l y, length-append l z);
      same = k.same ∙ take-append-le 2815 l y h ∙ sym (take-append-le 2815 l z h);
    }

pub full : (a : List ℕ) (n : ℕ) (k : List ℕ) → 2815 ≤ n → Added a n k a n
full a n k h =
    record {
      room = λ r. r;
      more = omega arith;
      holds = λ l g. lost l [] k (omega (arith, g.used)) (rw append-nil g);
    }

pub added_more : {a b c : List ℕ} {n m p : ℕ} {y z : List ℕ} → Added a n y b m → Added b m z c p → Added a n (y ++ z) c p
added_more {y = y} {z = z} f g =
    record {
      room = λ r. g.room (f.room r);
      more = omega (arith, f.more, g.more);
      holds = λ l h. rw append_assoc at (g.holds (l ++ y) (f.holds l h));
    }

pub same_added : {a b : List ℕ} {n m : ℕ} {y z : List ℕ} → Added a n y b m → y ≡ z → Added a n z b m
same_added g e = rw e at g

-- With a place of the part that is past the codes, no part is there.
pub outside : (a : List ℕ) (n from : ℕ) (f : List ℕ → List ℕ) → n < from → Rewritten a n from f a n
outside a n from f h =
    record {
      room = λ r. r;
      more = λ r. absurd (omega arith);
      holds = λ l k g e. absurd (omega (arith, g.used, length-append l k));
    }

pub then_added : {a b c : List ℕ} {n m p from : ℕ} {f : List ℕ → List ℕ} {z : List ℕ} → Rewritten a n from f b m → Added b m z c p → Rewritten a n from (λ k. f k ++ z) c p
then_added {f = f} {z = z} w g =
    record {
      room = λ r. g.room (w.room r);
      more = λ r. omega (arith, w.more r, g.more);
      holds = λ l k h e. rw append_assoc at (g.holds (l ++ f k) (w.holds l k h e));
    }

pub same_codes : {a b : List ℕ} {n m from : ℕ} {f g : List ℕ → List ℕ} → Rewritten a n from f b m → ((k : List ℕ) → f k ≡ g k) → Rewritten a n from g b m
same_codes w e = record { room = w.room; more = w.more; holds = λ l k h s. rw (e k) at (w.holds l k h s) }

-- The array that is used up to a part holds what stands before it.
take_front : (n : ℕ) (l : List ℕ) → n ≡ min 2815 (length l) → take n l ≡ take 2815 l
take_front n l e = go (leb (length l) 2815) (leb→le (length l) 2815) (nleb→lt (length l) 2815)
  where
    go : (b : Bool) → (T b → length l ≤ 2815) → (T (not b) → 2815 < length l) → take n l ≡ take 2815 l
    go true p q = let s = p tt in take_all n l (omega arith) ∙ sym (take_all 2815 l (omega arith))
    go false p q = let s = q tt in let j : n ≡ 2815 = omega arith in ap (λ i. take i l) j

front : {a : List ℕ} {n from : ℕ} (l k : List ℕ) → from ≤ n → from ≡ min 2815 (length l) → HoldsCodes a n (l ++ k) → HoldsCodes a from l
front {a} {n} {from} l k h e g =
    record {
      size = g.size;
      used = e;
      same =
          sym (take-take from n a h)
          ∙ ap (λ u. take from u) g.same
          ∙ take-take from 2815 (l ++ k) (omega arith)
          ∙ take-append-le from l k (omega arith)
          ∙ take_front from l e;
    }

pub replaced : {a b : List ℕ} {n m from : ℕ} {z : List ℕ} → from ≤ n → Added a from z b m → Rewritten a n from (λ k. z) b m
replaced h g =
    record {
      room = λ r. g.room (omega arith);
      more = λ r. g.more;
      holds = λ l k s e. g.holds l (front l k h e s);
    }
