-- A code in front of a part: what each place of the array holds while the codes go one place up.
-- Assumes nothing.
use mathlib.Core.Path.{◌≡◌, refl, sym, ap, ◌∙◌, subst}
use Prim.Native.Nat.{ℕ, zero, suc, ◌+◌, ◌-◌, ◌≤◌, ◌<◌, min}
use mathlib.Core.Bool.{cond}
use mathlib.Core.List.{List, [], ◌∷◌, ◌++◌}
use native.Mathlib.Omega.{arith}
use native.Mathlib.Decide.{ℕ_discrete, dec_lt}
use lib.ListN.{length, take, drop, get_or, set, length-append, length-set, take-append-drop, get_or-append}
use lib.Seq.{take_all, take-suc, get_or-take, get_or-append-add, get_or-set_same, get_or-set_other, length-take-le}
use lib.Dec.{ltb, eqb}
use borrow.Author.Tests.{lt-ltb, le-ltb, eq-eqb, ne_eqb}
use Rattle.tokens.specs.Held.{HoldsCodes, Added, Rewritten}
use Rattle.tokens.proofs.Laws.{lost}

-- The code at the place j once the part that begins at `from` has a 0 in front.
abbrev raised : List ℕ → ℕ → ℕ → ℕ
raised a from j = cond (ltb j from) (get_or a j 0) (cond (eqb j from) 0 (get_or a (j - 1) 0))

-- The codes below i are raised, x is the next, and the others are as they were.
pub record Raised (a : List ℕ) (from i : ℕ) (b : List ℕ) (x : ℕ) : Type 0 where
  pub size : length b ≡ length a
  pub done : length a ≡ 2815 → (j : ℕ) → j < i → get_or b j 0 ≡ raised a from j
  pub next : x ≡ raised a from i
  pub rest : (j : ℕ) → i ≤ j → get_or b j 0 ≡ get_or a j 0

pub raised_more : {a b : List ℕ} {from i x : ℕ} → from ≤ i → i < 2815 → Raised a from i b x → Raised a from (i + 1) (set b i x) (get_or b i 0)
raised_more {a} {b} {from} {i} {x} h l r =
    let e : i + 1 - 1 ≡ i = omega arith in
    record {
      size = length-set b i x ∙ r.size;
      done = λ z j k. below z j k (ℕ_discrete j i);
      next = rw (le-ltb (i + 1) from (omega arith), ne_eqb (i + 1) from (λ q. omega arith), e) (r.rest i (omega arith));
      rest = λ j k. get_or-set_other b i j x 0 (λ q. omega arith) ∙ r.rest j (omega arith);
    }
  where
    below : length a ≡ 2815 → (j : ℕ) → j < i + 1 → Dec (j ≡ i) → get_or (set b i x) j 0 ≡ raised a from j
    below z j k (yes q) = rw q (get_or-set_same b i x 0 (omega (arith, r.size, z)) ∙ r.next)
    below z j k (no q) = get_or-set_other b i j x 0 q ∙ r.done z j (omega arith)

-- Two lists whose first n codes agree.
same_front : (n : ℕ) (l m : List ℕ) → n ≤ length l → n ≤ length m → ((j : ℕ) → j < n → get_or l j 0 ≡ get_or m j 0) → take n l ≡ take n m
same_front zero l m h k e = refl
same_front (suc n) l m h k e = rw (take-suc l n 0 (omega arith), take-suc m n 0 (omega arith), same_front n l m (omega arith) (omega arith) (λ j i. e j (omega arith)), e n (omega arith))

-- The code at a place of the array is that of what it holds.
held_code : {a : List ℕ} {n : ℕ} (l : List ℕ) → HoldsCodes a n l → (j : ℕ) → j < n → get_or a j 0 ≡ get_or l j 0
held_code {a} {n} l s j h = sym (get_or-take n a j 0 h) ∙ ap (λ u. get_or u j 0) s.same ∙ get_or-take 2815 l j 0 (omega (arith, s.used))

-- What is raised is the codes with a 0 in front of the part.
raised_code : {a : List ℕ} {n : ℕ} (from : ℕ) (l k : List ℕ) → HoldsCodes a n (l ++ k) → from ≡ min 2815 (length l) → (j : ℕ) → j ≤ n → j < 2815 → raised a from j ≡ get_or (l ++ (0 ∷ k)) j 0
raised_code {a} {n} from l k s e j h f = go (dec_lt j from) (ℕ_discrete j from)
  where
    go : Dec (j < from) → Dec (j ≡ from) → raised a from j ≡ get_or (l ++ (0 ∷ k)) j 0
    go (yes q) d =
        rw (lt-ltb j from q)
        (held_code (l ++ k) s j (omega (arith, s.used, length-append l k)) ∙ get_or-append l k 0 j (omega arith) ∙ sym (get_or-append l (0 ∷ k) 0 j (omega arith)))
    go (no q) (yes d) =
        let i : from ≡ length l = omega arith in
        let z : j ≡ length l + 0 = omega arith in
        rw (le-ltb j from (omega arith), eq-eqb j from d) (sym (ap (λ u. get_or (l ++ (0 ∷ k)) u 0) z ∙ get_or-append-add l (0 ∷ k) 0 0))
    go (no q) (no d) =
        let i : from ≡ length l = omega arith in
        let y : j - 1 ≡ length l + (j - 1 - length l) = omega arith in
        let z : j ≡ length l + suc (j - 1 - length l) = omega arith in
        rw (le-ltb j from (omega arith), ne_eqb j from d)
        (held_code (l ++ k) s (j - 1) (omega arith)
        ∙ ap (λ u. get_or (l ++ k) u 0) y ∙ get_or-append-add l k (j - 1 - length l) 0
        ∙ sym (ap (λ u. get_or (l ++ (0 ∷ k)) u 0) z ∙ get_or-append-add l (0 ∷ k) (suc (j - 1 - length l)) 0))

-- ALL CODES RAISED, AND THE LAST PUSHED: the part has the 0 in front.
pub raised_all : {a b c : List ℕ} {n m x from : ℕ} → from ≤ n → n ≤ 2815 → Raised a from n b x → Added b n (x ∷ []) c m → Rewritten a n from (λ k. 0 ∷ k) c m
raised_all {a} {b} {c} {n} {m} {x} {from} h f r d =
    record {
      room = d.room;
      more = λ i. omega (arith, d.more);
      holds = λ l k s e.
          let w : List ℕ = l ++ (0 ∷ k) in
          let i : length w ≡ suc (length (l ++ k)) = omega (arith, length-append l (0 ∷ k), length-append l k) in
          let q : length (take n w) ≡ n = length-take-le n w (omega (arith, s.used)) in
          let front : HoldsCodes b n (take n w) =
          record {
            size = r.size ∙ s.size;
            used = omega arith;
            same =
                same_front n b w (omega (arith, r.size, s.size)) (omega (arith, s.used)) (λ j o. r.done s.size j o ∙ raised_code from l k s e j (omega arith) (omega arith))
                ∙ sym (take_all 2815 (take n w) (omega arith));
          } in
          ends l k s e i front (dec_lt n 2815);
    }
  where
    ends : (l k : List ℕ) → HoldsCodes a n (l ++ k) → from ≡ min 2815 (length l) → length (l ++ (0 ∷ k)) ≡ suc (length (l ++ k)) → HoldsCodes b n (take n (l ++ (0 ∷ k))) → Dec (n < 2815) → HoldsCodes c m (l ++ (0 ∷ k))
    ends l k s e i front (yes o) =
        let w : List ℕ = l ++ (0 ∷ k) in
        let z : x ≡ get_or w n 0 = r.next ∙ raised_code from l k s e n (omega arith) o in
        let y : take n w ++ (x ∷ []) ≡ w = ap (λ u. take n w ++ (u ∷ [])) z ∙ sym (take-suc w n 0 (omega (arith, s.used))) ∙ take_all (suc n) w (omega (arith, s.used)) in
        subst (HoldsCodes c m) y (d.holds (take n w) front)
    ends l k s e i front (no o) =
        let w : List ℕ = l ++ (0 ∷ k) in
        let q : length (take n w) ≡ n = length-take-le n w (omega (arith, s.used)) in
        subst (HoldsCodes c m) (take-append-drop n w) (lost (take n w) (x ∷ []) (drop n w) (omega arith) (d.holds (take n w) front))
