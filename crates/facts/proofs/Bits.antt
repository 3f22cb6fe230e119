-- Sets of leaves as numbers: a set without the leaves of another, a number without bits, the list of a number.
-- Assumes nothing.
use mathlib.Core.Path.{◌≡◌, refl, sym, ap, ◌∙◌}
use mathlib.Core.Bool.{Bool, true, false, not, ◌&&◌, cond, true≢false}
use mathlib.Core.List.{List, [], ◌∷◌}
use Prim.Native.Nat.{ℕ, zero, suc, ◌+◌, ◌^◌, ◌/◌, ◌%◌, ◌≤◌, ◌<◌}
use native.Mathlib.Omega.{arith}
use native.Mathlib.Numerals.{add-one}
use native.Mathlib.Decide.{dec_lt, ℕ_discrete}
use lib.Dec.{T, eqb}
use lib.ListN.{length, get_or}
use lib.Bits.{bit_and, bit_xor, xor_add_and, xor_shr}
use borrow.Author.Count.{below_more}
use borrow.Author.Tests.{eq-eqb, ne_eqb}
use Rattle.theory.specs.Standing.{member, from, filter}
use Rattle.theory.specs.Code.Members.{any}
use Rattle.theory.proofs.Tests.{T_true, true_T, not_true, same_test, or_false, and_true, and_false}
use Rattle.theory.proofs.Members.{any_found, any_of, filter_of, filter_passes, member_from}
use Rattle.words.specs.Sets.{has_bit, with_leaf_if}
use Rattle.words.proofs.Bits.{no_bit, and_bit, half_bit, last_bit, with_if_bit}
use Rattle.facts.specs.Sets.{leaves_in}

-- The bits of an exclusive or: its last digit is that of the sum.
odd_sum : (a b : ℕ) → Dec (a % 2 ≡ 1) → Dec (b % 2 ≡ 1) → eqb ((a + b) % 2) 1 ≡ cond (eqb (b % 2) 1) (not (eqb (a % 2) 1)) (eqb (a % 2) 1)
odd_sum a b (yes e) (yes f) = rw (eq-eqb (a % 2) 1 e, eq-eqb (b % 2) 1 f) (ne_eqb ((a + b) % 2) 1 (λ g. omega arith))
odd_sum a b (yes e) (no f) = rw (eq-eqb (a % 2) 1 e, ne_eqb (b % 2) 1 f) (eq-eqb ((a + b) % 2) 1 (omega arith))
odd_sum a b (no e) (yes f) = rw (ne_eqb (a % 2) 1 e, eq-eqb (b % 2) 1 f) (eq-eqb ((a + b) % 2) 1 (omega arith))
odd_sum a b (no e) (no f) = rw (ne_eqb (a % 2) 1 e, ne_eqb (b % 2) 1 f) (ne_eqb ((a + b) % 2) 1 (λ g. omega arith))

xor_bit : (x y q : ℕ) → has_bit (bit_xor x y) q ≡ cond (has_bit y q) (not (has_bit x q)) (has_bit x q)
xor_bit x y q =
    let a = x / 2 ^ q in
    let b = y / 2 ^ q in
    let last : bit_xor a b % 2 ≡ (a + b) % 2 = omega (arith, xor_add_and a b) in
    rw (xor_shr x y q, last) (odd_sum a b (ℕ_discrete (a % 2) 1) (ℕ_discrete (b % 2) 1))

pub without_bits : (x y p : ℕ) → has_bit (bit_xor x (bit_and x y)) p ≡ (has_bit x p && not (has_bit y p))
without_bits x y p = xor_bit x (bit_and x y) p ∙ rw (and_bit x y p) (go (has_bit x p) (has_bit y p))
  where
    go : (a b : Bool) → cond (a && b) (not a) a ≡ (a && not b)
    go true true = refl
    go true false = refl
    go false b = refl

-- A number without bits is 0: by its half.
zero_of_bits : (k z : ℕ) → z < k → ((q : ℕ) → has_bit z q ≡ false) → z ≡ 0
zero_of_bits zero z l h = absurd (omega arith)
zero_of_bits (suc k) zero l h = refl
zero_of_bits (suc k) (suc y) l h =
    let half : suc y / 2 ≡ 0 = zero_of_bits k (suc y / 2) (omega arith) (λ q. half_bit (suc y) q ∙ h (suc q)) in
    absurd (true≢false (sym (last_bit (suc y) ∙ eq-eqb (suc y % 2) 1 (omega arith)) ∙ h 0))

-- A number with bits below c only: it is not 0 if it has one of them.
pub some_bit : (z c : ℕ) → ((q : ℕ) → c ≤ q → has_bit z q ≡ false) → not (eqb z 0) ≡ any (has_bit z) (from 0 c)
some_bit z c h = go (any (has_bit z) (from 0 c)) refl
  where
    none : any (has_bit z) (from 0 c) ≡ false → (q : ℕ) → Dec (q < c) → has_bit z q ≡ false
    none e q (yes l) = not_true (has_bit z q) λ t. true≢false (sym (T_true _ (any_of (has_bit z) (from 0 c) q (member_from q 0 c (omega arith) (omega arith)) t)) ∙ e)
    none e q (no l) = h q (omega arith)

    go : (d : Bool) → any (has_bit z) (from 0 c) ≡ d → not (eqb z 0) ≡ d
    go false e = ap not (eq-eqb z 0 (zero_of_bits (suc z) z (omega arith) (λ q. none e q (dec_lt q c))))
    go true e =
        let (p, m, t) = any_found (has_bit z) (from 0 c) (true_T _ e) in
        ap not (ne_eqb z 0 λ i. true≢false (sym (T_true _ t) ∙ ap (λ n. has_bit n p) i ∙ no_bit p))

-- A leaf of a filtered list, and the list of a number that is 0 or is not.
pub member_filter : (f : ℕ → Bool) (c p : ℕ) → p < c → member p (filter f (from 0 c)) ≡ f p
member_filter f c p h = same_test _ _ (λ t. filter_passes f (from 0 c) p t) (λ t. filter_of f (from 0 c) p t (member_from p 0 c (omega arith) (omega arith)))

pub none_in : (x : ℕ) (l : List ℕ) → x ≡ 0 → filter (has_bit x) l ≡ []
none_in x [] e = refl
none_in x (p ∷ l) e = rw (e, no_bit p) (none_in x l e)

pub some_in_set : (x c : ℕ) → ((q : ℕ) → c ≤ q → has_bit x q ≡ false) → (x ≡ 0 → ⊥) → 0 < length (leaves_in c x)
some_in_set x c h n =
    let (p, m, t) = any_found (has_bit x) (from 0 c) (true_T _ (sym (some_bit x c h) ∙ ap not (ne_eqb x 0 n))) in
    full (leaves_in c x) p (filter_of (has_bit x) (from 0 c) p t m)
  where
    full : (l : List ℕ) (p : ℕ) → T (member p l) → 0 < length l
    full [] p t = absurd t
    full (q ∷ l) p t = omega arith

-- The loop over the rows for those that have the end: none yet, and one more.
abbrev pub EndsBelow : List ℕ → ℕ → ℕ → Type 0
EndsBelow ends n x = ((p : ℕ) → p < n → has_bit x p ≡ eqb (get_or ends (suc p) 0) 1) × ((p : ℕ) → n ≤ p → has_bit x p ≡ false)

pub ends_none : (ends : List ℕ) → EndsBelow ends 0 0
ends_none ends = (λ p h. absurd (omega arith), λ p h. no_bit p)

pub ends_more : (ends : List ℕ) (n x : ℕ) → n < 64 → EndsBelow ends n x → EndsBelow ends (n + 1) (with_leaf_if (eqb (get_or ends (n + 1) 0) 1) x n)
ends_more ends n x small (old, fresh) = (below_more _ n (λ p h. other p (λ e. omega arith) ∙ old p h) here, λ p h. other p (λ e. omega arith) ∙ fresh p (omega arith))
  where
    is : Bool
    is = eqb (get_or ends (n + 1) 0) 1

    other : (p : ℕ) → (p ≡ n → ⊥) → has_bit (with_leaf_if is x n) p ≡ has_bit x p
    other p e = with_if_bit is x n p small ∙ rw (ne_eqb p n e, and_false is) (or_false (has_bit x p))

    here : has_bit (with_leaf_if is x n) n ≡ eqb (get_or ends (suc n) 0) 1
    here = with_if_bit is x n n small ∙ rw (fresh n (omega arith), eq-eqb n n refl, and_true is, add-one n)
