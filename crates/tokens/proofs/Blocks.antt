-- The codes that repeats write: copies of one block, then others.
-- Assumes nothing.
use mathlib.Core.Path.{◌≡◌, refl, sym, ap, ◌∙◌}
use Prim.Native.Nat.{ℕ, zero, suc, ◌+◌, ◌-◌, ◌≤◌, ◌<◌}
use mathlib.Core.List.{List, [], ◌∷◌, ◌++◌, append_assoc, append-nil}
use native.Mathlib.Omega.{arith}
use native.Mathlib.Numerals.{add-one}
use lib.ListN.{replicate, replicate-append-replicate}
use Rattle.grammar.specs.Code.Tokens.{blocks}
use Rattle.theory.specs.Pattern.{Manner}
use Rattle.grammar.specs.Code.Codes.{exactly_codes, star_of, at_least_codes, lead_codes, shut_codes, close_codes, between_codes}
use Rattle.tokens.specs.Copied.{again, nested}

blocks_append : (n : ℕ) (k y z : List ℕ) → blocks n k y ++ z ≡ blocks n k (y ++ z)
blocks_append zero k y z = refl
blocks_append (suc n) k y z = append_assoc k (blocks n k y) z ∙ ap (λ u. k ++ u) (blocks_append n k y z)

blocks_add : (m n : ℕ) (k z : List ℕ) → blocks m k (blocks n k z) ≡ blocks (m + n) k z
blocks_add zero n k z = let e : n ≡ 0 + n = omega arith in ap (λ j. blocks j k z) e
blocks_add (suc m) n k z =
    let e : suc (m + n) ≡ suc m + n = omega arith in
    ap (λ u. k ++ u) (blocks_add m n k z) ∙ ap (λ j. blocks j k z) e

-- One more copy at the end is one more in front.
blocks_more : (n : ℕ) (k : List ℕ) → blocks n k [] ++ k ≡ k ++ blocks n k []
blocks_more zero k = sym (append-nil k)
blocks_more (suc n) k = append_assoc k (blocks n k []) k ∙ ap (λ u. k ++ u) (blocks_more n k)

pub again_more : (n : ℕ) (k : List ℕ) → again n k ++ k ≡ again (n + 1) k
again_more n k = rw add-one (blocks_more (suc n) k)

pub replicate_more : (n c : ℕ) → replicate n c ++ (c ∷ []) ≡ replicate (n + 1) c
replicate_more n c = replicate-append-replicate n 1 c

further : (x a b c : List ℕ) → ((x ++ a) ++ b) ++ c ≡ x ++ ((a ++ b) ++ c)
further x a b c = simp append_assoc

pub close_more : (how : Manner) (n : ℕ) → (close_codes how n ++ (1 ∷ [])) ++ shut_codes how ≡ close_codes how (n + 1)
close_more how n = rw add-one (go n)
  where
    go : (n : ℕ) → (close_codes how n ++ (1 ∷ [])) ++ shut_codes how ≡ close_codes how (suc n)
    go zero = ap (λ u. 1 ∷ u) (sym (append-nil (shut_codes how)))
    go (suc n) = ap (λ u. 1 ∷ u) (further (shut_codes how) (close_codes how n) (1 ∷ []) (shut_codes how) ∙ ap (λ u. shut_codes how ++ u) (go n))

-- What each repeat writes after the copies makes its codes.
pub no_codes : (times : ℕ) → times ≡ 0 → (k : List ℕ) → 0 ∷ [] ≡ exactly_codes times k
no_codes times e k = rw e refl

pub exactly_codes_lem : (times : ℕ) → 0 < times → (k : List ℕ) → again (times - 1) k ++ replicate (times - 1) 1 ≡ exactly_codes times k
exactly_codes_lem zero h k = absurd (omega arith)
exactly_codes_lem (suc m) h k =
    let e : suc m - 1 ≡ m = omega arith in
    rw e (blocks_append (suc m) k [] (replicate m 1))

pub at_least_codes_lem : (how : Manner) (times : ℕ) (k : List ℕ) → (again times k ++ (star_of how ∷ [])) ++ replicate times 1 ≡ at_least_codes how times k
at_least_codes_lem how m k = append_assoc (again m k) (star_of how ∷ []) (replicate m 1) ∙ blocks_append (suc m) k [] (star_of how ∷ replicate m 1)

pub no_optional_codes : (how : Manner) (least most : ℕ) → most ≤ least → (k : List ℕ) → exactly_codes least k ≡ between_codes how least (most - least) k
no_optional_codes how least most h k = let e : most - least ≡ 0 = omega arith in rw e refl

-- The copies that must be, and the optional ones.
pub eager_copies : (least most : ℕ) → least < most → (k : List ℕ) → again (most - 1) k ≡ nested [] least (most - least - 1) k
eager_copies least most h k =
    let e : suc (most - 1) ≡ least + suc (most - least - 1) = omega arith in
    ap (λ n. blocks n k []) e ∙ sym (blocks_add least (suc (most - least - 1)) k [])

pub none_first : (around least : ℕ) → least ≡ 0 → (c k : List ℕ) → again around (c ++ k) ≡ nested c least around k
none_first around least e c k = rw e refl

pub must_first : (least around : ℕ) → 0 < least → (l c k : List ℕ) → (l ++ again (least - 1) k) ++ again around (c ++ k) ≡ l ++ nested c least around k
must_first zero around h l c k = absurd (omega arith)
must_first (suc m) around h l c k =
    let e : suc m - 1 ≡ m = omega arith in
    rw e (append_assoc l (again m k) (again around (c ++ k)) ∙ ap (λ u. l ++ u) (blocks_append (suc m) k [] (again around (c ++ k))))

-- .. and what closes them.
pub between_codes_lem : (how : Manner) (least most : ℕ) → least < most → (k : List ℕ)
    → ((nested (lead_codes how) least (most - least - 1) k ++ shut_codes how) ++ close_codes how (most - least - 1)) ++ replicate least 1 ≡ between_codes how least (most - least) k
between_codes_lem how least most h k = go (most - least - 1) (omega arith)
  where
    go : (i : ℕ) → most - least ≡ suc i → ((nested (lead_codes how) least i k ++ shut_codes how) ++ close_codes how i) ++ replicate least 1 ≡ between_codes how least (most - least) k
    go i o =
        let w : List ℕ = (shut_codes how ++ close_codes how i) ++ replicate least 1 in
        rw o
        (further (nested (lead_codes how) least i k) (shut_codes how) (close_codes how i) (replicate least 1)
        ∙ blocks_append least k (again i (lead_codes how ++ k)) w
        ∙ ap (λ u. blocks least k u) (blocks_append (suc i) (lead_codes how ++ k) [] w))
