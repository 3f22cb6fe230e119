-- The laws of extents, and of a measure that a sequence adds up.
-- Assumes nothing.
use mathlib.Core.Path.{◌≡◌, refl, sym, ap, ◌∙◌}
use Prim.Native.Nat.{ℕ, zero, suc, ◌+◌, max}
use mathlib.Core.List.{List, [], ◌∷◌, ◌++◌}
use native.Mathlib.Omega.{arith}
use Rattle.theory.specs.Pattern.{Re, empty, seq}
use Rattle.grammar.specs.WriteOut.{chain}
use Rattle.lengths.specs.Lengths.{Longest, limit, no_limit, together, copies, endless, Extent, no_byte, in_row}

-- Two extents are the same if both lengths are.
pub extents : {x y : Extent} → x.least ≡ y.least → x.greatest ≡ y.greatest → x ≡ y
extents l g i = record { least = l i; greatest = g i }

-- A number that adds nothing, on either side.
module _ (f : ℕ → ℕ → ℕ) where
  together_zero : ((a : ℕ) → f a 0 ≡ a) → (g : Longest) → together f g (limit 0) ≡ g
  together_zero h no_limit = refl
  together_zero h (limit a) = ap limit (h a)

  zero_together : ((a : ℕ) → f 0 a ≡ a) → (g : Longest) → together f (limit 0) g ≡ g
  zero_together h no_limit = refl
  zero_together h (limit a) = ap limit (h a)

pub plus_zero : (g : Longest) → together ◌+◌ g (limit 0) ≡ g
plus_zero = together_zero ◌+◌ (λ a. omega arith)

pub zero_plus : (g : Longest) → together ◌+◌ (limit 0) g ≡ g
zero_plus = zero_together ◌+◌ (λ a. omega arith)

pub greater_zero : (g : Longest) → together max g (limit 0) ≡ g
greater_zero = together_zero max (λ a. omega arith)

pub zero_greater : (g : Longest) → together max (limit 0) g ≡ g
zero_greater = zero_together max (λ a. omega arith)

plus_assoc : (g h k : Longest) → together ◌+◌ (together ◌+◌ g h) k ≡ together ◌+◌ g (together ◌+◌ h k)
plus_assoc no_limit h k = refl
plus_assoc (limit a) no_limit k = refl
plus_assoc (limit a) (limit b) no_limit = refl
plus_assoc (limit a) (limit b) (limit c) = ap limit (omega arith)

-- Copies and copies.
pub copies_add : (m n : ℕ) (g : Longest) → together ◌+◌ (copies m g) (copies n g) ≡ copies (m + n) g
copies_add zero n g = let e : n ≡ 0 + n = omega arith in zero_plus (copies n g) ∙ ap (λ k. copies k g) e
copies_add (suc m) n g =
    let e : suc (m + n) ≡ suc m + n = omega arith in
    plus_assoc g (copies m g) (copies n g) ∙ ap (together ◌+◌ g) (copies_add m n g) ∙ ap (λ k. copies k g) e

-- Copies before an endless repeat add nothing.
plus_endless : (g : Longest) → together ◌+◌ g (endless g) ≡ endless g
plus_endless no_limit = refl
plus_endless (limit zero) = refl
plus_endless (limit (suc n)) = refl

pub copies_endless : (n : ℕ) (g : Longest) → together ◌+◌ (copies n g) (endless g) ≡ endless g
copies_endless zero g = zero_plus (endless g)
copies_endless (suc n) g = plus_assoc g (copies n g) (endless g) ∙ ap (together ◌+◌ g) (copies_endless n g) ∙ plus_endless g

-- Parts in a row.
pub row_none : (x : Extent) → in_row x no_byte ≡ x
row_none x = extents (omega arith) (plus_zero x.greatest)

none_row : (x : Extent) → in_row no_byte x ≡ x
none_row x = extents (omega arith) (zero_plus x.greatest)

row_assoc : (x y z : Extent) → in_row (in_row x y) z ≡ in_row x (in_row y z)
row_assoc x y z = extents (omega arith) (plus_assoc x.greatest y.greatest z.greatest)

-- What a list of parts comes to in a row.
module _ (m : Re → Extent) where
  abbrev pub total : List Re → Extent
  total [] = no_byte
  total (x ∷ l) = in_row (m x) (total l)

  pub total_append : (l k : List Re) → total (l ++ k) ≡ in_row (total l) (total k)
  total_append [] k = sym (none_row (total k))
  total_append (x ∷ l) k = rw (total_append l k) (sym (row_assoc (m x) (total l) (total k)))

  pub total_chain : m empty ≡ no_byte → ((x y : Re) → m (seq x y) ≡ in_row (m x) (m y)) → (l : List Re) → m (chain l) ≡ total l
  unfolding chain
  total_chain e f [] = e
  total_chain e f (x ∷ []) = sym (row_none (m x))
  total_chain e f (x ∷ y ∷ l) = f x (chain (y ∷ l)) ∙ ap (in_row (m x)) (total_chain e f (y ∷ l))
