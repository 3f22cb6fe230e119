-- The order of lines is a strict linear order, and it goes with a byte added at the end. Lines of bytes, joined and taken apart.
-- Assumes nothing.
use mathlib.Core.Path.{◌≡◌, refl, sym, ap, ap₂, subst}
use mathlib.Core.Logic.{◌⊎◌, inl, inr}
use Prim.Native.Nat.{ℕ, suc, ◌<◌}
use mathlib.Core.List.{List, [], ◌∷◌, ◌++◌}
use native.Mathlib.Omega.{arith}
use native.Mathlib.Decide.{dec_lt}
use lib.ListN.{length, get_or, length-append, get_or-append}
use lib.Seq.{get_or-append_seam}
use Rattle.theory.specs.Lines.{Below, Lex, ◌≺◌}
use Rattle.theory.specs.Records.{at}
use Rattle.theory.proofs.Tests.{either}

lex_irrefl : (u : List ℕ) → Lex u u → ⊥
lex_irrefl [] h = h
lex_irrefl (a ∷ u) (inl h) = omega arith
lex_irrefl (a ∷ u) (inr h) = lex_irrefl u h.1

lex_trans : (u v w : List ℕ) → Lex u v → Lex v w → Lex u w
lex_trans [] v w h g = absurd h
lex_trans (a ∷ u) [] w h g = absurd h
lex_trans (a ∷ u) (b ∷ v) [] h g = absurd g
lex_trans (a ∷ u) (b ∷ v) (c ∷ w) (inl h) (inl g) = inl (omega arith)
lex_trans (a ∷ u) (b ∷ v) (c ∷ w) (inl h) (inr g) = inl (omega arith)
lex_trans (a ∷ u) (b ∷ v) (c ∷ w) (inr h) (inl g) = inl (omega arith)
lex_trans (a ∷ u) (b ∷ v) (c ∷ w) (inr h) (inr g) = inr (omega arith, lex_trans u v w h.1 g.1)

lex_append : (u v x y : List ℕ) → Lex u v → Lex (u ++ x) (v ++ y)
lex_append [] v x y h = absurd h
lex_append (a ∷ u) [] x y h = absurd h
lex_append (a ∷ u) (b ∷ v) x y (inl h) = inl h
lex_append (a ∷ u) (b ∷ v) x y (inr h) = inr (h.0, lex_append u v x y h.1)

lex_last : (u : List ℕ) (b c : ℕ) → b < c → Lex (u ++ (b ∷ [])) (u ++ (c ∷ []))
lex_last [] b c h = inl h
lex_last (a ∷ u) b c h = inr (refl, lex_last u b c h)

pub size_snoc : (u : List ℕ) (b : ℕ) → length (u ++ (b ∷ [])) ≡ suc (length u)
size_snoc u b = omega (arith, length-append u (b ∷ []))

pub ≺_irrefl : (u : List ℕ) → u ≺ u → ⊥
unfolding ◌≺◌
≺_irrefl u (inl h) = omega arith
≺_irrefl u (inr h) = lex_irrefl u h.1

pub ≺_trans : (u v w : List ℕ) → u ≺ v → v ≺ w → u ≺ w
unfolding ◌≺◌
≺_trans u v w (inl h) (inl g) = inl (omega arith)
≺_trans u v w (inl h) (inr g) = inl (omega arith)
≺_trans u v w (inr h) (inl g) = inl (omega arith)
≺_trans u v w (inr h) (inr g) = inr (omega arith, lex_trans u v w h.1 g.1)

pub ≺_snoc : (u v : List ℕ) (b c : ℕ) → u ≺ v → u ++ (b ∷ []) ≺ v ++ (c ∷ [])
unfolding ◌≺◌
≺_snoc u v b c (inl h) = inl (omega (arith, size_snoc u b, size_snoc v c))
≺_snoc u v b c (inr h) = inr (omega (arith, size_snoc u b, size_snoc v c), lex_append u v (b ∷ []) (c ∷ []) h.1)

pub ≺_last : (u : List ℕ) (b c : ℕ) → b < c → u ++ (b ∷ []) ≺ u ++ (c ∷ [])
unfolding ◌≺◌
≺_last u b c h = inr (omega (arith, size_snoc u b, size_snoc u c), lex_last u b c h)

pub ≺_self : (u : List ℕ) (b : ℕ) → u ≺ u ++ (b ∷ [])
unfolding ◌≺◌
≺_self u b = inl (omega (arith, size_snoc u b))

pub ≺_empty : (u : List ℕ) (b : ℕ) → [] ≺ u ++ (b ∷ [])
unfolding ◌≺◌
≺_empty u b = inl (omega (arith, size_snoc u b))

infix 50 ◌≼◌
abbrev pub ◌≼◌ : List ℕ → List ℕ → Type 0
u ≼ v = (u ≡ v) ⊎ (u ≺ v)

pub ≼_snoc : (u v : List ℕ) (b : ℕ) → u ≼ v → u ++ (b ∷ []) ≼ v ++ (b ∷ [])
≼_snoc u v b (inl e) = inl (ap (λ x. x ++ (b ∷ [])) e)
≼_snoc u v b (inr h) = inr (≺_snoc u v b b h)

pub ≼_≺ : (u v w : List ℕ) → u ≼ v → v ≺ w → u ≺ w
≼_≺ u v w (inl e) g = rw e g
≼_≺ u v w (inr h) g = ≺_trans u v w h g

pub ≼_trans : (u v w : List ℕ) → u ≼ v → v ≼ w → u ≼ w
≼_trans u v w h (inl e) = rw (← e) h
≼_trans u v w h (inr g) = inr (≼_≺ u v w h g)

lex_total : (u v : List ℕ) → length u ≡ length v → Lex u v ⊎ ((u ≡ v) ⊎ Lex v u)
lex_total [] [] e = inr (inl refl)
lex_total [] (b ∷ v) e = absurd (omega arith)
lex_total (a ∷ u) [] e = absurd (omega arith)
lex_total (a ∷ u) (b ∷ v) e =
    elim (dec_lt a b) [
      | yes h ↦ inl (inl h)
      | no h ↦ elim (dec_lt b a) [
        | yes g ↦ inr (inr (inl g))
        | no g ↦ (let s : a ≡ b = omega arith in
            either (λ x. inl (inr (s, x))) (λ y. either (λ x. inr (inl (ap₂ ◌∷◌ s x))) (λ x. inr (inr (inr (sym s, x)))) y) (lex_total u v (omega arith)))
      ]
    ]

pub ≺_total : (u v : List ℕ) → (u ≺ v) ⊎ ((u ≡ v) ⊎ (v ≺ u))
unfolding ◌≺◌
≺_total u v =
    elim (dec_lt (length u) (length v)) [
      | yes h ↦ inl (inl h)
      | no h ↦ elim (dec_lt (length v) (length u)) [
        | yes g ↦ inr (inr (inl g))
        | no g ↦ (let s : length u ≡ length v = omega arith in
            either (λ x. inl (inr (s, x))) (λ y. either (λ x. inr (inl x)) (λ x. inr (inr (inr (sym s, x)))) y) (lex_total u v s))
      ]
    ]

-- A line of bytes, from its end.
pub data Bytes (n : ℕ) : List ℕ → Type 0 where
  nil : Bytes n []
  snoc : {u : List ℕ} {b : ℕ} → Bytes n u → b < n → Bytes n (u ++ (b ∷ []))

bytes_cons : {n a : ℕ} {u : List ℕ} → a < n → Bytes n u → Bytes n (a ∷ u)
bytes_cons h nil = snoc {u = []} nil h
bytes_cons {a = a} h (snoc {u = u} c g) = snoc {u = a ∷ u} (bytes_cons h c) g

pub bytes : (n : ℕ) (u : List ℕ) → Below n u → Bytes n u
bytes n [] h = nil
bytes n (a ∷ u) h = bytes_cons h.0 (bytes n u h.1)

pub below_append : (n : ℕ) (u v : List ℕ) → Below n u → Below n v → Below n (u ++ v)
below_append n [] v h g = g
below_append n (a ∷ u) v h g = (h.0, below_append n u v h.1 g)

pub below_snoc : (n : ℕ) (u : List ℕ) (b : ℕ) → Below n u → b < n → Below n (u ++ (b ∷ []))
below_snoc n u b h g = below_append n u (b ∷ []) h (g, tt)

pub below_left : (n : ℕ) (u v : List ℕ) → Below n (u ++ v) → Below n u
below_left n [] v h = tt
below_left n (a ∷ u) v h = (h.0, below_left n u v h.1)

pub below_right : (n : ℕ) (u v : List ℕ) → Below n (u ++ v) → Below n v
below_right n [] v h = h
below_right n (a ∷ u) v h = below_right n u v h.1

-- A list of lines that one was added to: its size, the old lines, the new one, and what holds at each.
module _ (L : List (List ℕ)) (x : List ℕ) where
  pub snoc_size : length (L ++ (x ∷ [])) ≡ suc (length L)
  snoc_size = omega (arith, length-append L (x ∷ []))

  pub snoc_old : (k : ℕ) → k < length L → at (L ++ (x ∷ [])) k ≡ at L k
  snoc_old k h = get_or-append L (x ∷ []) [] k h

  pub snoc_last : at (L ++ (x ∷ [])) (length L) ≡ x
  snoc_last = get_or-append_seam L x [] []

  pub snoc_each : (P : ℕ → Type 0) → ((k : ℕ) → k < length L → P k) → P (length L) → (k : ℕ) → k < length (L ++ (x ∷ [])) → P k
  snoc_each P f p k h =
      elim (dec_lt k (length L)) [
        | yes c ↦ f k c
        | no c ↦ let e : length L ≡ k = omega (arith, snoc_size) in subst P e p
      ]

-- A line is one of numbers below n if each of its places has one.
pub below_each : (n : ℕ) (w : List ℕ) → ((i : ℕ) → get_or w i 0 < n) → Below n w
below_each n [] h = tt
below_each n (b ∷ w) h = (h 0, below_each n w λ i. h (suc i))
