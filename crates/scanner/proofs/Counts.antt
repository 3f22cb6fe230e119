-- The numbers of a count, and its ends.
-- Assumes nothing.
use mathlib.Core.Path.{◌≡◌, refl, sym, ◌∙◌}
use Prim.Native.Nat.{ℕ, ◌+◌, ◌-◌, ◌*◌, ◌<◌}
use mathlib.Core.Bool.{Bool, true, false, cond}
use mathlib.Core.List.{List, [], ◌∷◌}
use native.Mathlib.Omega.{arith}
use native.Mathlib.Decide.{ℕ_discrete, dec_lt}
use lib.ListN.{length, get_or, drop, drop_of_length-le}
use lib.Dec.{leb}
use borrow.Author.Tests.{ne_eqb}
use Rattle.grammar.specs.Grammar.{Digits, one, two, digits_value, Repeat, at_least, between, is_digit}
use Rattle.grammar.specs.Code.Reader.{Parsed, found, missing, or_else, second_digit, read_digits, read_end, read_second, read_count}
use Rattle.grammar.specs.Code.Codes.{first_holds}
use Rattle.std.specs.Prelude.{Some, None}
use Rattle.scanner.specs.Scanned.{CountIs}
use Rattle.scanner.specs.Parts.{digit_of, NumberIs}
use Rattle.scanner.specs.declared.Count.TheVariants.{Exactly, AtLeast, Between}
use Rattle.scanner.proofs.Places.{Here, stands, onward_next, onward_from, first_other}

-- The digit that was read.
record DigitHere (p : List ℕ) (at n : ℕ) : Type 0 where
  byte : ℕ
  here : Here p at byte
  is : is_digit byte ≡ true
  value : n ≡ byte - 48

digit_here : (p : List ℕ) (at n : ℕ) → Some n ≡ digit_of (drop at p) → DigitHere p at n
digit_here p at n e =
    elim (dec_lt at (length p)) [
      | yes h ↦ let k = stands p at h in go (get_or p at 0) k (is_digit (get_or p at 0)) refl (rw k.rest at e)
      | no h ↦ let z : Some n ≡ digit_of [] = rw (drop_of_length-le p {i = at} (omega arith)) at e in let y : ◌≡◌ {A = ℕ} 0 1 = cc in absurd (omega arith)
    ]
  where
    go : (b : ℕ) → Here p at b → (c : Bool) → is_digit b ≡ c → Some n ≡ cond c (Some (b - 48)) None → DigitHere p at n
    go b k true q e = record { byte = b; here = k; is = q; value = cc }
    go b k false q e = let y : ◌≡◌ {A = ℕ} 0 1 = cc in absurd (omega arith)

-- No digit follows.
one_only : (b : ℕ) (s : List ℕ) → None ≡ digit_of s → second_digit b s ≡ found (one b) s
one_only b [] e = refl
one_only b (c ∷ s) e = go (is_digit c) e
  where
    go : (d : Bool) → None ≡ cond d (Some (c - 48)) None → cond d (found (two b c) s) (found (one b) (c ∷ s)) ≡ found (one b) (c ∷ s)
    go true e = let y : ◌≡◌ {A = ℕ} 0 1 = cc in absurd (omega arith)
    go false e = refl

module _ {p : List ℕ} {at n : ℕ} (e : Some n ≡ digit_of (drop at p)) where
  pub digits_one : None ≡ digit_of (drop (at + 1) p) → NumberIs p at n (at + 1)
  digits_one f =
      let d = digit_here p at n e in
      (one d.byte, rw (d.here.rest, d.is) (one_only d.byte (drop (at + 1) p) f), sym d.value, onward_next d.here)

  pub digits_two : {m : ℕ} → Some m ≡ digit_of (drop (at + 1) p) → NumberIs p at (10 * n + m) (at + 2)
  digits_two {m} f =
      let d = digit_here p at n e in
      let k = digit_here p (at + 1) m f in
      let q : at + 1 + 1 ≡ at + 2 = omega arith in
      (two d.byte k.byte, rw (d.here.rest, d.is, k.here.rest, k.is, q) refl, omega (arith, d.value, k.value), record { forward = omega arith; inside = omega (arith, k.here.inside) })

-- The end.
pub end_none : (x : Repeat) (s : List ℕ) → first_holds s 125 ≡ false → read_end x s ≡ missing
end_none x [] e = refl
end_none x (b ∷ s) e = rw (ne_eqb b 125 (first_other 125 b e)) refl

-- No digit is a `}`, so where digits stand an open count does not end.
end_digit : {d : Digits} {r : List ℕ} (x : Repeat) (s : List ℕ) → read_digits s ≡ found d r → read_end x s ≡ missing
end_digit x [] e = refl
end_digit {d} {r} x (b ∷ s) e =
    elim (ℕ_discrete b 125) [
      | yes q ↦ let z : missing ≡ found d r = rw q at e in let y : ◌≡◌ {A = ℕ} 0 1 = cc in absurd (omega arith)
      | no q ↦ rw (ne_eqb b 125 q) refl
    ]

else_missing : {A : Type 0} (m : Parsed A) → or_else m missing ≡ m
else_missing (found a r) = refl
else_missing missing = refl

-- After the `,`.
module _ {p : List ℕ} {at m : ℕ} (d : Digits) (v : digits_value d ≡ m) (h : Here p at 125) where
  pub least_found : (from : ℕ) → leb m 63 ≡ true → from < at → read_count (drop from p) ≡ read_end (at_least d) (drop at p) → CountIs p from (AtLeast m) (at + 1)
  least_found from l f q = (d, q ∙ rw (h.rest, v, l) refl, v, onward_from (omega arith) (onward_next h))

module _ {p : List ℕ} {at m number next : ℕ} (n : NumberIs p at number next) (d : Digits) (v : digits_value d ≡ m) where
  ends : read_second d (drop at p) ≡ read_end (between d n.0) (drop next p)
  ends = rw (n.1, end_digit (at_least d) (drop at p) n.1) (else_missing (read_end (between d n.0) (drop next p)))

  pub second_found : (from : ℕ) → from < at → Here p next 125 → leb m number ≡ true → leb number 63 ≡ true → read_count (drop from p) ≡ read_second d (drop at p) → CountIs p from (Between m number) (next + 1)
  second_found from f h k l q =
      (d, n.0, q ∙ ends ∙ rw (h.rest, v, n.2, k, l) refl, v, n.2, onward_from (omega arith) (onward_next h))

-- A count.
module _ {p : List ℕ} {at number next : ℕ} (n : NumberIs p at number next) where
  pub count_comma : Here p next 44 → read_count (drop at p) ≡ read_second n.0 (drop (next + 1) p)
  count_comma h = rw (n.1, h.rest) refl

  pub count_exactly : Here p next 125 → leb number 63 ≡ true → CountIs p at (Exactly number) (next + 1)
  count_exactly h l = (n.0, rw (n.1, h.rest, n.2, l) refl, n.2, onward_from (omega arith) (onward_next h))
