-- The byte at a place of a text, and the places after it.
-- Assumes nothing.
use mathlib.Core.Path.{◌≡◌, refl, sym, ◌∙◌}
use Prim.Native.Nat.{ℕ, ◌+◌, ◌≤◌, ◌<◌}
use mathlib.Core.Bool.{Bool, true, false, not}
use mathlib.Core.List.{List, [], ◌∷◌}
use native.Mathlib.Omega.{arith}
use native.Mathlib.Decide.{dec_lt}
use native.Mathlib.Numerals.{add-one}
use lib.ListN.{length, get_or, drop, drop_of_length-le}
use lib.Seq.{drop-cons}
use lib.Dec.{eqb}
use borrow.Author.Tests.{eqb-true, eqb-false, not-true, not-false}
use Rattle.grammar.specs.Code.Codes.{first_holds}
use Rattle.std.specs.Prelude.{Some, None}
use Rattle.scanner.specs.Scanned.{Onward}
use Rattle.scanner.specs.Parts.{first_of}

-- The byte b stands at the place.
pub record Here (p : List ℕ) (at b : ℕ) : Type 0 where
  pub inside : at < length p
  pub rest : drop at p ≡ b ∷ drop (at + 1) p

pub stands : (p : List ℕ) (at : ℕ) → at < length p → Here p at (get_or p at 0)
stands p at h = record { inside = h; rest = rw (add-one at, drop-cons p at 0 h) refl }

pub first_here : (p : List ℕ) (at b : ℕ) → first_holds (drop at p) b ≡ true → Here p at b
first_here p at b e =
    elim (dec_lt at (length p)) [
      | yes h ↦ rw (eqb-true b (get_or p at 0) (rw (stands p at h).rest at e)) (stands p at h)
      | no h ↦ let z : first_holds [] b ≡ true = rw (drop_of_length-le p {i = at} (omega arith)) at e in let y : ◌≡◌ {A = ℕ} 0 1 = cc in absurd (omega arith)
    ]

-- The byte that was read stands there.
pub here_of : (p : List ℕ) (at b : ℕ) → Some b ≡ first_of (drop at p) → Here p at b
here_of p at b e =
    elim (dec_lt at (length p)) [
      | yes h ↦
          let z : Some b ≡ Some (get_or p at 0) = rw (stands p at h).rest at e in
          let q : b ≡ get_or p at 0 = cc in
          rw q (stands p at h)
      | no h ↦ let z : Some b ≡ first_of [] = rw (drop_of_length-le p {i = at} (omega arith)) at e in let y : ◌≡◌ {A = ℕ} 0 1 = cc in absurd (omega arith)
    ]

-- None was read: the text ends before.
pub none_of : (s : List ℕ) → None ≡ first_of s → s ≡ []
none_of [] e = refl
none_of (b ∷ s) e = let y : ◌≡◌ {A = ℕ} 0 1 = cc in absurd (omega arith)

-- Another byte stands first.
pub first_other : (b c : ℕ) → eqb b c ≡ false → c ≡ b → ⊥
first_other b c e q = eqb-false b c e (sym q)

-- The places after it.
pub onward_next : {p : List ℕ} {at b : ℕ} → Here p at b → Onward p at (at + 1)
onward_next h = record { forward = omega arith; inside = omega (arith, h.inside) }

pub onward_from : {p : List ℕ} {at mid next : ℕ} → at ≤ mid → Onward p mid next → Onward p at next
onward_from l o = record { forward = omega arith; inside = o.inside }

-- What a test says that a function's answer is: r is the answer, and x what it stands for.
pub seen : {r x y : Bool} → r ≡ x → r ≡ y → x ≡ y
seen e t = sym e ∙ t

pub unseen : {r x : Bool} → r ≡ x → not r ≡ true → x ≡ false
unseen {r} e t = sym e ∙ not-true r t

pub still_seen : {r x : Bool} → r ≡ x → not r ≡ false → x ≡ true
still_seen {r} e t = sym e ∙ not-false r t
