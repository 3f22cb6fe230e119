-- Which bytes are special outside a class, and which are marked inside one: a test of all bytes, computed, and the rule at each byte from it.
-- Assumes nothing.
use mathlib.Core.Path.{◌≡◌, refl, sym, ap, ◌∙◌}
use Prim.Native.Nat.{ℕ, ◌+◌, ◌<◌}
use mathlib.Core.Bool.{Bool, true, false, ◌||◌}
use mathlib.Core.List.{map}
use native.Mathlib.Omega.{arith}
use lib.ListN.{get_or}
use lib.Dec.{eqb}
use Rattle.theory.specs.Standing.{from}
use Rattle.grammar.specs.Grammar.{kind, special, inside, marked}
use Rattle.grammar.specs.Sets.{bit_if, spans}
use Rattle.theory.proofs.Members.{map_from}

-- The tests f and g agree at each byte if they do in a list of all.
abbrev bits : (ℕ → Bool) → ℕ → ℕ
bits f b = bit_if (f b) 1

same_bit : (x y : Bool) → bit_if x 1 ≡ bit_if y 1 → x ≡ y
same_bit true true e = refl
same_bit true false e = absurd (omega arith)
same_bit false true e = absurd (omega arith)
same_bit false false e = refl

agree : (f g : ℕ → Bool) → map (bits f) (from 0 256) ≡ map (bits g) (from 0 256) → (b : ℕ) → b < 256 → f b ≡ g b
agree f g e b h =
    let z : 0 + b ≡ b = omega arith in
    same_bit (f b) (g b) (ap (bits f) (sym z) ∙ sym (map_from (bits f) 0 256 b h) ∙ ap (λ l. get_or l b 0) e ∙ map_from (bits g) 0 256 b h ∙ ap (bits g) z)

pub special_byte : (b : ℕ) → b < 256 → special (kind b) ≡ (spans 40 43 b || (spans 91 94 b || (spans 123 125 b || (eqb b 36 || (eqb b 46 || eqb b 63)))))
unfolding kind
special_byte = agree (λ b. special (kind b)) (λ b. spans 40 43 b || (spans 91 94 b || (spans 123 125 b || (eqb b 36 || (eqb b 46 || eqb b 63))))) refl

pub marked_byte : (b : ℕ) → b < 256 → marked (inside b) ≡ (spans 91 94 b || eqb b 45)
unfolding inside
marked_byte = agree (λ b. marked (inside b)) (λ b. spans 91 94 b || eqb b 45) refl
