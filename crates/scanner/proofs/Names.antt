-- A name is read where its bytes stand.
-- Assumes nothing.
use mathlib.Core.Path.{◌≡◌, refl, sym, ◌∙◌}
use Prim.Native.Nat.{ℕ, ◌+◌, ◌-◌, ◌≤◌, ◌<◌}
use mathlib.Core.Bool.{Bool, true, false, cond, ◌&&◌}
use mathlib.Core.List.{List, [], ◌∷◌}
use native.Mathlib.Omega.{arith}
use native.Mathlib.Decide.{ℕ_discrete}
use lib.ListN.{length, drop, length-drop}
use lib.Seq.{drop-drop}
use lib.Dec.{eqb}
use borrow.Author.Tests.{ne_eqb}
use Rattle.grammar.specs.Grammar.{Name, named, named_text}
use Rattle.grammar.specs.Sets.{bit_of}
use Rattle.grammar.specs.Code.Reader.{Parsed, found, only, strip, read_named, read_item}
use Rattle.scanner.specs.Scanned.{ItemFound}
use Rattle.std.specs.Prelude.{Option, Some, None}
use Rattle.std.specs.List.{starts_with}
use Rattle.std.specs.Option.{option_or}
use Rattle.scanner.specs.Parts.{named_at}
use Rattle.scanner.specs.declared.Item.{Item}
use Rattle.scanner.specs.declared.Item.TheVariants.{Named}
use Rattle.scanner.specs.declared.Read.{Read}

-- The bytes that stand first are those that are stripped.
eqb_sym : (b c : ℕ) → eqb b c ≡ eqb c b
eqb_sym b c =
    elim (ℕ_discrete b c) [
      | yes q ↦ rw q refl
      | no q ↦ ne_eqb b c q ∙ sym (ne_eqb c b (λ r. q (sym r)))
    ]

only_both : {A : Type 0} (x y : Bool) (m : Parsed A) → only x (only y m) ≡ only (x && y) m
only_both true y m = refl
only_both false y m = refl

strip_begins : {A : Type 0} (u : List ℕ) (a : A) (s : List ℕ) → strip u a s ≡ only (starts_with eqb s u) (found a (drop (length u) s))
strip_begins [] a s = refl
strip_begins (c ∷ u) a [] = refl
strip_begins (c ∷ u) a (b ∷ s) = rw (strip_begins u a s, eqb_sym b c) (only_both (eqb c b) (starts_with eqb s u) (found a (drop (length u) s)))

begins_length : (u s : List ℕ) → starts_with eqb s u ≡ true → length u ≤ length s
begins_length [] s e = omega arith
begins_length (c ∷ u) [] e = let z : ◌≡◌ {A = ℕ} 0 1 = cc in absurd (omega arith)
begins_length (c ∷ u) (b ∷ s) e = omega (arith, begins_length u s (both_true (eqb c b) (starts_with eqb s u) e))
  where
    both_true : (x y : Bool) → (x && y) ≡ true → y ≡ true
    both_true true y e = e
    both_true false y e = let z : ◌≡◌ {A = ℕ} 0 1 = cc in absurd (omega arith)

-- The first name that stands there is the one that is read: a is what the names before have given.
abbrev pub chosen : Option (Read Item) → List Name → List ℕ → ℕ → Option (Read Item)
chosen a [] p at = a
chosen a (n ∷ l) p at = chosen (option_or a (named_at p at (named_text n) (bit_of n))) l p at

-- What the names before have given, from the place `from` on.
abbrev Given : List Name → List ℕ → ℕ → ℕ → Option (Read Item) → Type 0
Given l p at from (Some r) = ItemFound p from (Some r)
Given l p at from None = read_item (drop from p) ≡ read_named l (drop at p)

module _ (p : List ℕ) (at from : ℕ) (h : from < at) where
  first_given : (n : Name) (l : List Name) → read_item (drop from p) ≡ read_named (n ∷ l) (drop at p) → Given l p at from (named_at p at (named_text n) (bit_of n))
  first_given n l q = go (starts_with eqb (drop at p) (named_text n)) refl
    where
      go : (c : Bool) → starts_with eqb (drop at p) (named_text n) ≡ c → Given l p at from (cond c (Some (record { value = Named (bit_of n); next = at + length (named_text n) })) None)
      go true e =
          let u : length (named_text n) ≤ length p - at = rw (← length-drop at p) (begins_length (named_text n) (drop at p) e) in (
            n,
            q ∙ rw (strip_begins (named_text n) (named n) (drop at p), e, drop-drop (length (named_text n)) at p) refl,
            refl,
            record { forward = omega arith; inside = omega arith },
          )
      go false e = q ∙ rw (strip_begins (named_text n) (named n) (drop at p), e) refl

  pub named_chosen : (l : List Name) (a : Option (Read Item)) → Given l p at from a → ItemFound p from (chosen a l p at)
  named_chosen [] (Some r) g = g
  named_chosen [] None g = g
  named_chosen (n ∷ l) (Some r) g = named_chosen l (Some r) g
  named_chosen (n ∷ l) None g = named_chosen l (named_at p at (named_text n) (bit_of n)) (first_given n l g)
