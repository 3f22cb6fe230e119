-- The items of a class, one after the other, and the class.
-- Assumes nothing.
use mathlib.Core.Path.{◌≡◌, refl, sym, ap, ◌∙◌}
use Prim.Native.Nat.{ℕ, zero, suc, ◌+◌, ◌≤◌, ◌<◌}
use mathlib.Core.Bool.{Bool, true, false, cond, not, or-false, or_assoc}
use mathlib.Core.List.{List, [], ◌∷◌}
use native.Mathlib.Omega.{arith}
use lib.ListN.{length, drop, drop_of_length-le, length-drop}
use Rattle.grammar.specs.Grammar
use Rattle.grammar.specs.Grammar.{Name, alpha, digit, alnum, upper, lower, xdigit, space, punct, single, range, named, class, Inside, usual, backslash, closing, opening, caret, dash, inside}
use Rattle.grammar.specs.Sets.{in_named, in_item, in_items}
use Rattle.grammar.specs.Code.Reader.{Parsed, found, missing, and_then, read_item, is_closing, read_items, read_listed, is_caret, read_class}
use Rattle.grammar.specs.Code.Codes.{first_holds}
use Rattle.grammar.proofs.Texts.{InsideOk, inside_ok, len_item}
use Rattle.grammar.proofs.Pieces.{item_sound}
use Rattle.std.specs.Prelude.{Option, Some, None}
use Rattle.scanner.specs.Parts.{ItemIn, ItemsIn, ItemsTaken, AllIn, AllTaken, ClassIn, ClassHeld}
use Rattle.scanner.specs.declared.Read.{Read}
use Rattle.scanner.proofs.Places.{Here, onward_next, onward_from, first_other}

-- What is read is shorter, so any number from the bytes left on will do.
item_shorter : (s : List ℕ) (x : Grammar.Item) (r : List ℕ) → read_item s ≡ found x r → length r < length s
item_shorter s x r e = omega (arith, len_item x r, ap length (rw e at (item_sound s)).1)

pub items_fuel : (f g : ℕ) (s : List ℕ) → length s ≤ f → length s ≤ g → read_items f s ≡ read_items g s
unfolding read_items
items_fuel zero zero s h k = refl
items_fuel zero (suc g) [] h k = refl
items_fuel zero (suc g) (b ∷ s) h k = absurd (omega arith)
items_fuel (suc f) zero [] h k = refl
items_fuel (suc f) zero (b ∷ s) h k = absurd (omega arith)
items_fuel (suc f) (suc g) [] h k = refl
items_fuel (suc f) (suc g) (b ∷ s) h k = ap (cond (is_closing (inside b)) (found [] s)) (go (read_item (b ∷ s)) (item_shorter (b ∷ s)) (items_fuel f g))
  where
    go :
        (m : Parsed Grammar.Item) →
        ((x : Grammar.Item) (r : List ℕ) → m ≡ found x r → length r < length (b ∷ s)) →
        ((s : List ℕ) → length s ≤ f → length s ≤ g → read_items f s ≡ read_items g s) →
        and_then m (λ x r. and_then (read_items f r) (λ l r'. found (x ∷ l) r')) ≡ and_then m (λ x r. and_then (read_items g r) (λ l r'. found (x ∷ l) r'))
    go (found x r) short ih = let q : length r < length (b ∷ s) = short x r refl in rw (ih r (omega arith) (omega arith)) refl
    go missing short ih = refl

-- The items up to the `]`.
pub items_over : (loaded p : List ℕ) (at b : ℕ) (held : Bool) → length p ≤ at → ItemsTaken loaded p at b held None
unfolding read_items
items_over loaded p at b held h = rw (drop_of_length-le p h) refl

pub items_closed : (loaded : List ℕ) {p : List ℕ} {at : ℕ} (b : ℕ) (held : Bool) → Here p at 93 → ItemsIn loaded p at b held held (at + 1)
unfolding read_items inside
items_closed loaded b held h = ([], rw h.rest refl, sym (or-false held), onward_next h)

module _ (loaded : List ℕ) {p : List ℕ} {at a : ℕ} (b : ℕ) (held : Bool) (h : Here p at a) (n : a ≡ 93 → ⊥) where
  going : is_closing (inside a) ≡ false
  going = go (inside a) (inside_ok a)
    where
      go : (k : Inside) → InsideOk a k → is_closing k ≡ false
      go usual o = refl
      go backslash o = refl
      go closing o = absurd (n o)
      go opening o = refl
      go caret o = refl
      go dash o = refl

  next : read_items (length (drop at p)) (drop at p) ≡ and_then (read_item (drop at p)) (λ x r. and_then (read_items (length (drop (at + 1) p)) r) (λ l r'. found (x ∷ l) r'))
  unfolding read_items
  next = rw (h.rest, going) refl

  pub items_fault : read_item (drop at p) ≡ missing → ItemsTaken loaded p at b held None
  items_fault e = next ∙ rw e refl

  pub items_turn : {mid : ℕ} {holds : Bool} → ItemIn loaded p at b held holds mid → (r : Option (Read Bool)) → ItemsTaken loaded p mid b holds r → ItemsTaken loaded p at b held r
  items_turn {mid} {holds} (x, f, q, o) r t = go r t
    where
      rest : read_items (length (drop at p)) (drop at p) ≡ and_then (read_items (length (drop mid p)) (drop mid p)) (λ l r'. found (x ∷ l) r')
      rest =
          let s : length (drop mid p) ≤ length (drop (at + 1) p) = rw (length-drop mid p, length-drop (at + 1) p) (omega arith) in
          next ∙ rw (f, items_fuel (length (drop (at + 1) p)) (length (drop mid p)) (drop mid p) s (omega arith)) refl

      go : (r : Option (Read Bool)) → ItemsTaken loaded p mid b holds r → ItemsTaken loaded p at b held r
      go (Some r) (l, g, u, k) = (x ∷ l, rest ∙ rw g refl, u ∙ rw q (or_assoc held (in_item (in_named loaded) x b) (in_items (in_named loaded) l b)), onward_from (omega arith) k)
      go None g = rest ∙ rw g refl

-- A class.
bare : (s : List ℕ) → first_holds s 94 ≡ false → read_class s ≡ read_listed false s
bare [] e = refl
bare (c ∷ s) e = go (inside c) (inside_ok c)
  where
    go : (k : Inside) → InsideOk c k → cond (is_caret k) (read_listed true s) (read_listed false (c ∷ s)) ≡ read_listed false (c ∷ s)
    go usual o = refl
    go backslash o = refl
    go closing o = refl
    go opening o = refl
    go caret o = absurd (first_other 94 c e o)
    go dash o = refl

pub class_bare : (loaded p : List ℕ) (at b : ℕ) → first_holds (drop at p) 94 ≡ false → (r : Option (Read Bool)) → AllTaken loaded p at b r → ClassHeld loaded p at b r
class_bare loaded p at b e (Some r) (x, l, f, u, k) = (false, x, l, bare (drop at p) e ∙ f false, u, k)
class_bare loaded p at b e None f = bare (drop at p) e ∙ f false

module _ (loaded : List ℕ) {p : List ℕ} {at : ℕ} (b : ℕ) (h : Here p at 94) where
  negated : read_class (drop at p) ≡ read_listed true (drop (at + 1) p)
  unfolding inside
  negated = rw h.rest refl

  pub class_negated : {mid : ℕ} {w : Bool} → AllIn loaded p (at + 1) b w mid → ClassIn loaded p at b (not w) mid
  class_negated (x, l, f, u, k) = (true, x, l, negated ∙ f true, ap not u, onward_from (omega arith) k)

  pub class_fault : AllTaken loaded p (at + 1) b None → ClassHeld loaded p at b None
  class_fault f = negated ∙ f true
