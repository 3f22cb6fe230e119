-- What the functions that are not public find: the parts of an item, of a class and of a count.
-- Assumes nothing.
use Rattle.std.specs.Prelude.{◌≡◌, ℕ, ◌+◌, ◌-◌, ◌<◌, Bool, cond, eqb, ◌||◌, List, [], ◌∷◌, length, drop, Option, Some, None}
use Rattle.std.specs.List.{starts_with}
use Rattle.grammar.specs.Grammar
use Rattle.grammar.specs.Grammar.{Byte, value, Digits, digits_value, is_digit, at_least, class}
use Rattle.grammar.specs.Sets.{names, in_named, in_item, in_items, in_class}
use Rattle.grammar.specs.Code.Reader.{Parsed, found, missing, read_named, read_range, read_item, read_items, read_listed, read_class, read_digits, read_end, read_second, read_count}
use Rattle.scanner.specs.Scanned.{Onward, ItemFound, CountFound}
use Rattle.scanner.specs.declared.Item.{Item}
use Rattle.scanner.specs.declared.Item.TheVariants.{Named}
use Rattle.scanner.specs.declared.Count.{Count}
use Rattle.scanner.specs.declared.Read.{Read}

-- The named set of the bit if its name stands at a place.
abbrev pub named_at : List ℕ → ℕ → List ℕ → ℕ → Option (Read Item)
named_at p at name bit = cond (starts_with eqb (drop at p) name) (Some (record { value = Named bit; next = at + length name })) None

-- The byte that stands first.
abbrev pub first_of : List ℕ → Option ℕ
first_of [] = None
first_of (b ∷ s) = Some b

-- The value of the digit that stands first.
abbrev pub digit_of : List ℕ → Option ℕ
digit_of [] = None
digit_of (b ∷ s) = cond (is_digit b) (Some (b - 48)) None

-- A byte of a class: m is what reading finds from the place `from` on, up to the place e.
abbrev pub InnerIs : Parsed Byte → List ℕ → ℕ → ℕ → ℕ → Type 0
InnerIs m p from b e = (x : Byte) × (m ≡ found x (drop e p)) × (value x ≡ b) × Onward p from e

-- The same where the code finds one; None: there is none.
abbrev pub InnerFound : Parsed Byte → List ℕ → ℕ → Option (Read ℕ) → Type 0
InnerFound m p from (Some r) = InnerIs m p from r.value r.next
InnerFound m p from None = m ≡ missing

-- After a byte x of value low: an item from the place `from` on, if that is how it goes on after x.
abbrev pub RangeFound : List ℕ → ℕ → ℕ → Option (Read Item) → Type 0
RangeFound p at low r = (x : Byte) (from : ℕ) → value x ≡ low → Onward p from at → read_item (drop from p) ≡ read_range x (drop at p) → ItemFound p from r

-- After the `[` of a named set, in the same way.
abbrev pub NamedFound : List ℕ → ℕ → Option (Read Item) → Type 0
NamedFound p at r = (from : ℕ) → from < at → read_item (drop from p) ≡ read_named names (drop at p) → ItemFound p from r

-- By the table that is loaded: one item more, up to the place e, after items of which one holds b if held; h: one of all holds it.
abbrev pub ItemIn : List ℕ → List ℕ → ℕ → ℕ → Bool → Bool → ℕ → Type 0
ItemIn loaded p at b held h e = (x : Grammar.Item) × (read_item (drop at p) ≡ found x (drop e p)) × (h ≡ (held || in_item (in_named loaded) x b)) × Onward p at e

-- The same where the code finds an item; None: there is none.
abbrev pub ItemTaken : List ℕ → List ℕ → ℕ → ℕ → Bool → Option (Read Bool) → Type 0
ItemTaken loaded p at b held (Some r) = ItemIn loaded p at b held r.value r.next
ItemTaken loaded p at b held None = read_item (drop at p) ≡ missing

-- The items up to the `]`.
abbrev pub ItemsIn : List ℕ → List ℕ → ℕ → ℕ → Bool → Bool → ℕ → Type 0
ItemsIn loaded p at b held h e =
    (l : List Grammar.Item) × (read_items (length (drop at p)) (drop at p) ≡ found l (drop e p)) × (h ≡ (held || in_items (in_named loaded) l b)) × Onward p at e

-- The same where the code finds the `]`; None: what stands there is no list of items.
abbrev pub ItemsTaken : List ℕ → List ℕ → ℕ → ℕ → Bool → Option (Read Bool) → Type 0
ItemsTaken loaded p at b held (Some r) = ItemsIn loaded p at b held r.value r.next
ItemsTaken loaded p at b held None = read_items (length (drop at p)) (drop at p) ≡ missing

-- One or more items, of a class with a `^` or without.
abbrev pub AllIn : List ℕ → List ℕ → ℕ → ℕ → Bool → ℕ → Type 0
AllIn loaded p at b h e =
    (x : Grammar.Item) × (l : List Grammar.Item) × ((c : Bool) → read_listed c (drop at p) ≡ found (class c x l) (drop e p)) × (h ≡ in_items (in_named loaded) (x ∷ l) b) × Onward p at e

-- The same where the code finds them; None: there is no class.
abbrev pub AllTaken : List ℕ → List ℕ → ℕ → ℕ → Option (Read Bool) → Type 0
AllTaken loaded p at b (Some r) = AllIn loaded p at b r.value r.next
AllTaken loaded p at b None = (c : Bool) → read_listed c (drop at p) ≡ missing

-- A class, and whether it holds b.
abbrev pub ClassIn : List ℕ → List ℕ → ℕ → ℕ → Bool → ℕ → Type 0
ClassIn loaded p at b h e =
    (c : Bool) × (x : Grammar.Item) × (l : List Grammar.Item) × (read_class (drop at p) ≡ found (class c x l) (drop e p)) × (h ≡ in_class (in_named loaded) c (x ∷ l) b) × Onward p at e

-- The same where the code finds a class; None: there is none.
abbrev pub ClassHeld : List ℕ → List ℕ → ℕ → ℕ → Option (Read Bool) → Type 0
ClassHeld loaded p at b (Some r) = ClassIn loaded p at b r.value r.next
ClassHeld loaded p at b None = read_class (drop at p) ≡ missing

-- One or two digits, up to the place e.
abbrev pub NumberIs : List ℕ → ℕ → ℕ → ℕ → Type 0
NumberIs p at m e = (d : Digits) × (read_digits (drop at p) ≡ found d (drop e p)) × (digits_value d ≡ m) × Onward p at e

-- The same where the code finds one; None: there is no digit.
abbrev pub NumberFound : List ℕ → ℕ → Option (Read ℕ) → Type 0
NumberFound p at (Some r) = NumberIs p at r.value r.next
NumberFound p at None = read_digits (drop at p) ≡ missing

-- After the `,` of a count and the digits d of value m, in the same way: its end, and a second number or its end.
abbrev pub LeastFound : List ℕ → ℕ → ℕ → Option (Read Count) → Type 0
LeastFound p at m r = (d : Digits) (from : ℕ) → digits_value d ≡ m → from < at → read_count (drop from p) ≡ read_end (at_least d) (drop at p) → CountFound p from r

abbrev pub SecondFound : List ℕ → ℕ → ℕ → Option (Read Count) → Type 0
SecondFound p at m r = (d : Digits) (from : ℕ) → digits_value d ≡ m → from < at → read_count (drop from p) ≡ read_second d (drop at p) → CountFound p from r
