-- What the functions find at a place of a pattern's text, by the grammar's definitions of reading: an item of a class, a class, a count.
-- Assumes nothing.
use Rattle.std.specs.Prelude.{◌≡◌, ℕ, ◌≤◌, ◌<◌, List, length, drop, Option, Some, None}
use Rattle.grammar.specs.Grammar.{Byte, value, Name, single, range, named, Digits, digits_value, exactly, at_least, between, Atom}
use Rattle.grammar.specs.Sets.{bit_of}
use Rattle.grammar.specs.Code.Reader.{found, missing, read_item, read_class, read_count}
use Rattle.scanner.specs.declared.Item.{Item}
use Rattle.scanner.specs.declared.Item.TheVariants.{Single, Range, Named}
use Rattle.scanner.specs.declared.Count.{Count}
use Rattle.scanner.specs.declared.Count.TheVariants.{Exactly, AtLeast, Between}
use Rattle.scanner.specs.declared.Read.{Read}

-- The place after what was found is past the place where it stands, and in the text.
pub record Onward (p : List ℕ) (at next : ℕ) : Type 0 where
  pub forward : at < next
  pub inside : next ≤ length p

-- An item of a class, up to the place e.
abbrev pub ItemIs : List ℕ → ℕ → Item → ℕ → Type 0
ItemIs p at (Single b) e = (x : Byte) × (read_item (drop at p) ≡ found (single x) (drop e p)) × (value x ≡ b) × Onward p at e
ItemIs p at (Range low high) e = (x y : Byte) × (read_item (drop at p) ≡ found (range x y) (drop e p)) × (value x ≡ low) × (value y ≡ high) × Onward p at e
ItemIs p at (Named bit) e = (n : Name) × (read_item (drop at p) ≡ found (named n) (drop e p)) × (bit_of n ≡ bit) × Onward p at e

-- The same where the code finds one; None: there is none.
abbrev pub ItemFound : List ℕ → ℕ → Option (Read Item) → Type 0
ItemFound p at (Some r) = ItemIs p at r.value r.next
ItemFound p at None = read_item (drop at p) ≡ missing

-- A class, from after its `[`, and the place after it.
abbrev pub ClassFound : List ℕ → ℕ → Option ℕ → Type 0
ClassFound p at (Some e) = (a : Atom) × (read_class (drop at p) ≡ found a (drop e p)) × Onward p at e
ClassFound p at None = read_class (drop at p) ≡ missing

-- A count, from after its `{`, up to the place e.
abbrev pub CountIs : List ℕ → ℕ → Count → ℕ → Type 0
CountIs p at (Exactly m) e = (d : Digits) × (read_count (drop at p) ≡ found (exactly d) (drop e p)) × (digits_value d ≡ m) × Onward p at e
CountIs p at (AtLeast m) e = (d : Digits) × (read_count (drop at p) ≡ found (at_least d) (drop e p)) × (digits_value d ≡ m) × Onward p at e
CountIs p at (Between m n) e = (d f : Digits) × (read_count (drop at p) ≡ found (between d f) (drop e p)) × (digits_value d ≡ m) × (digits_value f ≡ n) × Onward p at e

-- The same where the code finds one; None: there is none.
abbrev pub CountFound : List ℕ → ℕ → Option (Read Count) → Type 0
CountFound p at (Some r) = CountIs p at r.value r.next
CountFound p at None = read_count (drop at p) ≡ missing
