-- The sets of bytes: "the named sets come from one fixed table of 256 entries", or from a carrier's own table that "may replace the fixed one" (request 9), and the sets of
-- leaves by a table.
-- Assumes nothing.
use Rattle.std.specs.Prelude.{ℕ, ◌+◌, ◌/◌, ◌%◌, Bool, true, false, not, ◌&&◌, ◌||◌, List, [], ◌∷◌, map, eqb, leb, get_or}
use Rattle.theory.specs.Standing.{from}
use Rattle.grammar.specs.Grammar.{value, Name, alpha, digit, alnum, upper, lower, xdigit, space, punct, Item, single, range, named}

-- b is from low to high, both included.
abbrev pub spans : ℕ → ℕ → ℕ → Bool
spans low high b = leb low b && leb b high

-- "As in the POSIX locale over ASCII. Bytes 128 to 255 are in none."
abbrev pub in_posix : Name → ℕ → Bool
in_posix alpha b = spans 65 90 b || spans 97 122 b
in_posix digit b = spans 48 57 b
in_posix alnum b = spans 48 57 b || spans 65 90 b || spans 97 122 b
in_posix upper b = spans 65 90 b
in_posix lower b = spans 97 122 b
in_posix xdigit b = spans 48 57 b || spans 65 70 b || spans 97 102 b
in_posix space b = spans 9 13 b || eqb b 32
in_posix punct b = spans 33 47 b || spans 58 64 b || spans 91 96 b || spans 123 126 b

-- The bit of a set in an entry: "each byte holding, most significant first: alpha, digit, alnum, upper, lower, xdigit, space, punct".
abbrev pub bit_of : Name → ℕ
bit_of alpha = 128
bit_of digit = 64
bit_of alnum = 32
bit_of upper = 16
bit_of lower = 8
bit_of xdigit = 4
bit_of space = 2
bit_of punct = 1

abbrev pub names : List Name
names = alpha ∷ digit ∷ alnum ∷ upper ∷ lower ∷ xdigit ∷ space ∷ punct ∷ []

abbrev pub bit_if : Bool → ℕ → ℕ
bit_if true k = k
bit_if false k = 0

-- The entry of the byte b: the bits of those sets of l that hold it.
abbrev pub entry : List Name → ℕ → ℕ
entry [] b = 0
entry (n ∷ l) b = bit_if (in_posix n b) (bit_of n) + entry l b

-- The "one fixed table of 256 entries".
unfoldable pub set_table : List ℕ
set_table = map (entry names) (from 0 256)

-- Whether an entry has a bit, and a set.
abbrev pub is_on : ℕ → ℕ → Bool
is_on e bit = eqb (e / bit % 2) 1

abbrev pub has_set : ℕ → Name → Bool
has_set e n = is_on e (bit_of n)

-- Whether the table that is loaded has the byte b in the set n. A number from 256 on has no entry.
abbrev pub in_named : List ℕ → Name → ℕ → Bool
in_named loaded n b = has_set (get_or loaded b 0) n

-- The sets of items, and of a class, by the eight named sets: "perhaps `^` (all bytes not listed)".
abbrev pub in_item : (Name → ℕ → Bool) → Item → ℕ → Bool
in_item sets (single x) b = eqb b (value x)
in_item sets (range x y) b = spans (value x) (value y) b
in_item sets (named n) b = sets n b

abbrev pub in_items : (Name → ℕ → Bool) → List Item → ℕ → Bool
in_items sets [] b = false
in_items sets (x ∷ l) b = in_item sets x b || in_items sets l b

abbrev pub negated : Bool → Bool → Bool
negated true c = not c
negated false c = c

abbrev pub in_class : (Name → ℕ → Bool) → Bool → List Item → ℕ → Bool
in_class sets c l b = negated c (in_items sets l b)
