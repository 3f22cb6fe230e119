-- A table of named sets as the front end hands it over: in lower-case hex, two digits for an entry.
-- Assumes nothing.
use Rattle.std.specs.Prelude.{ℕ, ◌+◌, ◌*◌, ◌-◌, Bool, ◌&&◌, ◌||◌, cond, List, [], ◌∷◌, ◌++◌, length, take, replicate, Option, None, Some}
use Rattle.grammar.specs.Sets.{spans}
use Rattle.queries.specs.declared.Table.{Table}

abbrev pub is_hex : ℕ → Bool
is_hex b = spans 48 57 b || spans 97 102 b

abbrev pub hex_value : ℕ → ℕ
hex_value b = cond (spans 48 57 b) (b - 48) (b - 87)

-- The entries that a text begins with, up to what is no pair of digits.
unfoldable pub unhex : List ℕ → List ℕ
unhex [] = []
unhex (a ∷ []) = []
unhex (a ∷ b ∷ s) = cond (is_hex a && is_hex b) ((16 * hex_value a + hex_value b) ∷ unhex s) []

-- What a digit counts; there is no other.
abbrev pub digit_of : ℕ → Option ℕ
digit_of b = cond (is_hex b) (Some (hex_value b)) None

-- A table of these entries, with zeros after the last.
abbrev pub table_of : List ℕ → Table
table_of l = record { entries = l ++ replicate (512 - length l) 0; count = length l }

-- The entries that a text begins with, all that a table has room for.
abbrev pub entries_of : List ℕ → List ℕ
entries_of s = take 512 (unhex s)
