-- The table: its records, one after the other, and its slots. `f` is the form of the records, and `stand` gives each line its standing.
-- Assumes nothing.
use Rattle.std.specs.Prelude.{ℕ, suc, ◌/◌, min, Bool, true, false, ◌&&◌, cond, List, [], ◌∷◌, ◌++◌, length, drop, eqb}
use Rattle.theory.specs.Standing.{Standing}
use Rattle.verdict.specs.Record.{Form, record_bytes}

-- A line without its last byte: the line it "comes from by its last byte". "Record 0 has zero for both origin fields": the empty line comes from itself, by 0.
abbrev pub body : List ℕ → List ℕ
body [] = []
body (b ∷ []) = []
body (b ∷ c ∷ w) = b ∷ body (c ∷ w)

-- Its last byte.
abbrev pub last_byte : List ℕ → ℕ
last_byte [] = 0
last_byte (b ∷ []) = b
last_byte (b ∷ c ∷ w) = last_byte (c ∷ w)

-- Two standings are equal.
abbrev pub same_list : List ℕ → List ℕ → Bool
same_list [] [] = true
same_list [] (b ∷ m) = false
same_list (a ∷ l) [] = false
same_list (a ∷ l) (b ∷ m) = eqb a b && same_list l m

abbrev pub same_bool : Bool → Bool → Bool
same_bool true c = c
same_bool false true = false
same_bool false false = true

unfoldable pub same : Standing → Standing → Bool
same s t = same_list s.order t.order && (same_bool s.first t.first && (same_list s.all t.all && same_bool s.some t.some))

-- The number of the record that has the standing s, among those with the first lines L.
unfoldable pub number_of : (List ℕ → Standing) → List (List ℕ) → Standing → ℕ
number_of stand [] s = 0
number_of stand (w ∷ L) s = cond (same (stand w) s) 0 (suc (number_of stand L s))

-- The record whose first line is w, among those with the first lines L.
abbrev pub record_of : Form → (List ℕ → Standing) → List (List ℕ) → List ℕ → List ℕ
record_of f stand L w = record_bytes f (stand w) (number_of stand L (stand (body w))) (last_byte w)

-- The records whose first lines are M, among those with the first lines L, one after the other.
unfoldable pub records_of : Form → (List ℕ → Standing) → List (List ℕ) → List (List ℕ) → List ℕ
records_of f stand L [] = []
records_of f stand L (w ∷ M) = record_of f stand L w ++ records_of f stand L M

-- The table of the records with the first lines L.
abbrev pub records : Form → (List ℕ → Standing) → List (List ℕ) → List ℕ
records f stand L = records_of f stand L L

-- "Slots are the table's length divided by that width, still at most 65,535."
unfoldable pub slots : Form → ℕ → ℕ
slots f n = min (n / f.bytes) 65535

-- A buffer t with u written at its start, "the rest kept".
abbrev pub onto : List ℕ → List ℕ → List ℕ
onto t u = u ++ drop (length u) t
