-- What the first line of a query says: the table of named sets that is loaded, and what is asked.
-- Assumes nothing.
use Rattle.std.specs.Prelude.{ℕ, ◌+◌, ◌*◌, Bool, true, false, ◌&&◌, cond, List, [], ◌∷◌, length, drop, eqb}
use Rattle.queries.specs.Hex.{table_of, entries_of}
use Rattle.queries.specs.declared.Loading.{Loading}
use Rattle.queries.specs.declared.Loading.TheVariants.{Fixed, Own, Broken}
use Rattle.queries.specs.declared.Query.{Query}
use Rattle.queries.specs.declared.Query.TheVariants.{Spans, Fields, Groups, Looking, Details, Table, Unknown}

-- Whether a text begins with the word,
abbrev pub starts : List ℕ → List ℕ → Bool
starts s [] = true
starts [] (b ∷ w) = false
starts (a ∷ s) (b ∷ w) = eqb a b && starts s w

-- and is it.
abbrev pub is_word : List ℕ → List ℕ → Bool
is_word s w = eqb (length s) (length w) && starts s w

-- The words: 'sets ', 'spans ', 'fields ', 'groups', 'looking', 'details', 'table'.
abbrev pub sets_word : List ℕ
sets_word = 115 ∷ 101 ∷ 116 ∷ 115 ∷ 32 ∷ []

abbrev pub spans_word : List ℕ
spans_word = 115 ∷ 112 ∷ 97 ∷ 110 ∷ 115 ∷ 32 ∷ []

abbrev pub fields_word : List ℕ
fields_word = 102 ∷ 105 ∷ 101 ∷ 108 ∷ 100 ∷ 115 ∷ 32 ∷ []

abbrev pub groups_word : List ℕ
groups_word = 103 ∷ 114 ∷ 111 ∷ 117 ∷ 112 ∷ 115 ∷ []

abbrev pub looking_word : List ℕ
looking_word = 108 ∷ 111 ∷ 111 ∷ 107 ∷ 105 ∷ 110 ∷ 103 ∷ []

abbrev pub details_word : List ℕ
details_word = 100 ∷ 101 ∷ 116 ∷ 97 ∷ 105 ∷ 108 ∷ 115 ∷ []

abbrev pub table_word : List ℕ
table_word = 116 ∷ 97 ∷ 98 ∷ 108 ∷ 101 ∷ []

-- What is asked by a word that ends the line.
abbrev pub word_of : List ℕ → Query
word_of s =
    cond (is_word s groups_word) Groups
    (cond (is_word s looking_word) Looking
    (cond (is_word s details_word) Details
    (cond (is_word s table_word) Table
    Unknown)))

-- What is asked by the text s, which stands at a place of the line: after 'spans ' and 'fields ' comes a pattern, and its place is told.
abbrev pub query_of : List ℕ → ℕ → Query
query_of s at =
    cond (starts s spans_word) (Spans (at + 6))
    (cond (starts s fields_word) (Fields (at + 7))
    (word_of s))

-- With these entries in hex after 'sets ': a space follows them, and then the word; else it is no table.
abbrev pub own_of : List ℕ → List ℕ → Loading
own_of s entries = cond (starts (drop (5 + 2 * length entries) s) (32 ∷ [])) (Own (table_of entries) (6 + 2 * length entries)) Broken

-- The table that the line s loads.
abbrev pub loading_of : List ℕ → Loading
loading_of s = cond (starts s sets_word) (own_of s (entries_of (drop 5 s))) Fixed
