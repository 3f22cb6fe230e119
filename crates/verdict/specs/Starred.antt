-- Paper 01's starred reference lines, from the bytes of the patterns, with the fixed table of named sets; one of them as request 1 of paper 02 has it, those with a table as requests 7 and 8 have them, and
-- lines of lazy repeats.
-- Assumes nothing.
use Rattle.std.specs.Prelude.{◌≡◌, ℕ, ◌≤◌, List, [], ◌∷◌, ◌++◌, length, replicate}
use Rattle.theory.specs.Spans.{Span, nowhere, span, greedy, posix}
use Rattle.grammar.specs.Grammar.{Alternation}
use Rattle.grammar.specs.Sets.{set_table}
use Rattle.grammar.specs.Loaded.{Accepts}
use Rattle.grammar.specs.WriteOut.{write_out}
use Rattle.verdict.specs.Table.{onto}
use Rattle.verdict.specs.Tabled.{Result, alike, unlike, refused, whole}
use Rattle.verdict.specs.Area.{area_bytes, cleared}
use Rattle.verdict.specs.Checked.{Checked}

pub data Row : Type 0 where
  cuts : (pattern line : List ℕ) (greedy posix : Span) → Row
  -- With any table and witness buffer of these lengths, and any area that is long enough: the result, the bytes written at the table's start, and those at the buffer's start.
  checks : (pattern : List ℕ) (table buffer : ℕ) → Result → (records witness : List ℕ) → Row

unfoldable pub RowHolds : Row → Type 0
RowHolds (cuts p w g s) = (a : Alternation) × Accepts set_table p a × (greedy (write_out set_table a) w ≡ g) × (posix (write_out set_table a) w ≡ s)
RowHolds (checks p n m x u w) = (t v s : List ℕ) → length t ≡ n → length v ≡ m → area_bytes ≤ length s → Checked set_table p t v s (whole x (onto t u) (onto v w)) (cleared s)

unfoldable pub All : List Row → Type 0
All [] = Unit {0}
All (x ∷ l) = RowHolds x × All l

-- The records of `a|ab`, of 16 bytes each: of the lines empty, 00, 61 and 6162.
abbrev pub three : List ℕ
three =
    (4 ∷ 0 ∷ 192 ∷ replicate 11 0) ++ (16 ∷ 0 ∷ [])
    ++ (replicate 16 0
    ++ ((1 ∷ 128 ∷ 32 ∷ replicate 9 0) ++ (97 ∷ replicate 3 0)))

abbrev pub four : List ℕ
four = three ++ ((0 ∷ 128 ∷ replicate 9 0) ++ (2 ∷ 98 ∷ replicate 3 0))

abbrev pub a|ab : List ℕ
a|ab = 97 ∷ 124 ∷ 97 ∷ 98 ∷ []

-- `(|a)*`, which request 1 of paper 02 changes: "on aa now reads greedy 0 0, POSIX 0 2, and is unlike with witness 61".
abbrev pub empty_or_a : List ℕ
empty_or_a = 40 ∷ 124 ∷ 97 ∷ 41 ∷ 42 ∷ []

-- `a*?`, a lazy repeat (request 5): at a line's start it ends where it begins.
abbrev pub lazy_a : List ℕ
lazy_a = 97 ∷ 42 ∷ 63 ∷ []

-- The records of both, of 14 bytes each: of the lines empty, 00 and 61.
abbrev pub three_loops : List ℕ
three_loops = (1 ∷ 128 ∷ 128 ∷ replicate 11 0) ++ (replicate 14 0 ++ ((0 ∷ 128 ∷ 128 ∷ replicate 9 0) ++ (97 ∷ 0 ∷ [])))

unfoldable pub starred : List Row
starred =
    cuts a|ab (97 ∷ 98 ∷ []) (span 0 1) (span 0 2)
    ∷ cuts (40 ∷ 97 ∷ 124 ∷ 97 ∷ 98 ∷ 41 ∷ 42 ∷ []) (97 ∷ 97 ∷ 98 ∷ []) (span 0 2) (span 0 3)  -- (a|ab)*
    ∷ cuts (97 ∷ 42 ∷ 40 ∷ 98 ∷ 124 ∷ 97 ∷ 98 ∷ 99 ∷ 41 ∷ []) (97 ∷ 98 ∷ 99 ∷ []) (span 0 2) (span 0 3)  -- a*(b|abc)
    ∷ cuts (97 ∷ 98 ∷ 124 ∷ 97 ∷ []) (97 ∷ 98 ∷ []) (span 0 2) (span 0 2)  -- ab|a
    ∷ cuts (97 ∷ 42 ∷ []) [] (span 0 0) (span 0 0)  -- a*
    ∷ cuts (98 ∷ 42 ∷ []) (97 ∷ 98 ∷ []) (span 0 0) (span 0 0)  -- b*
    ∷ cuts (97 ∷ []) [] nowhere nowhere  -- a
    ∷ cuts (97 ∷ 123 ∷ 50 ∷ 44 ∷ 51 ∷ 125 ∷ []) (97 ∷ 97 ∷ 97 ∷ 97 ∷ []) (span 0 3) (span 0 3)  -- a{2,3}
    ∷ cuts empty_or_a (97 ∷ 97 ∷ []) (span 0 0) (span 0 2)  -- in place of paper 01's greedy 0 2
    ∷ cuts lazy_a (97 ∷ 97 ∷ []) (span 0 0) (span 0 2)
    ∷ cuts (40 ∷ 97 ∷ 124 ∷ 97 ∷ 98 ∷ 41 ∷ 63 ∷ 63 ∷ []) (97 ∷ 98 ∷ []) (span 0 0) (span 0 2)  -- (a|ab)??
    ∷ cuts (97 ∷ 123 ∷ 49 ∷ 44 ∷ 51 ∷ 125 ∷ 63 ∷ 98 ∷ []) (97 ∷ 97 ∷ 98 ∷ []) (span 0 3) (span 0 3)  -- a{1,3}?b
    ∷ checks a|ab 64 5041 (unlike 4 2) four (97 ∷ 98 ∷ [])  -- "now gives its verdict in 64 bytes of table", in place of paper 01's 256,
    ∷ checks a|ab 63 5041 (refused 10 0) three []  -- "and 10 in 63", in place of 255
    ∷ checks a|ab 64 1 (refused 11 0) four []
    ∷ checks empty_or_a 42 1 (unlike 3 1) three_loops (97 ∷ [])
    ∷ checks lazy_a 42 1 (unlike 3 1) three_loops (97 ∷ [])
    ∷ checks (40 ∷ 41 ∷ []) 65536 5041 (alike 0) [] []  -- "`()` becomes alike 0", in place of alike 2,
    ∷ checks (97 ∷ 42 ∷ []) 65536 5041 (alike 2) ((3 ∷ 128 ∷ 128 ∷ replicate 11 0) ++ replicate 14 0) []  -- "while `a*` is still alike 2"
    ∷ []
