-- The checker's result by the records, with the content of table and witness buffer, for every pattern, with every table of named sets, and for table and buffer of
-- any lengths: all of it before request 8, and from there on that of the patterns which fail its test.
-- Assumes nothing.
use Rattle.std.specs.Prelude.{ℕ, cond, List, length, take, ltb}
use Rattle.std.proofs.Math.Option.{Option, none, some}
use Rattle.theory.specs.Pattern.{Re}
use Rattle.theory.specs.Standing.{Standing, standing}
use Rattle.theory.specs.Records.{Needs}
use Rattle.grammar.specs.Grammar.{Alternation}
use Rattle.grammar.specs.Loaded.{Accepts, Refuses}
use Rattle.grammar.specs.WriteOut.{write_out}
use Rattle.verdict.specs.Record.{Form, form_of}
use Rattle.verdict.specs.Table.{records_of, records, slots, onto}

-- "Alike with the record count, unlike with count and witness, or a refusal" with number and place. The witness is given by its length: it stands in the buffer.
pub data Result : Type 0 where
  alike : ℕ → Result
  unlike : ℕ → ℕ → Result
  refused : ℕ → ℕ → Result

-- A result with what the table and the witness buffer then hold.
pub data Whole : Type 0 where
  whole : Result → List ℕ → List ℕ → Whole

-- L has the first lines of the records that the pattern needs, and w is the first witness if there is one. With slots enough: alike ("witness buffer kept"),
-- 11 ("the witness is longer than its buffer; all records are written, the buffer is kept") or unlike ("written at the start of the witness buffer, the rest kept").
abbrev pub decided : Form → (List ℕ → Standing) → List ℕ → List ℕ → List (List ℕ) → Option (List ℕ) → Whole
decided f stand t v L none = whole (alike (length L)) (onto t (records f stand L)) v
decided f stand t v L (some w) =
    cond (ltb (length v) (length w))
    (whole (refused 11 0) (onto t (records f stand L)) v)
    (whole (unlike (length L) (length w)) (onto t (records f stand L)) (onto v w))

-- "10: more records needed than slots; all slots hold their records, the witness buffer is kept." "11: no 10."
abbrev pub due : Form → (List ℕ → Standing) → List ℕ → List ℕ → List (List ℕ) → Option (List ℕ) → Whole
due f stand t v L w =
    cond (ltb (slots f (length t)) (length L))
    (whole (refused 10 0) (onto t (records_of f stand L (take (slots f (length t)) L))) v)
    (decided f stand t v L w)

-- The result and content that the records give for the pattern p with the named sets that are loaded, the table t and the witness buffer v, where `form` is the form of each pattern's records and `stand`
-- gives its lines their standings.
-- "A refused pattern goes no further than the reader": it leaves every byte.
pub data TabledBy (form : Re → Form) (stand : Re → List ℕ → Standing) (loaded p t v : List ℕ) : Whole → Type 0 where
  by_reader : {n q : ℕ} → Refuses loaded p n q → TabledBy form stand loaded p t v (whole (refused n q) t v)
  by_records : {a : Alternation} {L : List (List ℕ)} {w : Option (List ℕ)} → Accepts loaded p a → Needs (stand (write_out loaded a)) L w
      → TabledBy form stand loaded p t v (due (form (write_out loaded a)) (stand (write_out loaded a)) t v L w)

-- By request 7's records, and judged by the order of preference.
abbrev pub Tabled : List ℕ → List ℕ → List ℕ → List ℕ → Whole → Type 0
Tabled loaded p t v z = TabledBy form_of standing loaded p t v z
