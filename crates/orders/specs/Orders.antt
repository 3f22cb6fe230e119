-- "Each order line prints `greedy 0 1 posix 0 2`, `none` or a refusal" (paper 01, "The programs"); or, where it is asked for, the greedy span with its fields (request 2).
-- Assumes nothing.
use Rattle.std.specs.Prelude.{◌≡◌, ℕ, ◌≤◌, ◌<◌, Result, Ok, Err, List, map, length}
use Rattle.std.proofs.Math.Option.{Option, none, some}
use Rattle.theory.specs.Standing.{from}
use Rattle.traces.specs.Fields.{Field, absent, between, field_at}
use Rattle.traces.specs.Code.Marks.{Marks}
use Rattle.fields.specs.Cuts.{Prepares}
use Rattle.theory.specs.Pattern.{Re}
use Rattle.theory.specs.Spans.{nowhere, span, greedy, posix}
use Rattle.matchers.specs.Tables.{Ready}
use Rattle.printing.specs.Text.{RefusedLine, SpansLine, FieldsLine, none_line, Prints}
use Rattle.lines.specs.declared.Input.{Input}
use Rattle.printing.specs.declared.Output.{Output}
use Rattle.reader.specs.declared.refusal.Refusal.{Refusal}
use Rattle.readings.specs.Tables.{tables_in, Prepared}
use Rattle.orders.specs.declared.Orders.{Orders}
use Rattle.orders.specs.declared.Orders.TheVariants.{Spans, Fields}
use Rattle.lines.specs.Answers.{Served}

-- The text w answers the order line l, for the pattern r. "9, a line above 1,024 bytes; place 0; that line gets no span."
pub data OrderLine (r : Re) (l w : List ℕ) : Type 0 where
  long : 1024 < length l → RefusedLine 9 0 w → OrderLine r l w
  cut : {i j k : ℕ} → length l ≤ 1024 → greedy r l ≡ span i j → posix r l ≡ span i k → SpansLine i j k w → OrderLine r l w
  uncut : length l ≤ 1024 → greedy r l ≡ nowhere → posix r l ≡ nowhere → w ≡ none_line → OrderLine r l w

-- The start and the end of a field, or none.
abbrev pub pair_of : Field → Option (ℕ × ℕ)
pair_of absent = none
pair_of (between a b) = some (a, b)

-- The text w answers it with the first n fields.
pub data FieldsOrder (r : Re) (n : ℕ) (l w : List ℕ) : Type 0 where
  long : 1024 < length l → RefusedLine 9 0 w → FieldsOrder r n l w
  cut : {i k : ℕ} → length l ≤ 1024 → greedy r l ≡ span i k → FieldsLine i k (map (λ f. pair_of (field_at r l f)) (from 1 n)) w → FieldsOrder r n l w
  uncut : length l ≤ 1024 → greedy r l ≡ nowhere → w ≡ none_line → FieldsOrder r n l w

-- The text w answers the order line l, with what is asked for: both spans, or the fields.
abbrev pub LineFor : Orders → Re → List ℕ → List ℕ → Type 0
LineFor (Spans t) r l w = OrderLine r l w
LineFor (Fields x) r l w = FieldsOrder r x.count l w

-- What is prepared is the pattern's: its tables, and for fields, of which there are at most eight, their masks.
abbrev pub Own : Orders → Re → Type 0
Own (Spans t) r = Ready r (tables_in t)
Own (Fields x) r = Ready r (tables_in x.tables) × Marks r x.marks × (x.count ≤ 8)

-- The text w answers it for the pattern of which that is prepared.
pub record OrderAnswer (x : Orders) (l w : List ℕ) : Type 0 where
  pub answer : (r : Re) → Own x r → LineFor x r l w

-- The answer, of at most 392 bytes, is added to what waits.
abbrev pub Answered : Orders → List ℕ → Output → Output → Type 0
Answered x l o o' = Prints 392 (OrderAnswer x l) o o'

-- The order lines of a chunk are answered so, and what is prepared stays.
abbrev pub OrdersServed : Orders → Input → Output → Input → Output → Orders → Type 0
OrdersServed x s o r o' y = Served (λ x l w y. (y ≡ x) × OrderAnswer x l w) 392 s o x r o' y

-- What is prepared of a pattern for both spans, and for its fields.
abbrev pub ForSpans : List ℕ → List ℕ → Result Orders Refusal → Type 0
ForSpans loaded p (Ok (Spans t)) = Prepared loaded p (Ok t)
ForSpans loaded p (Ok (Fields x)) = ⊥
ForSpans loaded p (Err e) = Prepared loaded p (Err e)

abbrev pub ForFields : List ℕ → List ℕ → Result Orders Refusal → Type 0
ForFields loaded p (Ok (Spans t)) = ⊥
ForFields loaded p (Ok (Fields x)) = Prepares loaded p (Ok x)
ForFields loaded p (Err e) = Prepares loaded p (Err e)
