-- What is due for a pattern and an order line: "fields of the greedy span" (request 2).
-- Assumes nothing.
use Rattle.std.specs.Prelude.{ℕ, cond, List, map, ltb}
use Rattle.theory.specs.Standing.{from}
use Rattle.theory.specs.Spans.{Span, nowhere, span, greedy}
use Rattle.grammar.specs.Grammar.{Alternation}
use Rattle.grammar.specs.Brackets.{brackets, max_fields, ninth}
use Rattle.grammar.specs.WriteOut.{write_out}
use Rattle.grammar.specs.Refusals as Due
use Rattle.traces.specs.Fields.{Field, field_at}

-- "More than eight opening `(` in an accepted pattern is refused here with 12, at the place of the ninth, on every line"; the reader's refusals come first.
abbrev pub limited : Due.Answer → Due.Answer
limited (Due.accepted t) = cond (ltb max_fields (brackets t)) (Due.refused 12 (ninth t)) (Due.accepted t)
limited (Due.refused n q) = Due.refused n q

-- A refusal with its number and place; "otherwise a line without a span gives 'none'"; or the greedy span's start and end and "each field's start and end .. or absent".
pub data Told : Type 0 where
  refused : ℕ → ℕ → Told
  none : Told
  spanned : ℕ → ℕ → List Field → Told

-- Field 1 and so on, as many as the pattern has opening brackets.
abbrev pub fields_of : List ℕ → Alternation → List ℕ → List Field
fields_of loaded t w = map (field_at (write_out loaded t) w) (from 1 (brackets t))

abbrev pub told_by : List ℕ → Alternation → List ℕ → Span → Told
told_by loaded t w nowhere = none
told_by loaded t w (span i k) = spanned i k (fields_of loaded t w)

abbrev pub tell : List ℕ → Due.Answer → List ℕ → Told
tell loaded (Due.accepted t) w = told_by loaded t w (greedy (write_out loaded t) w)
tell loaded (Due.refused n q) w = refused n q

-- What is due for the line w by the grammar's answer, with the named sets that are loaded.
abbrev pub due : List ℕ → Due.Answer → List ℕ → Told
due loaded a w = tell loaded (limited a) w
