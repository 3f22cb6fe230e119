-- What is prepared for order lines, by what is asked.
-- Assumes nothing.
use Rattle.std.specs.Prelude.{◌≡◌, List, ℕ, Option, None, Some, Result, drop}
use Rattle.reader.specs.declared.refusal.Refusal.{Refusal}
use Rattle.orders.specs.declared.Orders.{Orders}
use Rattle.orders.specs.Orders.{ForSpans, ForFields}
use Rattle.queries.specs.declared.Query.{Query}
use Rattle.queries.specs.declared.Query.TheVariants.{Spans, Fields, Groups, Looking, Details, Table, Unknown}

-- Something is prepared, of which P holds.
abbrev pub Has : (Result Orders Refusal → Type 0) → Option (Result Orders Refusal) → Type 0
Has P None = ⊥
Has P (Some x) = P x

-- For both spans and for fields the pattern on the line, which stands after so many bytes; else nothing.
abbrev pub PreparedAs : List ℕ → List ℕ → Query → Option (Result Orders Refusal) → Type 0
PreparedAs loaded line (Spans at) r = Has (ForSpans loaded (drop at line)) r
PreparedAs loaded line (Fields at) r = Has (ForFields loaded (drop at line)) r
PreparedAs loaded line Groups r = r ≡ None
PreparedAs loaded line Looking r = r ≡ None
PreparedAs loaded line Details r = r ≡ None
PreparedAs loaded line Table r = r ≡ None
PreparedAs loaded line Unknown r = r ≡ None
