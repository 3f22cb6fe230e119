-- "Fields of the greedy span": "give each field's start and end in its last turn along the most preferred way, or absent if the way never enters it."
-- Assumes nothing.
use Rattle.std.specs.Prelude.{ℕ, cond, List, [], ◌∷◌, eqb}
use Rattle.std.proofs.Math.Option.{Option, none, some}
use Rattle.theory.specs.Pattern.{Re}
use Rattle.theory.specs.Spans.{Span, nowhere, span, greedy}
use Rattle.traces.specs.Traces.{opened, closed, Trace, Carried, ends_at, wants, traced}

-- "The most preferred way": the first end of the list, with what it carries.
abbrev pub first_way : {C : Type 0} → List (Carried C) → Option (ℕ × C)
first_way [] = none
first_way (ends_at k v ∷ l) = some (k, v)
first_way (wants p v ∷ l) = first_way l

-- Where a trace last opened the field f, and where it last closed it.
abbrev pub last_opened : ℕ → Trace → Option ℕ
last_opened f [] = none
last_opened f (opened g i ∷ t) = cond (eqb f g) (some i) (last_opened f t)
last_opened f (closed g i ∷ t) = last_opened f t

abbrev pub last_closed : ℕ → Trace → Option ℕ
last_closed f [] = none
last_closed f (opened g i ∷ t) = last_closed f t
last_closed f (closed g i ∷ t) = cond (eqb f g) (some i) (last_closed f t)

-- A field's "start and end", or "absent".
pub data Field : Type 0 where
  absent : Field
  between : ℕ → ℕ → Field

abbrev pub field_from : Option ℕ → Option ℕ → Field
field_from none e = absent
field_from (some i) none = absent
field_from (some i) (some k) = between i k

abbrev pub field_of : ℕ → Trace → Field
field_of f t = field_from (last_opened f t) (last_closed f t)

abbrev pub field_along : ℕ → Option (ℕ × Trace) → Field
field_along f none = absent
field_along f (some way) = field_of f way.1

abbrev pub field_in : Re → List ℕ → Span → ℕ → Field
field_in r w nowhere f = absent
field_in r w (span i k) f = field_along f (first_way (traced r w i))

-- The field f of the greedy span of a line.
unfoldable pub field_at : Re → List ℕ → ℕ → Field
field_at r w f = field_in r w (greedy r w) f
