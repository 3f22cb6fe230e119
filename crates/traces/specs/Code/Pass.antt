-- One pass forward, each wanted leaf with the starts and ends of the fields on its way so far; and the rows that it reads, which depend on no line.
-- Assumes nothing.
use Rattle.std.specs.Prelude.{ℕ, suc, cond, List, [], ◌∷◌, ◌++◌, drop, eqb}
use Rattle.std.proofs.Math.Option.{Option, none, some}
use Rattle.theory.specs.Pattern.{Re, has}
use Rattle.theory.specs.Outcomes.{when}
use Rattle.theory.specs.Standing.{member}
use Rattle.traces.specs.Traces.{Mark, opened, closed, Carried, ends_at, wants}
use Rattle.traces.specs.Fields.{first_way, Field, absent, field_from}
use Rattle.traces.specs.Code.Rows.{start, follow}

-- The starts and ends so far, field by field.
pub record Values : Type 0 where
  pub starts : ℕ → Option ℕ
  pub ends : ℕ → Option ℕ

abbrev pub unset : Values
unset = record { starts = λ f. none; ends = λ f. none }

-- One mark: an opening gives its field the start, a closing the end.
abbrev pub set : Mark → Values → Values
set (opened f i) v = record { starts = λ g. cond (eqb g f) (some i) (v.starts g); ends = v.ends }
set (closed f i) v = record { starts = v.starts; ends = λ g. cond (eqb g f) (some i) (v.ends g) }

-- The fields opened and those closed between two leaves. All of it is at one place, which comes later.
pub record Sets : Type 0 where
  pub opens : List ℕ
  pub closes : List ℕ

abbrev pub neither : Sets
neither = record { opens = []; closes = [] }

abbrev pub note : Mark → Sets → Sets
note (opened f i) s = record { opens = f ∷ s.opens; closes = s.closes }
note (closed f i) s = record { opens = s.opens; closes = f ∷ s.closes }

-- At the place n each opened field gets the start n, and each closed one the end n.
abbrev pub stamp : ℕ → Values → Sets → Values
stamp n v s =
    record {
      starts = λ g. cond (member g s.opens) (some n) (v.starts g);
      ends = λ g. cond (member g s.closes) (some n) (v.ends g);
    }

-- A list with its places moved by π and what it carries turned by h.
abbrev pub mapped : {C D : Type 0} → (ℕ → ℕ) → (C → D) → List (Carried C) → List (Carried D)
mapped π h [] = []
mapped π h (ends_at k v ∷ l) = ends_at (π k) (h v) ∷ mapped π h l
mapped π h (wants p v ∷ l) = wants p (h v) ∷ mapped π h l

-- The outcomes as theory's `Code.Closure` numbers them: an end is 0, and `wants p` is one more than p.
abbrev pub item : {C : Type 0} → Carried C → ℕ
item (ends_at k v) = 0
item (wants p v) = suc p

abbrev pub items : {C : Type 0} → List (Carried C) → List ℕ
items [] = []
items (o ∷ l) = item o ∷ items l

-- Each outcome once, the first time it comes, if `seen` has not got it.
abbrev pub firsts : {C : Type 0} → List ℕ → List (Carried C) → List (Carried C)
firsts seen [] = []
firsts seen (o ∷ l) = cond (member (item o) seen) (firsts seen l) (o ∷ firsts (seen ++ (item o ∷ [])) l)

-- THE ROWS: what a line begins with, and what follows the leaf p; each outcome once, with its two sets of fields.
unfoldable pub first_row : Re → List (Carried Sets)
first_row r = firsts [] (start note r 0 neither)

unfoldable pub row : Re → ℕ → List (Carried Sets)
row r p = firsts [] (follow note r p 0 neither)

-- A row at the place n, from the values v.
abbrev pub stamped : ℕ → Values → List (Carried Sets) → List (Carried Values)
stamped n v l = mapped (λ k. n) (stamp n v) l

-- A wanted leaf with its values.
abbrev pub Thread : Type 0
Thread = ℕ × Values

-- The wanted leaves before the first end, with what they carry.
abbrev pub fronts : {C : Type 0} → List (Carried C) → List (ℕ × C)
fronts [] = []
fronts (ends_at k v ∷ l) = []
fronts (wants p v ∷ l) = (p, v) ∷ fronts l

-- The outcomes after the byte b, at the place n, of the threads in their order.
abbrev pub moved : Re → ℕ → ℕ → List Thread → List (Carried Values)
moved r b n [] = []
moved r b n (t ∷ l) = when (has r t.0 b) (stamped n t.1 (row r t.0)) ++ moved r b n l

abbrev pub or_else : {A : Type 0} → Option A → Option A → Option A
or_else none b = b
or_else (some a) b = some a

-- THE PASS over the rest of the line, from its threads at the place i: the last thread that ended, or else `best`.
unfoldable pub pass : Re → List ℕ → List Thread → ℕ → Option Thread → Option Thread
pass r [] l i best = best
pass r (b ∷ rest) l i best = pass r rest (fronts (firsts [] (moved r b (suc i) l))) (suc i) (or_else (first_way (moved r b (suc i) l)) best)

-- .. from the start i of a line.
unfoldable pub pass_from : Re → List ℕ → ℕ → Option Thread
pass_from r w i = pass r (drop i w) (fronts (stamped i unset (first_row r))) i (first_way (stamped i unset (first_row r)))

-- The field f of a thread that ended.
abbrev pub field_by : ℕ → Option Thread → Field
field_by f none = absent
field_by f (some t) = field_from (t.1.starts f) (t.1.ends f)
