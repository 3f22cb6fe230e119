-- What is replied is what is due.
-- Assumes nothing.
use mathlib.Core.Path.{◌≡◌, refl, sym, ap, ap₂, ◌∙◌, subst}
use mathlib.Core.Bool.{Bool, true, false, cond}
use mathlib.Core.List.{List, ◌∷◌, map}
use Prim.Native.Nat.{ℕ, zero, suc, ◌+◌, ◌≤◌}
use native.Mathlib.Omega.{arith}
use lib.Dec.{ltb}
use borrow.Author.Tests.{ltb-false}
use Rattle.theory.specs.Pattern.{Re}
use Rattle.theory.specs.Standing.{from}
use Rattle.theory.specs.Spans.{Span, nowhere, span, greedy}
use Rattle.grammar.specs.Grammar.{Alternation}
use Rattle.grammar.specs.Brackets.{brackets, max_fields, ninth}
use Rattle.grammar.specs.WriteOut.{write_out}
use Rattle.grammar.specs.Refusals as Due
use Rattle.std.specs.Prelude.{Option, Result, Ok, Err}
use Rattle.reader.specs.declared.refusal.Refusal.{Refusal}
use Rattle.traces.specs.Code.Marks.{Marks}
use Rattle.matchers.specs.Tables.{Ready}
use Rattle.traces.specs.Fields.{field_at}
use Rattle.fields.specs.declared.Piece.{Piece}
use Rattle.fields.specs.declared.Prepared.{Prepared}
use Rattle.fields.specs.Answer.{limited, Told, told_by, tell}
use Rattle.fields.specs.Cuts.{span_in, field_in, IsCut, Cuts, lent_of, PreparedFor, ready, refusal, Prepares, says_of, says, Replied}

-- A pattern that is accepted here has at most eight fields.
pub limited_few : (a : Due.Answer) (t : Alternation) → Due.accepted t ≡ limited a → brackets t ≤ max_fields
limited_few (Due.accepted u) t e = go (ltb max_fields (brackets u)) (ltb-false max_fields (brackets u)) e
  where
    go : (c : Bool) → (c ≡ false → brackets u ≤ max_fields) → Due.accepted t ≡ cond c (Due.refused 12 (ninth u)) (Due.accepted u) → brackets t ≤ max_fields
    go true h e = absurd (let z : ◌≡◌ {A = ℕ} 0 1 = cc in omega arith)
    go false h e = let s : t ≡ u = cc in subst (λ x. brackets x ≤ max_fields) (sym s) (h refl)
limited_few (Due.refused n q) t e = absurd (let z : ◌≡◌ {A = ℕ} 0 1 = cc in omega arith)

-- Its fields are those that the cut has.
fields_same : {r : Re} {w : List ℕ} {x : Option Piece} → IsCut r w x → (n i : ℕ) → i + n ≤ max_fields → map (field_in x) (from i n) ≡ map (field_at r w) (from (suc i) n)
fields_same c zero i h = refl
fields_same c (suc n) i h = ap₂ ◌∷◌ (c.fields i (omega arith)) (fields_same c n (suc i) (omega arith))

says_due : (loaded : List ℕ) (t : Alternation) (w : List ℕ) (x : Option Piece) → brackets t ≤ max_fields → IsCut (write_out loaded t) w x → says_of (brackets t) x (span_in x) ≡ told_by loaded t w (greedy (write_out loaded t) w)
says_due loaded t w x few c = ap (says_of (brackets t) x) c.greedily ∙ go (greedy (write_out loaded t) w)
  where
    go : (s : Span) → says_of (brackets t) x s ≡ told_by loaded t w s
    go nowhere = refl
    go (span i k) = ap (Told.spanned i k) (fields_same c (brackets t) 0 (omega arith))

-- The reply is the one due: of an accepted pattern the cut,
pub replied_accepted : {loaded p w : List ℕ} {x : Prepared} {c : Option Piece} → Prepares loaded p (Ok x) → Cuts (lent_of x).tables (lent_of x).marks w c → Replied loaded p w (Ok (record { count = x.count; cut = c }))
replied_accepted {loaded} {w = w} {x} {c} h cuts = record { answer = h.answer; right = h.right; is = go (limited h.answer) refl (Ok x) refl h.prepared }
  where
    go : (d : Due.Answer) → d ≡ limited h.answer → (y : Result Prepared Refusal) → y ≡ Ok x → PreparedFor loaded y d → says (Ok (record { count = x.count; cut = c })) ≡ tell loaded d w
    go (Due.accepted t) s (Ok y) i (ready n own marked) =
        let same : y ≡ x = cc in
        rw (sym (ap (λ z. z.count) same) ∙ n) (says_due loaded t w c (limited_few h.answer t s) (cuts.cut (subst (λ z. Ready (write_out loaded t) (lent_of z).tables) same own) (subst (λ z. Marks (write_out loaded t) (lent_of z).marks) same marked)))
    go (Due.refused _ _) s (Ok y) i x = elim x [ ]
    go _ s (Err e) i refusal = absurd (let z : ◌≡◌ {A = ℕ} 0 1 = cc in omega arith)

-- and of a refused one the refusal.
pub replied_refused : {loaded p w : List ℕ} {e : Refusal} → Prepares loaded p (Err e) → Replied loaded p w (Err e)
replied_refused {loaded} {w = w} {e} h = record { answer = h.answer; right = h.right; is = go (limited h.answer) (Err e) refl h.prepared }
  where
    go : (d : Due.Answer) (y : Result Prepared Refusal) → y ≡ Err e → PreparedFor loaded y d → says (Err e) ≡ tell loaded d w
    go (Due.accepted t) (Ok x) i (ready n own marked) = absurd (let z : ◌≡◌ {A = ℕ} 0 1 = cc in omega arith)
    go (Due.refused _ _) (Ok x) i y = elim y [ ]
    go _ (Err f) i refusal = let same : f ≡ e = cc in rw same
