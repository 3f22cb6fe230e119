-- What a pattern is prepared with is its own.
-- Assumes nothing.
use mathlib.Core.Path.{◌≡◌, refl, ap, ◌∙◌, subst}
use mathlib.Core.Bool.{Bool, true, false, cond}
use mathlib.Core.List.{List}
use Prim.Native.Nat.{ℕ}
use native.Mathlib.Omega.{arith}
use lib.Dec.{ltb}
use Rattle.std.specs.Prelude.{Some, None, Ok, Err}
use Rattle.grammar.specs.Grammar.{Alternation}
use Rattle.grammar.specs.Brackets.{brackets, max_fields, ninth}
use Rattle.grammar.specs.Refusals as Due
use Rattle.arrays.specs.Decoded.{decode}
use Rattle.reader.specs.declared.refusal.Refusal.{Refusal}
use Rattle.reader.specs.declared.refusal.Fault.TheVariants.{TooManyBrackets}
use Rattle.reader.specs.declared.Reading.{Reading}
use Rattle.reader.specs.Reading.{brackets_due, ReadRight}
use Rattle.reader.proofs.Laws.{accepted_tree, accepted_leaves, accepted_holds, refused_fault}
use Rattle.matchers.specs.Tables.{Ready}
use Rattle.readings.specs.Tables.{tables_in, FilledBy}
use Rattle.traces.specs.Code.Marks.{Marks}
use Rattle.follow.specs.Rows.{Marked}
use Rattle.fields.specs.declared.Prepared.{Prepared}
use Rattle.fields.specs.Answer.{limited}
use Rattle.fields.specs.Cuts.{PreparedFor, ready, refusal, Prepares}

-- The reader refuses it,
pub prepared_refused : {loaded p : List ℕ} {e : Refusal} → ReadRight loaded p (Err e) → Prepares loaded p (Err e)
prepared_refused h = record { answer = Due.refused _ _; right = refused_fault h; prepared = refusal }

-- A pattern that has a ninth bracket is refused for it, and no other.
by_ninth : (t : Alternation) (P : Due.Answer → Type 0) → ((k : ℕ) → (brackets_due t).ninth ≡ Some k → P (Due.refused 12 k)) → ((brackets_due t).ninth ≡ None → P (Due.accepted t)) → P (limited (Due.accepted t))
by_ninth t P many few = go (ltb max_fields (brackets t)) many few
  where
    go : (c : Bool) → ((k : ℕ) → cond c (Some (ninth t)) None ≡ Some k → P (Due.refused 12 k)) → (cond c (Some (ninth t)) None ≡ None → P (Due.accepted t)) → P (cond c (Due.refused 12 (ninth t)) (Due.accepted t))
    go true many few = many (ninth t) refl
    go false many few = few refl

module _ {loaded p : List ℕ} {r : Reading} (h : ReadRight loaded p (Ok r)) where
  -- or it has too many brackets,
  pub prepared_many : {k : ℕ} → r.brackets.ninth ≡ Some k → Prepares loaded p (Err (record { fault = TooManyBrackets; place = k }))
  prepared_many {k} n =
      let (t, reads, b, long, is) = accepted_tree h in
      record {
        answer = Due.accepted t;
        right = reads;
        prepared = by_ninth t (PreparedFor loaded _) (λ j e. let s : j ≡ k = cc in rw s refusal) (λ e. absurd (let z : ◌≡◌ {A = ℕ} 0 1 = cc in omega arith));
      }

  -- or its tables and masks are made.
  pub prepared_ready : {x : Prepared} → r.brackets.ninth ≡ None → x.count ≡ r.brackets.count → Marked (decode r.pattern) x.marks → FilledBy r.pattern (tables_in x.tables) → Prepares loaded p (Ok x)
  prepared_ready {x} n c marked filled =
      let (t, reads, b, long, is) = accepted_tree h in
      let (numbered, few) = accepted_leaves h in
      let own = subst (λ y. Ready y (tables_in x.tables)) is (filled.ready numbered few (accepted_holds h)) in
      let marks = subst (λ y. Marks y x.marks) is (marked numbered few) in
      record {
        answer = Due.accepted t;
        right = reads;
        prepared = by_ninth t (PreparedFor loaded _) (λ j e. absurd (let z : ◌≡◌ {A = ℕ} 0 1 = cc in omega arith)) (λ e. ready (c ∙ ap (λ g. g.count) b) own marks);
      }
