-- The groups that are listed and the lengths are those of the pattern.
-- Assumes nothing.
use mathlib.Core.Path.{◌≡◌, refl, ap, ◌∙◌, subst, subst₂}
use Prim.Native.Nat.{ℕ}
use mathlib.Core.Logic.{◌⊎◌, inl, inr}
use mathlib.Core.List.{List, [], ◌++◌}
use native.Mathlib.Omega.{arith}
use lib.ListN.{length-append}
use Rattle.std.specs.Prelude.{Option, Some, None, Ok, Err}
use Rattle.grammar.specs.Refusals as Due
use Rattle.groups.specs.declared.Groups.{Groups}
use Rattle.lengths.specs.Code.{longest_of, limit_of}
use Rattle.reader.specs.declared.refusal.Refusal.{Refusal}
use Rattle.reader.specs.Numbers.{number_of}
use Rattle.reader.specs.declared.Reading.{Reading}
use Rattle.reader.specs.Reading.{ReadRight}
use Rattle.reader.proofs.Laws.{accepted_lengths, refused_fault}
use Rattle.screen.specs.Shows.{Shows}
use Rattle.screen.proofs.Laws.{shows_accepted, shows_refused}
use Rattle.printing.specs.declared.Output.{Output}
use Rattle.printing.specs.Text.{Prints, option_of, RefusedLine, LengthsText, Ahead, GroupsLine}
use Rattle.printing.proofs.Laws.{join}
use Rattle.answers.specs.declared.Buffers.{Buffers}
use Rattle.answers.specs.Answer.{Reported, Detailed, Listed, Asked, for_verdict, for_spans, for_looking, for_details, for_groups}
use Rattle.answers.specs.Cutting.{Begun, long, unread}

module _ {loaded p w : List ℕ} where
  pub listed_groups : {g : Groups} → Shows loaded p (Ok g) → GroupsLine g.group w → Listed loaded p w
  listed_groups h l = let (t, reads, f) = shows_accepted h in record { answer = Due.accepted t; right = reads; line = subst (λ g. GroupsLine g.group w) f l }

  pub listed_refused : {e : Refusal} → Shows loaded p (Err e) → RefusedLine (number_of e.fault) e.place w → Listed loaded p w
  listed_refused {e} h l = record { answer = Due.refused (number_of e.fault) e.place; right = shows_refused h; line = l }

limit_is : (g : Option ℕ) → option_of g ≡ limit_of (longest_of g)
limit_is (Some n) = refl
limit_is None = refl

module _ {loaded p : List ℕ} {o o' : Output} where
  -- What stands before a report is the pattern's own.
  pub begun_long : {r : Reading} → ReadRight loaded p (Ok r) → Prints 57 (Ahead (LengthsText r.lengths.least (option_of r.lengths.greatest))) o o' → Begun loaded p o o'
  begun_long {r} h l =
      let (t, reads, least, greatest) = accepted_lengths h in
      long reads (l.0, subst₂ (λ k x. Ahead (LengthsText k x) l.0) least (limit_is r.lengths.greatest ∙ ap limit_of greatest) l.1, l.2, l.3)

  pub begun_unread : {e : Refusal} → ReadRight loaded p (Err e) → o' ≡ o → Begun loaded p o o'
  begun_unread h s = unread (refused_fault h) s

-- The report, with what stands before it.
pub detailed : {loaded p : List ℕ} {a b c : Output} {x y : Buffers} → Begun loaded p a b → Prints 20360 (λ w. Reported loaded x p w y) b c → Prints 20417 (λ w. Detailed loaded x p w y) a c
detailed (long {t = t} reads (v, l, s, f)) (w, z, i, g) =
    (v ++ w, record { answer = Due.accepted t; right = reads; head = v; long = l; rest = w; reported = z; text = refl }, omega (arith, length-append v w), join f g)
detailed (unread {k = k} {q = q} fault s) (w, z, i, g) =
    (w, record { answer = Due.refused k q; right = fault; head = []; long = refl; rest = w; reported = z; text = refl }, omega arith, rw s at g)

-- What is asked, if it is neither the verdict nor the spans nor the groups.
pub a_report : (asked : Asked) → (asked ≡ for_verdict → ⊥) → (asked ≡ for_spans → ⊥) → (asked ≡ for_groups → ⊥) → (asked ≡ for_looking) ⊎ (asked ≡ for_details)
a_report for_looking f g h = inl refl
a_report for_details f g h = inr refl
a_report for_verdict f g h = absurd (f refl)
a_report for_spans f g h = absurd (g refl)
a_report for_groups f g h = absurd (h refl)
