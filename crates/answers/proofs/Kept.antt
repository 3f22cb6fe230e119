-- A pattern and its first 1,025 bytes have the same answer: a longer one is refused, whatever it holds.
-- Assumes nothing.
use mathlib.Core.Path.{◌≡◌, refl, sym, subst}
use mathlib.Core.Logic.{◌↔◌}
use mathlib.Core.Bool.{Bool, true, false}
use Prim.Native.Nat.{ℕ, ◌<◌, min}
use mathlib.Core.List.{List}
use native.Mathlib.Omega.{arith}
use native.Mathlib.Decide.{dec_lt}
use lib.ListN.{length, length-take}
use lib.Seq.{take_all}
use Rattle.theory.proofs.Tests.{either}
use Rattle.grammar.specs.Refusals.{too_long}
use Rattle.grammar.specs.Loaded.{Refuses, by_sets, by_pattern, Answers}
use Rattle.grammar.specs.Refusals as Due
use Rattle.grammar.proofs.Loaded.{passes_or_fails, accepts_not_refuses, one_answer}
use Rattle.verdict.specs.Tabled.{refused, whole}
use Rattle.verdict.specs.Checked.{by_fault}
use Rattle.verdict.proofs.Checked.{checked_one, checked_is}
use Rattle.std.specs.Prelude.{Result, Ok, Err}
use Rattle.reader.specs.declared.refusal.Refusal.{Refusal}
use Rattle.checker.specs.declared.Verdict.{Verdict}
use Rattle.checker.specs.declared.Verdict.TheVariants.{Alike, Unlike}
use Rattle.checker.specs.Verdicts.{result_of, Checks}
use Rattle.checker.specs.Looking.{LooksFor, unread, unsearched, searched}
use Rattle.search.specs.declared.Looking.{Looking}
use Rattle.lines.specs.Lines.{kept}
use Rattle.answers.specs.Line.{AnswerLine}
use Rattle.answers.specs.declared.Buffers.{Buffers}
use Rattle.answers.specs.Answer.{Asked, for_verdict, for_spans, for_looking, for_details, for_groups, Judged, Reported, LengthsAhead, Detailed, GroupsText, Listed, Answer}

-- What a pattern above 255 bytes is refused with: 1 at 255, or the fault of the table of named sets.
long_refusal : (loaded : List ℕ) → (n i : ℕ) × ((p : List ℕ) → 255 < length p → Refuses loaded p n i)
long_refusal loaded = either (λ sets. (1, 255, λ p h. by_pattern sets (too_long h refl refl))) (λ (i, f). (14, i, λ p h. by_sets f)) (passes_or_fails loaded)

module _ (loaded : List ℕ) where
  number : ℕ
  number = (long_refusal loaded).0

  place : ℕ
  place = (long_refusal loaded).1

  too_long_lem : (p : List ℕ) → 255 < length p → Refuses loaded p number place
  unfolding number place
  too_long_lem = (long_refusal loaded).2

  -- Of a pattern above 255 bytes nothing else is looked at.
  module _ (x y : Buffers) {p q : List ℕ} (h : 255 < length p) (k : 255 < length q) where
    long_line : (spans : Bool) (v : Result Verdict Refusal) (w : List ℕ) → Checks loaded p x.table x.witness x.area v y.table y.witness y.area → AnswerLine loaded spans p v y.witness w
        → Checks loaded q x.table x.witness x.area v y.table y.witness y.area × AnswerLine loaded spans q v y.witness w
    long_line spans v w c l = go spans v l (checked_one c (by_fault (too_long_lem p h)))
      where
        go : (s : Bool) (v : Result Verdict Refusal) → AnswerLine loaded s p v y.witness w → (whole (result_of v) y.table y.witness ≡ whole (refused number place) x.table x.witness) × (y.area ≡ x.area)
            → Checks loaded q x.table x.witness x.area v y.table y.witness y.area × AnswerLine loaded s q v y.witness w
        go s (Ok (Alike n)) l (e, f) = absurd (let z : ◌≡◌ {A = ℕ} 0 1 = cc in omega arith)
        go s (Ok (Unlike n m)) l (e, f) = absurd (let z : ◌≡◌ {A = ℕ} 0 1 = cc in omega arith)
        go true (Err r) l (e, f) = ((checked_is (by_fault (too_long_lem q k)) _ _).1 (e, f), l)
        go false (Err r) l (e, f) = ((checked_is (by_fault (too_long_lem q k)) _ _).1 (e, f), l)

    long_looking : {z : Looking} → LooksFor loaded p x.table x.area z → LooksFor loaded q x.table x.area z
    long_looking (unread f) = unread (too_long_lem q k)
    long_looking (unsearched {a = a} reads y) = absurd (accepts_not_refuses loaded p a number place reads (too_long_lem p h))
    long_looking (searched {a = a} reads l f y) = absurd (accepts_not_refuses loaded p a number place reads (too_long_lem p h))

    long_judged : {spans : Bool} {w : List ℕ} → Judged loaded spans x p w y → Judged loaded spans x q w y
    long_judged {spans} {w} a = let (c, l) = long_line spans a.verdict w a.checks a.line in record { lent = a.lent; verdict = a.verdict; checks = c; line = l }

    long_reported : {w : List ℕ} → Reported loaded x p w y → Reported loaded x q w y
    long_reported a =
        let (c, l) = long_line true a.report.verdict a.rest a.reports.checks a.line in
        record {
          lent = a.lent;
          report = a.report;
          reports = record { checks = c; looks = long_looking a.reports.looks };
          head = a.head;
          looking = a.looking;
          rest = a.rest;
          line = l;
          text = a.text;
        }

  long_one : (p : List ℕ) → 255 < length p → (a : Due.Answer) → Answers loaded p a → a ≡ Due.refused number place
  long_one p h a r = one_answer loaded p a (Due.refused number place) r (too_long_lem p h)

  module _ {p q : List ℕ} (h : 255 < length p) (k : 255 < length q) where
    long_listed : {w : List ℕ} → Listed loaded p w → Listed loaded q w
    long_listed {w} a = record { answer = Due.refused number place; right = too_long_lem q k; line = subst (λ z. GroupsText loaded z w) (long_one p h a.answer a.right) a.line }

    long_detailed : {w : List ℕ} (x y : Buffers) → Detailed loaded x p w y → Detailed loaded x q w y
    long_detailed x y a =
        record {
          answer = Due.refused number place;
          right = too_long_lem q k;
          head = a.head;
          long = subst (λ z. LengthsAhead z a.head) (long_one p h a.answer a.right) a.long;
          rest = a.rest;
          reported = long_reported x y h k a.reported;
          text = a.text;
        }

  long_answer : (asked : Asked) (x y : Buffers) (p q w : List ℕ) → 255 < length p → 255 < length q → Answer loaded asked x p w y → Answer loaded asked x q w y
  long_answer for_verdict x y p q w h k a = long_judged x y h k a
  long_answer for_spans x y p q w h k a = long_judged x y h k a
  long_answer for_looking x y p q w h k a = long_reported x y h k a
  long_answer for_details x y p q w h k a = long_detailed h k x y a
  long_answer for_groups x y p q w h k a = (long_listed h k a.0, a.1)

-- WHAT IS KEPT IS ENOUGH: a pattern and its first 1,025 bytes have the same answer.
pub answer_kept : (loaded : List ℕ) (asked : Asked) (x y : Buffers) (p w : List ℕ) → Answer loaded asked x (kept p) w y ↔ Answer loaded asked x p w y
answer_kept loaded asked x y p w =
    elim (dec_lt 1025 (length p)) [
      | yes h ↦ (let n : length (kept p) ≡ min 1025 (length p) = length-take 1025 p in (long_answer loaded asked x y (kept p) p w (omega arith) (omega arith), long_answer loaded asked x y p (kept p) w (omega arith) (omega arith)))
      | no h ↦ (let e = take_all 1025 p (omega arith) in (λ a. subst (λ q. Answer loaded asked x q w y) e a, λ a. subst (λ q. Answer loaded asked x q w y) (sym e) a))
    ]
