-- Demands 1 and 3 in their words, about the result of `check` and the content of both buffers and of the area.
-- Assumes nothing.
use mathlib.Core.Path.{◌≡◌, refl, ap, ap₂, ◌∙◌, subst}
use mathlib.Core.Logic.Iff
use mathlib.Core.Logic.{◌⊎◌, inl, inr, ◌↔◌, ◌≢◌}
use Prim.Native.Nat.{ℕ, ◌≤◌, ◌<◌}
use mathlib.Core.List.{List}
use native.Mathlib.Omega.{arith}
use Rattle.std.proofs.Common.{Ok, Err}
use Rattle.std.proofs.Common.{Result as Outcome}
use lib.ListN.{length, take, drop}
use Rattle.theory.specs.Standing.{standing_by, standing}
use Rattle.theory.specs.Base.{base, Plain, bare, turns_first}
use Rattle.theory.specs.Preference.{Robust}
use Rattle.theory.proofs.Tests.{either}
use Rattle.extends.specs.Extends.{NoneExtends}
use Rattle.grammar.specs.Grammar.{Alternation}
use Rattle.grammar.specs.Limits.{Reads}
use Rattle.grammar.specs.Refusals.{Fault}
use Rattle.grammar.specs.Loaded.{Passes, Fails, Accepts, Refuses}
use Rattle.grammar.specs.WriteOut.{write_out}
use Rattle.grammar.specs.Eager.{eagerly}
use Rattle.verdict.specs.Record.{form_of, wide}
use Rattle.verdict.specs.Table.{slots}
use Rattle.verdict.specs.Tabled.{Result, alike, refused, Whole, whole, Tabled}
use Rattle.verdict.specs.Area.{area_bytes, cleared}
use Rattle.verdict.specs.Checked.{CheckedBy, Checked, by_fault}
use Rattle.verdict.specs.Demand.{NoneCut, FirstCut, Number, Outnumber, Longer}
use Rattle.grammar.proofs.Right.{either_way, not_both}
use Rattle.grammar.proofs.Loaded.{fault_number, fourteen_exactly, passing_refuses}
use Rattle.verdict.proofs.Checked.{passes_or_fails, checked_one, checked_is}
use Rattle.verdict.proofs.One.{result, table, witness}
use Rattle.verdict.proofs.ByTable.{tabled_numbers, tabled_alike}
use Rattle.verdict.proofs.Unmoved.{plain_checked, bare_checked, eager_checked, verdict_stays}
use Rattle.verdict.proofs.Demand.{RefusedBy, none_robust, short_area, test_passes, test_fails, alike_means, unlike_means, thirteen_exactly, ten_exactly, eleven_exactly, never_eleven, withheld_exactly, refused_means, lengths_kept}
use Rattle.checker.specs.declared.Verdict.{Verdict}
use Rattle.checker.specs.declared.Verdict.TheVariants.{Alike, Unlike}
use Rattle.reader.specs.declared.refusal.Refusal.{Refusal}
use Rattle.checker.specs.Verdicts.{result_of, Checks}

-- Alike is one of paper 01's results alone.
alike_case : {n : ℕ} (x : Outcome Verdict Refusal) → result_of x ≡ alike n → x ≡ Ok (Alike n)
alike_case {n} (Ok (Alike m)) e = let a : m ≡ n = cc in rw a
alike_case (Ok (Unlike m k)) e = absurd (let z : ◌≡◌ {A = ℕ} 0 1 = cc in omega arith)
alike_case (Err r) e = absurd (let z : ◌≡◌ {A = ℕ} 0 1 = cc in omega arith)

module _ (loaded p t v s : List ℕ) (x : Outcome Verdict Refusal) (t' v' s' : List ℕ) (h : Checks loaded p t v s x t' v' s') where
  -- The promise, of a verdict that is known.
  right : {y : Outcome Verdict Refusal} → x ≡ y → Checks loaded p t v s y t' v' s'
  right e = subst (λ y. Checks loaded p t v s y t' v' s') e h

  -- And of its result.
  told : {y : Result} → result_of x ≡ y → Checked loaded p t v s (whole y t' v') s'
  told e = subst (λ y. Checked loaded p t v s (whole y t' v') s') e h

  -- THE RESULT, BOTH BUFFERS AND THE AREA ARE THE ONES THAT ARE RIGHT: for every pattern, table, buffer and area, exactly these.
  pub check_is : (z : Whole) (s'' : List ℕ) → Checked loaded p t v s z s'' ↔ ((z ≡ whole (result_of x) t' v') × (s'' ≡ s'))
  check_is = checked_is h

  one_result : {n q : ℕ} {t'' v'' s'' : List ℕ} → Checked loaded p t v s (whole (refused n q) t'' v'') s'' → result_of x ≡ refused n q
  one_result c = ap result (checked_one h c).0

  -- A refusal at place 0 is the verdict exactly if it is right.
  refusal : {n : ℕ} → (result_of x ≡ refused n 0) ↔ RefusedBy loaded p t v s n
  refusal = (λ e. (t', v', s', told e), λ (t'', v'', s'', c). one_result c)

  -- REFUSED WITH 1 TO 8 OR 14 exactly for the fault of the pattern or of the table of named sets, and then both buffers and the area keep every byte.
  pub check_refused : {n q : ℕ} → (n ≤ 8) ⊎ (n ≡ 14) → (result_of x ≡ refused n q) ↔ Refuses loaded p n q
  check_refused l = (λ e. (refused_means (told e) l).0, λ f. one_result (by_fault f))

  pub check_kept : {n q : ℕ} → (n ≤ 8) ⊎ (n ≡ 14) → result_of x ≡ refused n q → (t' ≡ t) × (v' ≡ v) × (s' ≡ s)
  check_kept l e = let (f, g, k, m) = refused_means (told e) l in (g, k, m)

  -- WITH 14 exactly where the table of named sets fails, at its place: ahead of every refusal of the pattern, and of 13.
  pub check_fourteen : {q : ℕ} → (result_of x ≡ refused 14 q) ↔ Fails loaded q
  check_fourteen {q} = Iff.trans (check_refused (inr refl)) (fourteen_exactly loaded p q)

  -- WITH 1 TO 8, where it passes, exactly for the pattern's fault,
  pub check_faults : Passes loaded → {n q : ℕ} → n ≤ 8 → (result_of x ≡ refused n q) ↔ Fault p n q
  check_faults sets l = Iff.trans (check_refused (inl l)) (passing_refuses sets p)

  -- and so exactly where there is no tree within the limits.
  pub check_refuses : Passes loaded → ((n q : ℕ) × (n ≤ 8) × (result_of x ≡ refused n q)) ↔ ((a : Alternation) → Reads p a → ⊥)
  check_refuses sets = (
    λ (n, q, l, e) a i. not_both p a n q i ((check_faults sets l).0 e),
    λ none. either (λ (a, i). absurd (none a i)) (λ (n, q, f). (n, q, fault_number f, (check_faults sets (fault_number f)).1 f)) (either_way p),
  )

  -- AS BEFORE THE REQUESTS: what `check` hands over for a plain pattern is the one right result by paper 01's list as it was.
  pub check_plain : ((a : Alternation) → Accepts loaded p a → Plain (write_out loaded a)) → (z : Whole) (s'' : List ℕ) → CheckedBy form_of (standing_by base) loaded p t v s z s'' ↔ ((z ≡ whole (result_of x) t' v') × (s'' ≡ s'))
  check_plain d z s'' = Iff.trans (Iff.symm (plain_checked z s'' d)) (check_is z s'')

  -- AND FOR EVERY PATTERN the one of the pattern without its brackets.
  pub check_bare : (z : Whole) (s'' : List ℕ) → CheckedBy form_of (λ r. standing (bare r)) loaded p t v s z s'' ↔ ((z ≡ whole (result_of x) t' v') × (s'' ≡ s'))
  check_bare z s'' = Iff.trans (Iff.symm (bare_checked z s'')) (check_is z s'')

  -- AND FOR A PATTERN WITHOUT LAZY REPEATS the one by the list in which every repeat takes its turns first.
  pub check_eager : ((a : Alternation) → Accepts loaded p a → eagerly a ≡ a) → (z : Whole) (s'' : List ℕ) → CheckedBy form_of (standing_by turns_first) loaded p t v s z s'' ↔ ((z ≡ whole (result_of x) t' v') × (s'' ≡ s'))
  check_eager u z s'' = Iff.trans (Iff.symm (eager_checked z s'' u)) (check_is z s'')

  -- AND WITH PAPER 01'S RECORDS OF 64 BYTES, where they had slots enough in the table: the same result, count and witness.
  pub check_stays : {y : Result} {t'' v'' s'' : List ℕ} → y ≢ refused 10 0 → CheckedBy (λ r. wide) standing loaded p t v s (whole y t'' v'') s'' → (result_of x ≡ y) × (v' ≡ v'')
  check_stays other old = let (u, c) = verdict_stays other old in let e = (checked_one h c).0 in (ap result e, ap witness e)

  -- The buffers and the area keep their lengths.
  pub check_lengths : (length t' ≡ length t) × (length v' ≡ length v) × (length s' ≡ length s)
  check_lengths = lengths_kept h

  module _ (a : Alternation) (reads : Accepts loaded p a) where
    -- ALIKE: no sequence of bytes, however long, is cut differently. The count is 0 exactly if no matched string extends to a longer matched one, and else the number
    -- of distinct standings.
    pub check_alike : {n : ℕ} → x ≡ Ok (Alike n) → NoneCut (write_out loaded a) × (0 < n → Number (write_out loaded a) n) × ((n ≡ 0) ↔ NoneExtends (write_out loaded a))
    check_alike e = alike_means a reads (right e)

    -- UNLIKE: the sequence handed over, the first k bytes of the witness buffer, is cut differently, and every other that is cut differently is longer, or as long and
    -- later in byte order; the count is the number of distinct standings of the lines that none of these comes before; the rest of the buffer is kept.
    pub check_unlike : {n k : ℕ} → x ≡ Ok (Unlike n k)
        → FirstCut (write_out loaded a) (take k v') × Number (write_out loaded a) n × (length (take k v') ≡ k) × (drop k v' ≡ drop k v)
    check_unlike e = unlike_means a reads (right e)

    -- ROBUST by source 000's Definition 4, if the pattern is plain and the verdict is alike;
    pub check_robust : {n : ℕ} → Plain (write_out loaded a) → x ≡ Ok (Alike n) → Robust 256 (write_out loaded a)
    check_robust d e = (none_robust (write_out loaded a) d).0 (check_alike e).0

    -- NOT ROBUST, if it is unlike.
    pub check_not_robust : {n k : ℕ} → Plain (write_out loaded a) → x ≡ Ok (Unlike n k) → Robust 256 (write_out loaded a) → ⊥
    check_not_robust {k = k} d e f = let c = (check_unlike e).0 in (none_robust (write_out loaded a) d).1 f (take k v') c.bytes c.cut

    -- REFUSED WITH 13 exactly if the area is below 1,024 bytes, and then every buffer is unchanged.
    pub check_thirteen : (result_of x ≡ refused 13 0) ↔ (length s < area_bytes)
    check_thirteen = Iff.trans refusal (thirteen_exactly a reads)

    pub check_short : length s < area_bytes → (t' ≡ t) × (v' ≡ v) × (s' ≡ s)
    check_short l = let (e, k) = (short_area a reads l).0 h in (ap table e, ap witness e, k)

    -- Of an area that is long enough.
    module _ (room : area_bytes ≤ length s) where
      -- AFTERWARDS ITS FIRST 1,024 BYTES ARE ZERO, and the rest is kept.
      pub check_area : s' ≡ cleared s
      check_area = either (λ none. ((test_passes a reads room none).0 h).1) (λ fails. ((test_fails a reads room fails).0 h).1) (passes_or_fails loaded a)

      -- ALIKE WITHOUT A TABLE: with count 0 exactly if no matched string extends to a longer matched one, whatever table and buffer are, and they keep every byte.
      pub check_untabled : (x ≡ Ok (Alike 0)) ↔ NoneExtends (write_out loaded a)
      check_untabled = (λ e. (check_alike e).2.0 refl, λ none. alike_case x (ap result ((test_passes a reads room none).0 h).0))

      pub check_untouched : NoneExtends (write_out loaded a) → (t' ≡ t) × (v' ≡ v)
      check_untouched none = let e = ((test_passes a reads room none).0 h).0 in (ap table e, ap witness e)

      -- NEVER WITH 11 where the buffer has a byte for each slot.
      pub check_room : slots (form_of (write_out loaded a)) (length t) ≤ length v → result_of x ≢ refused 11 0
      check_room enough e = never_eleven a reads room enough (refusal.0 e)

      -- Of patterns that fail the test.
      module _ (fails : NoneExtends (write_out loaded a) → ⊥) where
        -- AS BEFORE THE TEST: result and both buffers are those of the records.
        pub check_tabled : Tabled loaded p t v (whole (result_of x) t' v')
        check_tabled = ((test_fails a reads room fails).0 h).0

        -- WITHHELD: exactly if the distinct standings of the lines that no line cut differently comes before outnumber the slots, or the first line cut differently is
        -- longer than the buffer;
        pub check_withheld : ((result_of x ≡ refused 10 0) ⊎ (result_of x ≡ refused 11 0)) ↔ (Outnumber (write_out loaded a) (slots (form_of (write_out loaded a)) (length t)) ⊎ Longer (write_out loaded a) (length v))
        check_withheld = (
          λ c. (withheld_exactly a reads room fails).0 (either (λ e. inl (refusal.0 e)) (λ e. inr (refusal.0 e)) c),
          λ o. either (λ c. inl (refusal.1 c)) (λ c. inr (refusal.1 c)) ((withheld_exactly a reads room fails).1 o),
        )

        -- WITH 10 exactly if they outnumber the slots,
        pub check_ten : (result_of x ≡ refused 10 0) ↔ Outnumber (write_out loaded a) (slots (form_of (write_out loaded a)) (length t))
        check_ten = Iff.trans refusal (ten_exactly a reads room fails)

        -- WITH 11 exactly if they do not, and that line is longer than the buffer.
        pub check_eleven : (result_of x ≡ refused 11 0) ↔ ((Outnumber (write_out loaded a) (slots (form_of (write_out loaded a)) (length t)) → ⊥) × Longer (write_out loaded a) (length v))
        check_eleven = Iff.trans refusal (eleven_exactly a reads room fails)

        -- OTHERWISE it is a verdict, and carries their number.
        pub check_decides : (Outnumber (write_out loaded a) (slots (form_of (write_out loaded a)) (length t)) → ⊥) → (Longer (write_out loaded a) (length v) → ⊥)
            → ((n : ℕ) × (x ≡ Ok (Alike n)) × Number (write_out loaded a) n) ⊎ ((n k : ℕ) × (x ≡ Ok (Unlike n k)) × Number (write_out loaded a) n)
        check_decides f g = go x refl
          where
            go : (y : Outcome Verdict Refusal) → x ≡ y → ((n : ℕ) × (x ≡ Ok (Alike n)) × Number (write_out loaded a) n) ⊎ ((n k : ℕ) × (x ≡ Ok (Unlike n k)) × Number (write_out loaded a) n)
            go (Ok (Alike n)) e = inl (n, e, (tabled_alike a reads (subst (λ y. Tabled loaded p t v (whole (result_of y) t' v')) e check_tabled)).1)
            go (Ok (Unlike n k)) e = inr (n, k, e, (check_unlike e).1)
            go (Err r) e =
                let (number, place) = tabled_numbers reads (subst (λ y. Tabled loaded p t v (whole (result_of y) t' v')) e check_tabled) in
                absurd (either f g (check_withheld.0 (either (λ i. inl (ap result_of e ∙ ap₂ refused i place)) (λ i. inr (ap result_of e ∙ ap₂ refused i place)) number)))
