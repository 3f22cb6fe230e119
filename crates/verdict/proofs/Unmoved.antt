-- What requests 1, 2, 5, 7 and 8 of paper 02 leave as it was of the checker's result.
-- Assumes nothing.
use mathlib.Core.Path.{◌≡◌, refl, sym, ap, ap₂, ◌∙◌, subst}
use mathlib.Core.Bool.{Bool, true, false, cond}
use mathlib.Core.Logic.{◌⊎◌, inl, inr, ◌↔◌, ◌≢◌}
use mathlib.Core.List.{List, ◌++◌}
use mathlib.Core.Option.{Option, none, some}
use Prim.Native.Nat.{ℕ, ◌-◌, ◌*◌, ◌/◌, ◌≤◌, ◌<◌}
use native.Mathlib.Omega.{arith}
use native.Mathlib.Decide.{dec_lt}
use native.Mathlib.Nat.{le-div_iff_mul-le, div-mul-le_self, mul-le-mul_left}
use lib.ListN.{length, take, drop, replicate}
use lib.Dec.{ltb, ltb→lt, lt→ltb}
use Rattle.theory.specs.Pattern.{Re, count}
use Rattle.theory.specs.Standing.{Standing, standing_by, standing}
use Rattle.theory.specs.Records.{at, Needs}
use Rattle.theory.proofs.Sizes.{order_size}
use Rattle.theory.proofs.Tests.{T_true, not_true, either}
use Rattle.theory.specs.Base.{base, Plain, bare, turns_first}
use Rattle.theory.proofs.Unmoved.{plain_standing, bare_standing, eager_standing}
use Rattle.extends.specs.Extends.{NoneExtends}
use Rattle.extends.proofs.Alike.{none_cut}
use Rattle.grammar.specs.Grammar.{Alternation}
use Rattle.grammar.specs.Loaded.{Accepts}
use Rattle.grammar.specs.WriteOut.{write_out}
use Rattle.grammar.specs.Eager.{eagerly}
use Rattle.grammar.proofs.Eager.{unsigned_eager}
use Rattle.grammar.proofs.Loaded.{one_tree, accepts_not_refuses}
use Rattle.grammar.proofs.Size.{write_out_numbered, leaves_64}
use Rattle.verdict.specs.Record.{Form, form_of, narrow, wide}
use Rattle.verdict.specs.Table.{number_of, body, last_byte, records_of, records, slots, onto}
use Rattle.verdict.specs.Tabled.{Result, alike, unlike, refused, Whole, whole, decided, due, TabledBy, by_reader, by_records, Tabled}
use Rattle.verdict.specs.Area.{cleared}
use Rattle.verdict.specs.Checked.{CheckedBy, Checked, by_fault, by_area, by_test, by_table}
use Rattle.verdict.specs.Demand.{NoneCut}
use Rattle.verdict.proofs.Tables.{slot}
use Rattle.verdict.proofs.Forms.{narrow_least, narrow_most, wide_narrow}
use Rattle.verdict.proofs.One.{result, table, witness}
use Rattle.verdict.proofs.Tabled.{needs_one}
use Rattle.verdict.proofs.Checked.{checked_by}
use Rattle.verdict.proofs.ByTable.{tabled_numbers, tabled_unlike, tabled_eleven}

-- Two standings of the written-out pattern that are the same give the same results.
module _ {loaded p t v : List ℕ} (stand : Re → List ℕ → Standing) (same : (a : Alternation) → Accepts loaded p a → standing (write_out loaded a) ≡ stand (write_out loaded a)) where
  to : {z : Whole} → Tabled loaded p t v z → TabledBy form_of stand loaded p t v z
  to (by_reader f) = by_reader f
  to (by_records {a = a} {L = L} {w = w} i n) =
      subst (λ s. TabledBy form_of stand loaded p t v (due (form_of (write_out loaded a)) s t v L w)) (sym (same a i)) (by_records i (subst (λ s. Needs s L w) (same a i) n))

  back : {z : Whole} → TabledBy form_of stand loaded p t v z → Tabled loaded p t v z
  back (by_reader f) = by_reader f
  back (by_records {a = a} {L = L} {w = w} i n) = subst (λ s. Tabled loaded p t v (due (form_of (write_out loaded a)) s t v L w)) (same a i) (by_records i (subst (λ s. Needs s L w) (sym (same a i)) n))

module _ {loaded p t v : List ℕ} (z : Whole) where
  -- The result of a plain pattern is as it was, and so is every byte of both buffers; a refused pattern's too.
  pub plain_tabled : ((a : Alternation) → Accepts loaded p a → Plain (write_out loaded a)) → Tabled loaded p t v z ↔ TabledBy form_of (standing_by base) loaded p t v z
  plain_tabled plain =
      let same : (a : Alternation) → Accepts loaded p a → standing (write_out loaded a) ≡ standing_by base (write_out loaded a) = λ a i k w. plain_standing (write_out loaded a) (plain a i) w k in
      (to (standing_by base) same, back (standing_by base) same)

  -- The result is that of the pattern without its brackets, for every pattern, and every byte of both buffers.
  pub bare_tabled : Tabled loaded p t v z ↔ TabledBy form_of (λ r. standing (bare r)) loaded p t v z
  bare_tabled =
      let same : (a : Alternation) → Accepts loaded p a → standing (write_out loaded a) ≡ standing (bare (write_out loaded a)) = λ a i k w. bare_standing (write_out loaded a) w k in
      (to (λ r. standing (bare r)) same, back (λ r. standing (bare r)) same)

  -- The result of a pattern without lazy repeats is as it was, and so is every byte of both buffers.
  pub eager_tabled : ((a : Alternation) → Accepts loaded p a → eagerly a ≡ a) → Tabled loaded p t v z ↔ TabledBy form_of (standing_by turns_first) loaded p t v z
  eager_tabled unsigned =
      let same : (a : Alternation) → Accepts loaded p a → standing (write_out loaded a) ≡ standing_by turns_first (write_out loaded a) = λ a i k w. eager_standing (write_out loaded a) (unsigned_eager loaded a (unsigned a i)) w k in
      (to (standing_by turns_first) same, back (standing_by turns_first) same)

-- What is due to a pattern that needs the records with the first lines L, by any form of records.
module _ {loaded p : List ℕ} {a : Alternation} {L : List (List ℕ)} {w : Option (List ℕ)} (i : Accepts loaded p a) (needs : Needs (standing (write_out loaded a)) L w) (form : Re → Form) {t v : List ℕ} where
  due_only : {z : Whole} → TabledBy form standing loaded p t v z → z ≡ due (form (write_out loaded a)) (standing (write_out loaded a)) t v L w
  due_only (by_reader {n = n} {q = q} f) = absurd (accepts_not_refuses loaded p a n q i f)
  due_only (by_records {a = b} {L = M} {w = u} j n) =
      let e : b ≡ a = one_tree loaded p b a j i in
      let (x, y) = needs_one (write_out loaded a) (write_out_numbered loaded a) (subst (λ c. Needs (standing (write_out loaded c)) M u) e n) needs in
      ap (λ c. due (form (write_out loaded c)) (standing (write_out loaded c)) t v M u) e ∙ ap₂ (due (form (write_out loaded a)) (standing (write_out loaded a)) t v) x y

  -- With enough slots it is decided.
  decided_only : {z : Whole} → length L ≤ slots (form (write_out loaded a)) (length t) → TabledBy form standing loaded p t v z → z ≡ decided (form (write_out loaded a)) (standing (write_out loaded a)) t v L w
  decided_only h c =
      due_only c ∙ rw (not_true (ltb (slots (form (write_out loaded a)) (length t)) (length L)) λ x. omega (arith, ltb→lt (slots (form (write_out loaded a)) (length t)) (length L) x))

-- What is decided: the form of the records counts in the table alone.
abbrev result_due : List ℕ → List (List ℕ) → Option (List ℕ) → Result
result_due v L none = alike (length L)
result_due v L (some w) = cond (ltb (length v) (length w)) (refused 11 0) (unlike (length L) (length w))

abbrev buffer_due : List ℕ → Option (List ℕ) → List ℕ
buffer_due v none = v
buffer_due v (some w) = cond (ltb (length v) (length w)) v (onto v w)

decided_parts : (f : Form) (stand : List ℕ → Standing) (t v : List ℕ) (L : List (List ℕ)) (w : Option (List ℕ)) → decided f stand t v L w ≡ whole (result_due v L w) (onto t (records f stand L)) (buffer_due v w)
decided_parts f stand t v L none = refl
decided_parts f stand t v L (some w) = go (ltb (length v) (length w))
  where
    go : (c : Bool) → cond c (whole (refused 11 0) (onto t (records f stand L)) v) (whole (unlike (length L) (length w)) (onto t (records f stand L)) (onto v w))
        ≡ whole (cond c (refused 11 0) (unlike (length L) (length w))) (onto t (records f stand L)) (cond c v (onto v w))
    go true = refl
    go false = refl

-- Paper 01's records beside request 7's, for tables with enough slots in both forms.
module _ {loaded p : List ℕ} {a : Alternation} {L : List (List ℕ)} {w : Option (List ℕ)} (i : Accepts loaded p a) (needs : Needs (standing (write_out loaded a)) L w) {t u v : List ℕ}
    (enough : length L ≤ slots wide (length t)) (room : length L ≤ slots (form_of (write_out loaded a)) (length u))
    {x y : Result} {t' u' v' w' : List ℕ} (old : TabledBy (λ r. wide) standing loaded p t v (whole x t' v')) (new : Tabled loaded p u v (whole y u' w')) where
  old_is : whole x t' v' ≡ whole (result_due v L w) (onto t (records wide (standing (write_out loaded a)) L)) (buffer_due v w)
  old_is = decided_only i needs (λ r. wide) enough old ∙ decided_parts wide (standing (write_out loaded a)) t v L w

  new_is : whole y u' w' ≡ whole (result_due v L w) (onto u (records (form_of (write_out loaded a)) (standing (write_out loaded a)) L)) (buffer_due v w)
  new_is = decided_only i needs form_of room new ∙ decided_parts (form_of (write_out loaded a)) (standing (write_out loaded a)) u v L w

  -- RESULT, COUNT AND WITNESS ARE THE SAME,
  pub same_verdict : (x ≡ y) × (v' ≡ w')
  same_verdict = (ap result old_is ∙ sym (ap result new_is), ap witness old_is ∙ sym (ap witness new_is))

  -- AND SO ARE THE STANDINGS OF THE RECORDS AND THEIR ORDER: both tables have the records of the lines L,
  pub same_lines : (t' ≡ onto t (records wide (standing (write_out loaded a)) L)) × (u' ≡ onto u (records (form_of (write_out loaded a)) (standing (write_out loaded a)) L))
  same_lines = (ap table old_is, ap table new_is)

  -- each the old one without the zero bytes at its end.
  pub same_record : (k : ℕ) → k < length L
      → take 64 (drop (64 * k) t') ≡ take (form_of (write_out loaded a)).bytes (drop ((form_of (write_out loaded a)).bytes * k) u') ++ replicate (64 - (form_of (write_out loaded a)).bytes) 0
  same_record k l =
      let r = write_out loaded a in
      let f = form_of r in
      ap (λ z. take 64 (drop (64 * k) z)) same_lines.0
      ∙ slot wide r L t k l
      ∙ wide_narrow (count r) (standing r (at L k)) (number_of (standing r) L (standing r (body (at L k)))) (last_byte (at L k)) (order_size r (write_out_numbered loaded a) (at L k)) (leaves_64 loaded p a i.reads)
      ∙ ap (λ z. z ++ replicate (64 - f.bytes) 0) (sym (ap (λ z. take f.bytes (drop (f.bytes * k) z)) same_lines.1 ∙ slot f r L u k l))

-- The narrow form has no fewer slots than the wide one.
pub more_slots : (n m : ℕ) → n ≤ 64 → slots wide m ≤ slots (narrow n) m
unfolding slots
more_slots n m h =
    let w = (narrow n).bytes in
    let q = m / 64 in
    let fit : q * w ≤ m = omega (arith, mul-le-mul_left q (narrow_most n h), div-mul-le_self m 64) in
    let few : q ≤ m / w = (le-div_iff_mul-le {k = w} {x = q} {y = m} (omega (arith, narrow_least n))).1 fit in
    omega arith

-- No verdict of the records is lost: what was decided in a table with paper 01's records is decided in it, the same.
pub tabled_stays : {loaded p t v : List ℕ} {x : Result} {t' v' : List ℕ} → x ≢ refused 10 0 → TabledBy (λ r. wide) standing loaded p t v (whole x t' v') → (u : List ℕ) × Tabled loaded p t v (whole x u v')
tabled_stays {loaded} {p} {t} {v} {x} {t'} {v'} other old = go old refl
  where
    go : {z : Whole} → TabledBy (λ r. wide) standing loaded p t v z → z ≡ whole x t' v' → (u : List ℕ) × Tabled loaded p t v (whole x u v')
    go (by_reader {n = n} {q = q} f) e = (t, subst (λ z. Tabled loaded p t v (whole (result z) t (witness z))) e (by_reader f))
    go (by_records {a = a} {L = L} {w = w} i needs) e =
        elim (dec_lt (slots wide (length t)) (length L)) [
          | yes l ↦ (
              let full : due wide (standing (write_out loaded a)) t v L w ≡ whole (refused 10 0) (onto t (records_of wide (standing (write_out loaded a)) L (take (slots wide (length t)) L))) v =
              rw (T_true (ltb (slots wide (length t)) (length L)) (lt→ltb (slots wide (length t)) (length L) l)) in
              absurd (other (ap result (sym e ∙ full)))
              )
          | no l ↦ (
              let enough : length L ≤ slots wide (length t) = omega arith in
              let room : length L ≤ slots (form_of (write_out loaded a)) (length t) = omega (arith, more_slots (count (write_out loaded a)) (length t) (leaves_64 loaded p a i.reads)) in
              let new : Tabled loaded p t v (due (form_of (write_out loaded a)) (standing (write_out loaded a)) t v L w) = by_records i needs in
              let is = decided_only i needs form_of room new ∙ decided_parts (form_of (write_out loaded a)) (standing (write_out loaded a)) t v L w in
              let was = sym e ∙ decided_only i needs (λ r. wide) enough (by_records i needs) ∙ decided_parts wide (standing (write_out loaded a)) t v L w in (
                onto t (records (form_of (write_out loaded a)) (standing (write_out loaded a)) L),
                subst (λ z. Tabled loaded p t v (whole (result z) (onto t (records (form_of (write_out loaded a)) (standing (write_out loaded a)) L)) (witness z))) (sym was) (subst (Tabled loaded p t v) is new),
              )
              )
        ]

-- The same of the checker's result, with the test before the records.
module _ {loaded p t v s : List ℕ} (z : Whole) (s' : List ℕ) where
  -- THE RESULT OF A PLAIN PATTERN IS AS IT WAS, and so is every byte of the buffers and of the area.
  pub plain_checked : ((a : Alternation) → Accepts loaded p a → Plain (write_out loaded a)) → Checked loaded p t v s z s' ↔ CheckedBy form_of (standing_by base) loaded p t v s z s'
  plain_checked plain = (checked_by λ y. (plain_tabled y plain).0, checked_by λ y. (plain_tabled y plain).1)

  -- THE RESULT IS THAT OF THE PATTERN WITHOUT ITS BRACKETS, for every pattern.
  pub bare_checked : Checked loaded p t v s z s' ↔ CheckedBy form_of (λ r. standing (bare r)) loaded p t v s z s'
  bare_checked = (checked_by λ y. (bare_tabled y).0, checked_by λ y. (bare_tabled y).1)

  -- THE RESULT OF A PATTERN WITHOUT LAZY REPEATS IS AS IT WAS.
  pub eager_checked : ((a : Alternation) → Accepts loaded p a → eagerly a ≡ a) → Checked loaded p t v s z s' ↔ CheckedBy form_of (standing_by turns_first) loaded p t v s z s'
  eager_checked unsigned = (checked_by λ y. (eager_tabled y unsigned).0, checked_by λ y. (eager_tabled y unsigned).1)

-- NO VERDICT IS LOST.
pub verdict_stays : {loaded p t v s : List ℕ} {x : Result} {t' v' s' : List ℕ} → x ≢ refused 10 0 → CheckedBy (λ r. wide) standing loaded p t v s (whole x t' v') s' → (u : List ℕ) × Checked loaded p t v s (whole x u v') s'
verdict_stays {loaded} {p} {t} {v} {s} {x} {t'} {v'} other old = go old refl
  where
    go : {z : Whole} {s' : List ℕ} → CheckedBy (λ r. wide) standing loaded p t v s z s' → z ≡ whole x t' v' → (u : List ℕ) × Checked loaded p t v s (whole x u v') s'
    go (by_fault f) e = (t, subst (λ z. Checked loaded p t v s (whole (result z) t (witness z)) s) e (by_fault f))
    go (by_area i l) e = (t, subst (λ z. Checked loaded p t v s (whole (result z) t (witness z)) s) e (by_area i l))
    go (by_test i l h) e = (t, subst (λ z. Checked loaded p t v s (whole (result z) t (witness z)) (cleared s)) e (by_test i l h))
    go (by_table i l h c) e = let (u, d) = tabled_stays other (subst (TabledBy (λ r. wide) standing loaded p t v) e c) in (u, by_table i l h d)

-- WHAT THE TEST SETTLES WAS NEVER UNLIKE: the records of a pattern that passes gave alike, or were too many for the table.
pub passes_tabled : {loaded p t v : List ℕ} {a : Alternation} {x : Result} {t' v' : List ℕ} → Accepts loaded p a → NoneExtends (write_out loaded a) → Tabled loaded p t v (whole x t' v') → ((n : ℕ) × (x ≡ alike n)) ⊎ (x ≡ refused 10 0)
passes_tabled {loaded} {p} {t} {v} {a} {x} {t'} {v'} i passes c = go x c
  where
    clear : NoneCut (write_out loaded a)
    clear = none_cut (write_out loaded a) (write_out_numbered loaded a) passes

    go : (y : Result) → Tabled loaded p t v (whole y t' v') → ((n : ℕ) × (y ≡ alike n)) ⊎ (y ≡ refused 10 0)
    go (alike n) d = inl (n, refl)
    go (unlike n k) d = let f = (tabled_unlike a i d).0 in absurd (clear (take k v') f.bytes f.cut)
    go (refused n q) d =
        let (number, place) = tabled_numbers i d in
        either (λ e. inr (ap₂ refused e place))
        (λ e. let (w, f, l) = ((tabled_eleven a i).0 (t', v', subst (λ y. Tabled loaded p t v (whole y t' v')) (ap₂ refused e place) d)).1 in absurd (clear w f.bytes f.cut))
        number
