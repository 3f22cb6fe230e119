-- What the search finds for an accepted pattern, and the line that is handed over, is the right answer.
-- Assumes nothing.
use mathlib.Core.Path.{◌≡◌, refl, sym, ap, ap₂, ◌∙◌, subst}
use mathlib.Core.Logic.{inl, inr}
use Prim.Native.Nat.{ℕ, ◌-◌, ◌≤◌, ◌<◌, min}
use mathlib.Core.List.{List}
use native.Mathlib.Omega.{arith}
use Rattle.std.proofs.Common.{Result, Ok, Err}
use native.Mathlib.Nat.{min-eq_left}
use lib.ListN.{length}
use Rattle.theory.specs.Pattern.{Re, count, Numbered}
use Rattle.theory.specs.Standing.{standing}
use Rattle.extends.specs.Extends.{NoneExtends}
use Rattle.theory.specs.Records.{Unlike}
use Rattle.theory.proofs.Lines.{snoc_size, snoc_last}
use Rattle.theory.proofs.Records.{search_records}
use Rattle.grammar.specs.Grammar.{Alternation}
use Rattle.grammar.specs.Loaded.{Accepts}
use Rattle.grammar.specs.WriteOut.{write_out}
use Rattle.verdict.specs.Record.{form_of, narrow}
use Rattle.verdict.specs.Table.{slots, onto}
use Rattle.verdict.specs.Tabled.{alike, unlike, refused, whole}
use Rattle.verdict.specs.Area.{area_bytes}
use Rattle.verdict.specs.Checked.{Checked, by_fault, by_area, by_test, by_table}
use Rattle.verdict.specs.Code.Found.{Found, same_cuts, first_witness, no_slot, no_room}
use Rattle.verdict.proofs.Tabled.{tabled_exactly}
use Rattle.arrays.specs.declared.Pattern.{Pattern}
use Rattle.arrays.specs.Decoded.{decode}
use Rattle.follow.specs.declared.Tables.{Tables}
use Rattle.follow.specs.declared.TablesView.{TablesView}
use Rattle.follow.specs.Rows.{Right}
use Rattle.follow.specs.Views.{shown}
use Rattle.reader.specs.declared.refusal.Refusal.{Refusal}
use Rattle.reader.specs.declared.refusal.Fault.TheVariants.{NoSlot, AreaTooShort}
use Rattle.reader.specs.declared.Reading.{Reading}
use Rattle.reader.specs.Reading.{ReadRight}
use Rattle.reader.proofs.Laws.{accepted_reads, accepted_leaves, accepted_holds, refused_fault}
use Rattle.standing.specs.Stands.{Arrays, arrays, arrays_of, Lent}
use Rattle.standing.proofs.Lent.{lent}
use Rattle.search.specs.declared.Progress.{Progress}
use Rattle.search.specs.declared.Progress.TheVariants.{Clear, Witness, Full}
use Rattle.search.specs.declared.Course.{Course}
use Rattle.search.specs.Ends.{AllFound, WitnessFound, SlotsFull, Reached, Searched}
use Rattle.pairs.specs.Tested.{Ran}
use Rattle.checker.specs.declared.Verdict.{Verdict}
use Rattle.checker.specs.declared.Verdict.TheVariants.{Alike}
use Rattle.checker.specs.Origins.{Line, Lined}
use Rattle.checker.specs.declared.Report.{Report}
use Rattle.checker.specs.Verdicts.{result_of}
use Rattle.checker.specs.Looking.{without_look, LooksFor, unread, unsearched, Reports}
use Rattle.checker.specs.Steps.{Sound, Handed, given, too_long, Recorded, Known, Decides}
use Rattle.checker.proofs.Origins.{line_one, record_line}

-- The witness's record has its line.
module _ {r : Re} (d : Numbered 0 r) (most : count r ≤ 64) {t₀ : List ℕ} {n : ℕ} {t : List ℕ} (x : WitnessFound r t₀ n t) where
  last_place : n - 1 ≡ length x.lines
  last_place = omega (arith, x.size)

  last_line : Line (form_of r).bytes t (n - 1) x.line
  last_line =
      subst (λ k. Line (form_of r).bytes t k x.line) (sym last_place)
      (subst (Line (form_of r).bytes t (length x.lines)) (snoc_last x.lines x.line) (record_line r d most x.holds x.search (length x.lines) (omega (arith, snoc_size x.lines x.line))))

  pub last_lined : (0 < n) × Lined (form_of r).bytes t (n - 1)
  last_lined = (omega (arith, x.size), (x.line, last_line))

  first : Unlike (standing r) x.lines x.line
  first = record { records = search_records r d x.search; none = x.none; witness = x.witness }

  few : length x.lines < slots (form_of r) (length t₀)
  few = omega (arith, x.holds.fits, snoc_size x.lines x.line)

module _ {loaded p : List ℕ} {a : Alternation} (reads : Accepts loaded p a) (d : Numbered 0 (write_out loaded a)) (most : count (write_out loaded a) ≤ 64) {t v t' : List ℕ} where
  -- No witness: alike.
  pub found_alike : {n : ℕ} → AllFound (write_out loaded a) t n t' → Found loaded p t v (alike n) t' v
  found_alike x = same_cuts reads x.alike x.holds.fits (ap alike (sym x.size)) x.holds.table refl

  -- No slot for the next record: 10.
  pub found_full : SlotsFull (write_out loaded a) t t' → Found loaded p t v (refused 10 0) t' v
  found_full x = no_slot reads x.full x.size refl x.holds.table refl

  -- A witness: unlike, or 11.
  pub found_witness : {n : ℕ} {y : Result Verdict Refusal} {v' : List ℕ} → WitnessFound (write_out loaded a) t n t' → Handed (form_of (write_out loaded a)).bytes t' n v y v' → Found loaded p t v (result_of y) t' v'
  found_witness {n} x (given {w = w} l h) =
      let e : w ≡ x.line = line_one l (last_line d most x) in
      first_witness reads (first d most x) (few d most x) (subst (λ u. length u ≤ length v) e h) (ap₂ unlike (sym x.size) (ap length e)) x.holds.table (ap (onto v) e)
  found_witness {n} x (too_long {w = w} l h) =
      let e : w ≡ x.line = line_one l (last_line d most x) in
      no_room reads (first d most x) (few d most x) (subst (λ u. length v < length u) e h) refl x.holds.table refl

-- Of the arrays that are lent, and what the search found with them.
module _ {a : Arrays} {m : ℕ} {t : List ℕ} {c : Course} {t' : List ℕ} (searched : Searched a m t c t') where
  ends : {r : Re} → Lent r a → m ≡ (form_of r).bytes → (q : Progress) → c.progress ≡ q → Reached r t t' (λ n. AllFound r t n t') q
  ends {r} lent width q e = subst (Reached r t t' (λ n. AllFound r t n t')) e (searched.ends lent width)

  pub recorded_alike : {n : ℕ} {v : List ℕ} → c.progress ≡ Clear n → Recorded a m t v (record { verdict = Ok (Alike n); looking = c.looking }) t' v
  recorded_alike {n} e = record { found = λ reads lent width. found_alike reads lent.numbered lent.most (ends lent width (Clear n) e); looks = λ lent width. searched.looking lent width }

  pub recorded_full : {v : List ℕ} → c.progress ≡ Full → Recorded a m t v (record { verdict = Err (record { fault = NoSlot; place = 0 }); looking = c.looking }) t' v
  recorded_full e = record { found = λ reads lent width. found_full reads lent.numbered lent.most (ends lent width Full e); looks = λ lent width. searched.looking lent width }

  pub recorded_lined : {n : ℕ} → Known a m → c.progress ≡ Witness n → (0 < n) × Lined m t' (n - 1)
  recorded_lined {n} (r, lent, width) e = subst (λ z. (0 < n) × Lined z t' (n - 1)) (sym width) (last_lined lent.numbered lent.most (ends lent width (Witness n) e))

  pub recorded_witness : {n : ℕ} {y : Result Verdict Refusal} {v v' : List ℕ} → c.progress ≡ Witness n → Handed m t' n v y v' → Recorded a m t v (record { verdict = y; looking = c.looking }) t' v'
  recorded_witness {n} {y} {v} {v'} e h = record {
    found = λ reads lent width. found_witness reads lent.numbered lent.most (ends lent width (Witness n) e) (subst (λ z. Handed z t' n v y v') width h);
    looks = λ lent width. searched.looking lent width;
  }

-- The area is too short.
pub decides_short : {x : Pattern} {t v s s' : List ℕ} {y : Report} → y ≡ without_look (Err (record { fault = AreaTooShort; place = 0 })) → (length s < area_bytes) × (s' ≡ s) → Decides x t v s y t v s'
decides_short {x} {t} {v} {s} {s'} e (l, k) = subst (λ y. Decides x t v s y t v s') (sym e)
    (record { reports = λ {loaded} {p} reads f. record { checks = subst (Checked loaded p t v s (whole (refused 13 0) t v)) (sym k) (by_area reads l); looks = unsearched reads (inl l) } })

-- Of an accepted pattern's arrays, and the view of its tables.
module _ {x : Pattern} {tables : Tables} (sound : Sound x) (right : Right (decode x) tables) (view : TablesView) (masks : view.masks.now ≡ x.masks) (same : shown view ≡ tables) where
  lent_here : Lent (decode x) (arrays_of view)
  lent_here =
      let is : arrays x.masks tables.rows tables.lens tables.sets tables.ends ≡ arrays_of view = ap₂ (λ m t. arrays m t.rows t.lens t.sets t.ends) (sym masks) (sym same) in
      subst (Lent (decode x)) is (lent x tables right sound.numbered sound.most sound.holds)

  -- The test passes,
  pub decides_passes : {t v s s' : List ℕ} {y : Report} → y ≡ without_look (Ok (Alike 0)) → Ran view.masks.now view.sets.now view.ends.now s s' NoneExtends → Decides x t v s y t v s'
  decides_passes {t} {v} {s} {s'} e ran = subst (λ y. Decides x t v s y t v s') (sym e) (record {
    reports = λ {loaded} {p} reads f.
        let none = subst NoneExtends f (ran.says lent_here) in
        record { checks = subst (Checked loaded p t v s (whole (alike 0) t v)) (sym ran.area) (by_test reads ran.room none); looks = unsearched reads (inr none) };
  })

  module _ {m : ℕ} (width : m ≡ (narrow (min x.leaves 64)).bytes) where
    -- The width is that of the pattern's records.
    width_right : m ≡ (form_of (decode x)).bytes
    width_right = width ∙ ap (λ n. (narrow n).bytes) (ap (λ n. min n 64) sound.holds.leaves ∙ min-eq_left sound.most)

    pub decides_known : Known (arrays_of view) m
    decides_known = (decode x, lent_here, width_right)

    -- or it fails, and the records say what they say.
    pub decides_fails : {t v s s' : List ℕ} {y : Report} {t' v' : List ℕ} → Ran view.masks.now view.sets.now view.ends.now s s' (λ r. NoneExtends r → ⊥) → Recorded (arrays_of view) m t v y t' v' → Decides x t v s y t' v' s'
    decides_fails {t} {v} {s} {y = y} {t' = t'} {v' = v'} ran rec = record {
      reports = λ {loaded} {p} {a} reads f.
          let fails = subst (λ r. NoneExtends r → ⊥) f (ran.says lent_here) in
          let here = subst (λ r. Lent r (arrays_of view)) f lent_here in
          let wide = subst (λ r. m ≡ (form_of r).bytes) f width_right in
          record {
            checks = subst (Checked loaded p t v s (whole (result_of y.verdict) t' v')) (sym ran.area)
                (by_table reads ran.room fails ((tabled_exactly loaded p t v (result_of y.verdict) t' v').1 (rec.found reads here wide)));
            looks = LooksFor.searched reads ran.room fails (rec.looks here wide);
          };
    }

-- Of the reader's answer.
module _ {loaded p : List ℕ} where
  pub accepted_sound : {x : Reading} → ReadRight loaded p (Ok x) → Sound x.pattern
  accepted_sound h = record { numbered = (accepted_leaves h).0; most = (accepted_leaves h).1; holds = accepted_holds h }

  pub reports_accepted : {x : Reading} {t v s t' v' s' : List ℕ} (y : Report) → ReadRight loaded p (Ok x) → Decides x.pattern t v s y t' v' s' → Reports loaded p t v s y t' v' s'
  reports_accepted y h d = let (a, reads, f) = accepted_reads h in d.reports reads f

  pub reports_refused : {e : Refusal} {t v s : List ℕ} {y : Report} → y ≡ without_look (Err e) → ReadRight loaded p (Err e) → Reports loaded p t v s y t v s
  reports_refused {t = t} {v} {s} f h = subst (λ y. Reports loaded p t v s y t v s) (sym f) (record { checks = by_fault (refused_fault h); looks = unread (refused_fault h) })
