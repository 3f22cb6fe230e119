-- What a right answer of the checker says of the pattern.
-- Assumes nothing.
use mathlib.Core.Path.{◌≡◌, refl, sym, ap, subst}
use mathlib.Core.Logic.Iff
use mathlib.Core.Logic.{◌⊎◌, inl, inr, ◌↔◌}
use Prim.Native.Nat.{ℕ, ◌≤◌, ◌<◌}
use mathlib.Core.List.{List, []}
use native.Mathlib.Omega.{arith}
use native.Mathlib.Decide.{dec_lt, ℕ_discrete}
use lib.ListN.{length, take, drop}
use Rattle.theory.specs.Pattern.{Re, Numbered}
use Rattle.theory.specs.Spans.{Span-discrete, greedy, posix}
use Rattle.theory.specs.Lines.{Below}
use Rattle.theory.specs.Base.{Plain}
use Rattle.theory.specs.Preference.{Robust}
use Rattle.theory.proofs.Denotation.{robust}
use Rattle.theory.proofs.Tests.{either}
use Rattle.extends.specs.Extends.{NoneExtends}
use Rattle.extends.proofs.Alike.{none_cut}
use Rattle.grammar.specs.Grammar.{Alternation}
use Rattle.grammar.specs.Loaded.{Fails, Accepts, Refuses, by_sets}
use Rattle.grammar.specs.WriteOut.{write_out}
use Rattle.grammar.proofs.Loaded.{fourteen_exactly}
use Rattle.grammar.proofs.Size.{write_out_numbered}
use Rattle.verdict.specs.Record.{form_of}
use Rattle.verdict.specs.Table.{slots}
use Rattle.verdict.specs.Tabled.{Result, alike, unlike, refused, Whole, whole, Tabled}
use Rattle.verdict.specs.Area.{area_bytes, cleared}
use Rattle.verdict.specs.Checked.{Checked, by_fault, by_area, by_test, by_table}
use Rattle.verdict.specs.Demand.{NoneCut, FirstCut, Number, Outnumber, Longer}
use Rattle.verdict.proofs.Tabled.{tabled_some}
use Rattle.verdict.proofs.Area.{cleared_length, cleared_bytes}
use Rattle.verdict.proofs.Checked.{passes_or_fails, checked_one, checked_is}
use Rattle.verdict.proofs.One.{result, table, witness}
use Rattle.verdict.proofs.ByTable.{RefusedInTable, tabled_numbers, tabled_alike, tabled_unlike, tabled_ten, tabled_eleven, tabled_room, tabled_withheld, tabled_lengths, tabled_bytes}

-- NO LINE IS CUT DIFFERENTLY exactly if the pattern, a plain one, is robust by source 000's Definition 4.
pub none_robust : (r : Re) → Plain r → NoneCut r ↔ Robust 256 r
none_robust r d = (
  λ f. (robust 256 r d).1 λ w b. elim (Span-discrete ℕ_discrete (greedy r w) (posix r w)) [ yes e ↦ e | no e ↦ absurd (f w b e) ],
  λ h w b c. c ((robust 256 r d).0 h w b),
)

-- SOURCE 000, PROPOSITION 30: a pattern, a plain one, is robust if it is end-unambiguous, that is, if no matched string extends to a longer matched one.
pub unambiguous_robust : (r : Re) → Numbered 0 r → Plain r → NoneExtends r → Robust 256 r
unambiguous_robust r n d h = (none_robust r d).0 (none_cut r n h)

-- It is refused with that number at place 0.
abbrev pub RefusedBy : List ℕ → List ℕ → List ℕ → List ℕ → List ℕ → ℕ → Type 0
RefusedBy loaded p t v s n = (t' v' s' : List ℕ) × Checked loaded p t v s (whole (refused n 0) t' v') s'

-- The ways to the result z: the area is too short, the test passes, or it fails.
abbrev Ways : List ℕ → List ℕ → List ℕ → List ℕ → List ℕ → Alternation → Whole → Type 0
Ways loaded p t v s a z =
    ((z ≡ whole (refused 13 0) t v) × (length s < area_bytes))
    ⊎ (((z ≡ whole (alike 0) t v) × NoneExtends (write_out loaded a)) ⊎ (Tabled loaded p t v z × (NoneExtends (write_out loaded a) → ⊥)))

module _ {loaded p t v s : List ℕ} where
  module _ (a : Alternation) (i : Accepts loaded p a) where
    -- AN AREA THAT IS TOO SHORT: 13, and every buffer is unchanged.
    pub short_area : {z : Whole} {s' : List ℕ} → length s < area_bytes → Checked loaded p t v s z s' ↔ ((z ≡ whole (refused 13 0) t v) × (s' ≡ s))
    short_area {z} {s'} l = checked_is (by_area i l) z s'

    -- THE TEST PASSES: alike with count 0, the table and the witness buffer keep their bytes, whatever their lengths.
    pub test_passes : {z : Whole} {s' : List ℕ} → area_bytes ≤ length s → NoneExtends (write_out loaded a) → Checked loaded p t v s z s' ↔ ((z ≡ whole (alike 0) t v) × (s' ≡ cleared s))
    test_passes {z} {s'} l none = checked_is (by_test i l none) z s'

    -- IT FAILS: the result is that of the records, as it was before there was the test.
    pub test_fails : {z : Whole} {s' : List ℕ} → area_bytes ≤ length s → (NoneExtends (write_out loaded a) → ⊥) → Checked loaded p t v s z s' ↔ (Tabled loaded p t v z × (s' ≡ cleared s))
    test_fails {z} {s'} l fails = (
      λ c. let (y, d) = tabled_some loaded p t v in
          let (e, f) = checked_one c (by_table i l fails d) in
          (subst (Tabled loaded p t v) (sym e) d, f),
      λ (d, f). subst (Checked loaded p t v s z) (sym f) (by_table i l fails d),
    )

    three_ways : {z : Whole} {s' : List ℕ} → Checked loaded p t v s z s' → Ways loaded p t v s a z
    three_ways c =
        elim (dec_lt (length s) area_bytes) [
          | yes l ↦ inl (((short_area l).0 c).0, l)
          | no l ↦ inr (either (λ none. inl (((test_passes (omega arith) none).0 c).0, none)) (λ fails. inr (((test_fails (omega arith) fails).0 c).0, fails)) (passes_or_fails loaded a))
        ]

    -- ALIKE: no sequence of bytes, of any length, is cut differently. The count is 0 exactly if the test passes, and else the number of distinct standings.
    pub alike_means : {n : ℕ} {t' v' s' : List ℕ} → Checked loaded p t v s (whole (alike n) t' v') s'
        → NoneCut (write_out loaded a) × (0 < n → Number (write_out loaded a) n) × ((n ≡ 0) ↔ NoneExtends (write_out loaded a))
    alike_means {n} {t'} {v'} c = go (three_ways c)
      where
        go : Ways loaded p t v s a (whole (alike n) t' v') → NoneCut (write_out loaded a) × (0 < n → Number (write_out loaded a) n) × ((n ≡ 0) ↔ NoneExtends (write_out loaded a))
        go (inl (e, l)) = absurd (let z : ◌≡◌ {A = ℕ} 0 1 = cc in omega arith)
        go (inr (inl (e, none))) = let z : n ≡ 0 = cc in (none_cut (write_out loaded a) (write_out_numbered loaded a) none, λ l. absurd (omega arith), (λ _. none, λ _. z))
        go (inr (inr (d, fails))) =
            let (none, number) = tabled_alike a i d in
            let (k, l, e) = number.every [] tt (λ w b o. none w b) in
            (none, λ _. number, (λ z. absurd (omega arith), λ h. absurd (fails h)))

    -- UNLIKE: the witness handed over, the first k bytes of the buffer, is cut differently, and every other line that is cut differently is longer, or as long and
    -- later in byte order; the count is the number of distinct standings of the lines that none of these comes before; the rest of the buffer is kept.
    pub unlike_means : {n k : ℕ} {t' v' s' : List ℕ} → Checked loaded p t v s (whole (unlike n k) t' v') s'
        → FirstCut (write_out loaded a) (take k v') × Number (write_out loaded a) n × (length (take k v') ≡ k) × (drop k v' ≡ drop k v)
    unlike_means {n} {k} {t'} {v'} c = go (three_ways c)
      where
        go : Ways loaded p t v s a (whole (unlike n k) t' v') → FirstCut (write_out loaded a) (take k v') × Number (write_out loaded a) n × (length (take k v') ≡ k) × (drop k v' ≡ drop k v)
        go (inl (e, l)) = absurd (let z : ◌≡◌ {A = ℕ} 0 1 = cc in omega arith)
        go (inr (inl (e, none))) = absurd (let z : ◌≡◌ {A = ℕ} 0 1 = cc in omega arith)
        go (inr (inr (d, fails))) = tabled_unlike a i d

    -- REFUSED WITH 13 exactly if the area is below 1,024 bytes.
    pub thirteen_exactly : RefusedBy loaded p t v s 13 ↔ (length s < area_bytes)
    thirteen_exactly = (λ (t', v', s', c). go (three_ways c), λ l. (t, v, s, by_area i l))
      where
        go : {t' v' : List ℕ} → Ways loaded p t v s a (whole (refused 13 0) t' v') → length s < area_bytes
        go (inl (e, l)) = l
        go (inr (inl (e, none))) = absurd (let z : ◌≡◌ {A = ℕ} 0 1 = cc in omega arith)
        go (inr (inr (d, fails))) = absurd (either (λ e. omega arith) (λ e. omega arith) (tabled_numbers i d).0)

    module _ (room : area_bytes ≤ length s) where
      -- A PATTERN THAT PASSES is never refused: neither 10 nor 11 can meet it.
      pub passes_decides : NoneExtends (write_out loaded a) → {n : ℕ} → RefusedBy loaded p t v s n → ⊥
      passes_decides none (t', v', s', c) = let e = ap result ((test_passes room none).0 c).0 in let z : ◌≡◌ {A = ℕ} 0 1 = cc in omega arith

      -- Of patterns that fail the test.
      module _ (fails : NoneExtends (write_out loaded a) → ⊥) where
        in_table : {n : ℕ} → RefusedBy loaded p t v s n ↔ RefusedInTable loaded p t v n
        in_table = (λ (t', v', s', c). (t', v', ((test_fails room fails).0 c).0), λ (t', v', d). (t', v', cleared s, by_table i room fails d))

        -- WITHHELD: exactly if the distinct standings of the lines that no line cut differently comes before outnumber the slots (10), or else the first line cut
        -- differently is longer than the buffer (11).
        pub ten_exactly : RefusedBy loaded p t v s 10 ↔ Outnumber (write_out loaded a) (slots (form_of (write_out loaded a)) (length t))
        ten_exactly = Iff.trans in_table (tabled_ten a i)

        pub eleven_exactly : RefusedBy loaded p t v s 11 ↔ ((Outnumber (write_out loaded a) (slots (form_of (write_out loaded a)) (length t)) → ⊥) × Longer (write_out loaded a) (length v))
        eleven_exactly = Iff.trans in_table (tabled_eleven a i)

        pub withheld_exactly : (RefusedBy loaded p t v s 10 ⊎ RefusedBy loaded p t v s 11) ↔ (Outnumber (write_out loaded a) (slots (form_of (write_out loaded a)) (length t)) ⊎ Longer (write_out loaded a) (length v))
        withheld_exactly = (
          λ c. (tabled_withheld a i).0 (either (λ x. inl (in_table.0 x)) (λ x. inr (in_table.0 x)) c),
          λ o. either (λ x. inl (in_table.1 x)) (λ x. inr (in_table.1 x)) ((tabled_withheld a i).1 o),
        )

      -- A BUFFER WITH A BYTE FOR EACH SLOT is never too short.
      pub never_eleven : slots (form_of (write_out loaded a)) (length t) ≤ length v → RefusedBy loaded p t v s 11 → ⊥
      never_eleven enough c = either (λ none. passes_decides none c) (λ fails. tabled_room a i enough ((in_table fails).0 c)) (passes_or_fails loaded a)

  -- REFUSED with 1 to 8: the pattern's fault; with 14: the table of named sets. Every buffer keeps every byte.
  pub refused_means : {n q : ℕ} {t' v' s' : List ℕ} → Checked loaded p t v s (whole (refused n q) t' v') s' → (n ≤ 8) ⊎ (n ≡ 14) → Refuses loaded p n q × (t' ≡ t) × (v' ≡ v) × (s' ≡ s)
  refused_means {n} {q} {t'} {v'} c h = go c refl
    where
      go : {z : Whole} {u : List ℕ} → Checked loaded p t v s z u → z ≡ whole (refused n q) t' v' → Refuses loaded p n q × (t' ≡ t) × (v' ≡ v) × (u ≡ s)
      go (by_fault {n = m} {q = k} f) e = let x : m ≡ n = cc in let y : k ≡ q = cc in (subst (Refuses loaded p n) y (subst (λ j. Refuses loaded p j k) x f), (cc), (cc), refl)
      go (by_area i l) e = absurd (let x : n ≡ 13 = cc in either (λ y. omega arith) (λ y. omega arith) h)
      go (by_test i l none) e = absurd (let z : ◌≡◌ {A = ℕ} 0 1 = cc in omega arith)
      go (by_table i l fails d) e = absurd (let x = (tabled_numbers i (subst (Tabled loaded p t v) e d)).0 in either (λ y. either (λ w. omega arith) (λ w. omega arith) h) (λ y. either (λ w. omega arith) (λ w. omega arith) h) x)

  -- A TABLE OF NAMED SETS THAT FAILS: 14 at its place, ahead of every refusal of the pattern and of 13, and every buffer is unchanged, the area too.
  pub failing_sets : {q : ℕ} {z : Whole} {s' : List ℕ} → Fails loaded q → Checked loaded p t v s z s' ↔ ((z ≡ whole (refused 14 q) t v) × (s' ≡ s))
  failing_sets {q} {z} {s'} f = checked_is (by_fault (by_sets f)) z s'

  -- 14 EXACTLY IF IT FAILS.
  pub refused_fourteen : {q : ℕ} → ((t' v' s' : List ℕ) × Checked loaded p t v s (whole (refused 14 q) t' v') s') ↔ Fails loaded q
  refused_fourteen {q} = (λ (t', v', s', c). (fourteen_exactly loaded p q).0 (refused_means c (inr refl)).0, λ f. (t, v, s, (failing_sets f).1 (refl, refl)))

  -- The buffers and the area keep their lengths.
  pub lengths_kept : {x : Result} {t' v' s' : List ℕ} → Checked loaded p t v s (whole x t' v') s' → (length t' ≡ length t) × (length v' ≡ length v) × (length s' ≡ length s)
  lengths_kept {x} {t'} {v'} c = go c refl
    where
      go : {z : Whole} {u : List ℕ} → Checked loaded p t v s z u → z ≡ whole x t' v' → (length t' ≡ length t) × (length v' ≡ length v) × (length u ≡ length s)
      go (by_fault f) e = (ap length (sym (ap table e)), ap length (sym (ap witness e)), refl)
      go (by_area i l) e = (ap length (sym (ap table e)), ap length (sym (ap witness e)), refl)
      go (by_test i l none) e = (ap length (sym (ap table e)), ap length (sym (ap witness e)), cleared_length s l)
      go (by_table i l fails d) e = let (f, g) = tabled_lengths (subst (Tabled loaded p t v) e d) in (f, g, cleared_length s l)

  -- .. and stay bytes.
  pub bytes_kept : {x : Result} {t' v' s' : List ℕ} → Checked loaded p t v s (whole x t' v') s' → Below 256 t → Below 256 v → Below 256 s → Below 256 t' × Below 256 v' × Below 256 s'
  bytes_kept {x} {t'} {v'} c h k l = go c refl
    where
      both : {z : Whole} → z ≡ whole x t' v' → Below 256 (table z) → Below 256 (witness z) → Below 256 t' × Below 256 v'
      both e f g = (subst (λ z. Below 256 (table z)) e f, subst (λ z. Below 256 (witness z)) e g)

      go : {z : Whole} {u : List ℕ} → Checked loaded p t v s z u → z ≡ whole x t' v' → Below 256 t' × Below 256 v' × Below 256 u
      go (by_fault f) e = let (a, b) = both e h k in (a, b, l)
      go (by_area i m) e = let (a, b) = both e h k in (a, b, l)
      go (by_test i m none) e = let (a, b) = both e h k in (a, b, cleared_bytes s l)
      go (by_table i m fails d) e = let (a, b) = tabled_bytes (subst (Tabled loaded p t v) e d) h k in (a, b, cleared_bytes s l)
