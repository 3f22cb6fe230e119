-- The origin fields lead from a record back to record 0, and the bytes on the way are its line.
-- Assumes nothing.
use mathlib.Core.Path.{◌≡◌, refl, sym, ap, ap₂, ◌∙◌, subst}
use Prim.Native.Nat.{ℕ, zero, suc, ◌+◌, ◌*◌, ◌-◌, ◌≤◌, ◌<◌}
use mathlib.Core.List.{List, [], ◌∷◌, ◌++◌, append-nil, append_assoc}
use native.Mathlib.Omega.{arith}
use native.Mathlib.Decide.{dec_lt}
use lib.ListN.{length, get_or, set, length-append}
use lib.Seq.{sets, set_comm, length-sets}
use Rattle.theory.specs.Pattern.{Re, count, Numbered}
use Rattle.theory.specs.Standing.{standing}
use Rattle.theory.specs.Records.{at, Records}
use Rattle.theory.proofs.Lines.{≺_empty}
use Rattle.theory.specs.Code.Search.{Search}
use Rattle.theory.proofs.Records.{search_records}
use Rattle.verdict.specs.Record.{form_of, record_bytes}
use Rattle.verdict.specs.Table.{record_of, onto}
use Rattle.verdict.proofs.Tables.{From, nothing, grown, from_where, slot, slots_most, onto_sets}
use Rattle.verdict.proofs.Origins.{came_from}
use Rattle.verdict.proofs.Forms.{narrow_least}
use Rattle.table.specs.Slots.{slot_count, slot_at, origin_at, byte_at}
use Rattle.table.proofs.Laws.{slot_there, slot_byte, origin_of_lem, byte_of}
use Rattle.search.specs.Ends.{HoldsRecords}
use Rattle.search.proofs.Looks.{all_inside}
use Rattle.checker.specs.Origins.{Line, empty, Lined, Length, Fits, Written}
use Rattle.checker.specs.Origins.{grown as comes}
use Rattle.std.proofs.Common.{Ok, Err}
use Rattle.reader.specs.declared.refusal.Fault.TheVariants.{WitnessTooLong}
use Rattle.checker.specs.declared.Verdict.TheVariants.{Unlike}
use Rattle.checker.specs.Steps.{Handed, given, too_long}

-- A record has one line.
pub line_one : {m : ℕ} {t : List ℕ} {k : ℕ} {w v : List ℕ} → Line m t k w → Line m t k v → w ≡ v
line_one empty empty = refl
line_one empty (comes p h x) = absurd (omega arith)
line_one (comes p h x) empty = absurd (omega arith)
line_one {m} {t} {k} (comes p h x) (comes q g y) = ap (λ u. u ++ (byte_at m t k ∷ [])) (line_one x y)

-- Record 0's is empty, and another's comes from a lower record.
pub line_zero : {m : ℕ} {t : List ℕ} {w : List ℕ} → Line m t 0 w → w ≡ []
line_zero x = line_one x empty

pub record Step (m : ℕ) (t : List ℕ) (k : ℕ) (w : List ℕ) : Type 0 where
  pub before : List ℕ
  pub lower : origin_at m t k < k
  pub line : Line m t (origin_at m t k) before
  pub added : w ≡ before ++ (byte_at m t k ∷ [])

pub line_step : {m : ℕ} {t : List ℕ} {k : ℕ} {w : List ℕ} → 0 < k → Line m t k w → Step m t k w
line_step p empty = absurd (omega arith)
line_step p (comes {w = w} q h x) = record { before = w; lower = h; line = x; added = refl }

-- The line of record k is line k, in a table that a search has filled.
zero_line : (r : Re) {L : List (List ℕ)} → Records (standing r) L → 0 < length L → at L 0 ≡ []
zero_line r {L} a l = go (at L 0) refl (from_where (at L 0))
  where
    go : (w : List ℕ) → at L 0 ≡ w → From w → w ≡ []
    go _ e nothing = refl
    go _ e (grown u b) = let (j, h, s) = a.before 0 l [] tt (rw e (≺_empty u b)) in absurd (omega arith)

module _ (r : Re) (d : Numbered 0 r) (few : count r ≤ 64) {t₀ : List ℕ} {L : List (List ℕ)} {t : List ℕ} {q c : ℕ} (h : HoldsRecords r t₀ L t) (x : Search r L q c) where
  fields : (k : ℕ) → k < length L → (j b : ℕ) → j < 65536 → b < 256 → record_of (form_of r) (standing r) L (at L k) ≡ record_bytes (form_of r) (standing r (at L k)) j b
      → (origin_at (form_of r).bytes t k ≡ j) × (byte_at (form_of r).bytes t k ≡ b)
  fields k l j b hj hb e =
      let m = (form_of r).bytes in
      let least : 13 ≤ m = narrow_least (count r) in
      let is : slot_at m t k ≡ record_bytes (form_of r) (standing r (at L k)) j b = ap (λ y. slot_at m y k) h.table ∙ slot (form_of r) r L t₀ k l ∙ e in
      let byte : (i : ℕ) → i < 13 → get_or t (m * k + i) 0 ≡ get_or (record_bytes (form_of r) (standing r (at L k)) j b) i 0 = λ i g. slot_byte m t k i (omega arith) ∙ ap (λ y. get_or y i 0) is in
      let inside : k < slot_count m (length t) = omega (arith, all_inside r h few) in (
        slot_there m t k _ 0 inside ∙ ap₂ (λ a z. 256 * a + z) (byte 10 (omega arith)) (byte 11 (omega arith)) ∙ origin_of_lem (form_of r) least (standing r (at L k)) j b hj,
        slot_there m t k _ 0 inside ∙ byte 12 (omega arith) ∙ byte_of (form_of r) least (standing r (at L k)) j b hb,
      )

  lines_to : (f k : ℕ) → k < f → k < length L → Line (form_of r).bytes t k (at L k)
  lines_to zero k i l = absurd (omega arith)
  lines_to (suc f) k i l = go (dec_lt 0 k) λ j h. lines_to f j (omega arith) (omega arith)
    where
      go : Dec (0 < k) → ((j : ℕ) → j < k → Line (form_of r).bytes t j (at L j)) → Line (form_of r).bytes t k (at L k)
      go (no p) lower =
          let z : k ≡ 0 = omega arith in
          rw z (rw (zero_line r (search_records r d x) (omega arith)) empty)
      go (yes p) below =
          let (j, b, lower, byte, e, s) = came_from (form_of r) r d x k p l in
          let few-records : j < 65536 = omega (arith, h.fits, slots_most (form_of r) (length t₀)) in
          let (o, y) = fields k l j b few-records byte s in
          subst (Line (form_of r).bytes t k) (ap (λ a. at L j ++ (a ∷ [])) y ∙ sym e) (comes p (omega arith) (subst (λ z. Line (form_of r).bytes t z (at L j)) (sym o) (below j lower)))

  pub record_line : (k : ℕ) → k < length L → Line (form_of r).bytes t k (at L k)
  record_line k l = lines_to (suc k) k (omega arith) l

-- A byte set before a run of others.
set_sets : (u v : List ℕ) (i j b : ℕ) → i < j → set (sets v j u) i b ≡ sets (set v i b) j u
set_sets [] v i j b h = refl
set_sets (y ∷ u) v i j b h = set_sets u (set v j y) i (suc j) b (omega arith) ∙ ap (λ x. sets x (suc j) u) (set_comm v j i y b λ e. omega arith)

-- Back from record k₀: record k has the front of its line, and the rest is behind.
pub record Back (m : ℕ) (t : List ℕ) (k₀ k : ℕ) (front rest : List ℕ) : Type 0 where
  pub line : Line m t k front
  pub whole : Line m t k₀ (front ++ rest)
  pub steps : length rest + k ≤ k₀

back_start : {m : ℕ} {t : List ℕ} {k : ℕ} {w : List ℕ} → Line m t k w → Back m t k k w []
back_start {m} {t} {k} {w} x = record { line = x; whole = subst (Line m t k) (sym (append-nil w)) x; steps = omega arith }

-- One step back, to record j.
pub record Stepped (m : ℕ) (t : List ℕ) (k₀ k j : ℕ) (front rest : List ℕ) : Type 0 where
  pub before : List ℕ
  pub lower : j < k
  pub shorter : length front ≡ length before + 1
  pub back : Back m t k₀ j before (byte_at m t k ∷ rest)

pub back_step : {m : ℕ} {t : List ℕ} {k₀ k j : ℕ} {front rest : List ℕ} → 0 < k → j ≡ origin_at m t k → Back m t k₀ k front rest → Stepped m t k₀ k j front rest
back_step {m} {t} {k₀} {k} {j} {front} {rest} p e b =
    let s = line_step p b.line in
    let joined : front ++ rest ≡ s.before ++ (byte_at m t k ∷ rest) = ap (λ x. x ++ rest) s.added ∙ append_assoc s.before (byte_at m t k ∷ []) rest in
    record {
      before = s.before;
      lower = omega (arith, s.lower);
      shorter = ap length s.added ∙ length-append s.before (byte_at m t k ∷ []);
      back = record { line = subst (λ z. Line m t z s.before) (sym e) s.line; whole = subst (Line m t k₀) joined b.whole; steps = omega (arith, s.lower, b.steps) };
    }

back_end : {m : ℕ} {t : List ℕ} {k₀ k : ℕ} {front rest : List ℕ} → k ≡ 0 → Back m t k₀ k front rest → (front ≡ []) × Line m t k₀ rest
back_end {m} {t} {k₀} {k} {front} {rest} z b =
    let none : front ≡ [] = line_zero (subst (λ z. Line m t z front) z b.line) in
    (none, subst (λ x. Line m t k₀ (x ++ rest)) none b.whole)

-- The length so far.
pub record Counting (m : ℕ) (t : List ℕ) (k₀ k n : ℕ) : Type 0 where
  pub front : List ℕ
  pub rest : List ℕ
  pub back : Back m t k₀ k front rest
  pub counted : n ≡ length rest

pub count_start : {m : ℕ} {t : List ℕ} {k : ℕ} → Lined m t k → Counting m t k k 0
count_start (w, x) = record { front = w; rest = []; back = back_start x; counted = refl }

pub count_step : {m : ℕ} {t : List ℕ} {k₀ k n j : ℕ} → 0 < k → j ≡ origin_at m t k → Counting m t k₀ k n → (j < k) × Counting m t k₀ j (n + 1)
count_step {m} {t} {k₀} {k} {n} {j} p e x =
    let s = back_step p e x.back in
    (s.lower, record { front = s.before; rest = byte_at m t k ∷ x.rest; back = s.back; counted = omega (arith, x.counted) })

pub count_end : {m : ℕ} {t : List ℕ} {k₀ k n : ℕ} → k ≡ 0 → Counting m t k₀ k n → Length m t k₀ n
count_end z x w y = x.counted ∙ ap length (line_one (back_end z x.back).1 y)

-- What is written so far: the rest of the line, from place i on.
pub record Writing (m : ℕ) (t : List ℕ) (k₀ k i : ℕ) (v₀ v : List ℕ) : Type 0 where
  pub front : List ℕ
  pub rest : List ℕ
  pub back : Back m t k₀ k front rest
  pub place : i ≡ length front
  pub room : i + length rest ≤ length v₀
  pub written : v ≡ sets v₀ i rest

pub write_start : {m : ℕ} {t : List ℕ} {k n : ℕ} {v : List ℕ} → Fits m t k n v → Writing m t k k n v v
write_start f = let (w, x) = f.lined in record { front = w; rest = []; back = back_start x; place = f.size w x; room = omega (arith, f.room); written = refl }

pub write_length : {m : ℕ} {t : List ℕ} {k₀ k i : ℕ} {v₀ v : List ℕ} → Writing m t k₀ k i v₀ v → length v ≡ length v₀
write_length {i = i} {v₀ = v₀} x = ap length x.written ∙ length-sets v₀ i x.rest

-- There is a byte left to write, and room for it.
pub write_left : {m : ℕ} {t : List ℕ} {k₀ k i : ℕ} {v₀ v : List ℕ} → 0 < k → Writing m t k₀ k i v₀ v → (0 < i) × (i ≤ length v)
write_left p x = let s = back_step p refl x.back in (omega (arith, s.shorter, x.place), omega (arith, x.room, write_length x))

pub write_step : {m : ℕ} {t : List ℕ} {k₀ k i j b : ℕ} {v₀ v : List ℕ} → 0 < k → j ≡ origin_at m t k → b ≡ byte_at m t k → Writing m t k₀ k i v₀ v → (j < k) × Writing m t k₀ j (i - 1) v₀ (set v (i - 1) b)
write_step {m} {t} {k₀} {k} {i} {j} {b} {v₀} {v} p e f x =
    let s = back_step p e x.back in
    let up : i ≡ suc (i - 1) = omega (arith, s.shorter, x.place) in (
      s.lower,
      record {
        front = s.before;
        rest = byte_at m t k ∷ x.rest;
        back = s.back;
        place = omega (arith, s.shorter, x.place);
        room = omega (arith, s.shorter, x.place, x.room);
        written = ap₂ (λ y z. set y (i - 1) z) (x.written ∙ ap (λ z. sets v₀ z x.rest) up) f ∙ set_sets x.rest v₀ (i - 1) (suc (i - 1)) (byte_at m t k) (omega arith);
      },
    )

pub write_end : {m : ℕ} {t : List ℕ} {k₀ k i : ℕ} {v₀ v : List ℕ} → k ≡ 0 → Writing m t k₀ k i v₀ v → Written m t k₀ v₀ v
write_end {m} {t} {k₀} {k} {i} {v₀} z x w y =
    let (none, line) = back_end z x.back in
    let first : i ≡ 0 = x.place ∙ ap length none in
    let all : x.rest ≡ w = line_one line y in
    x.written ∙ ap₂ (sets v₀) first all ∙ sym (onto_sets v₀ w (omega (arith, x.room, ap length all)))

-- Handed over, or too long for the buffer.
pub handed_given : {m : ℕ} {t : List ℕ} {n k : ℕ} {v v' : List ℕ} → Lined m t (n - 1) → Length m t (n - 1) k → k ≤ length v → Written m t (n - 1) v v' → Handed m t n v (Ok (Unlike n k)) v'
handed_given {m} {t} {n} {k} {v} {v'} (w, x) size room written =
    let e = size w x in
    subst (Handed m t n v (Ok (Unlike n k))) (sym (written w x)) (subst (λ z. Handed m t n v (Ok (Unlike n z)) (onto v w)) (sym e) (given x (omega arith)))

pub handed_short : {m : ℕ} {t : List ℕ} {n k : ℕ} {v : List ℕ} → Lined m t (n - 1) → Length m t (n - 1) k → length v < k → Handed m t n v (Err (record { fault = WitnessTooLong; place = 0 })) v
handed_short (w, x) size short = let e = size w x in too_long x (omega arith)
