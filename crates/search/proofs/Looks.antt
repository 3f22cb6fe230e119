-- The look through the table: what it finds is a record of the standing, and where it finds none, none has it.
-- Assumes nothing.
use mathlib.Core.Path.{◌≡◌, sym, ap, ◌∙◌, subst}
use mathlib.Core.Logic.{◌≢◌}
use Prim.Native.Nat.{ℕ, ◌+◌, ◌≤◌, ◌<◌, min}
use mathlib.Core.Bool.{true, false, true≢false}
use mathlib.Core.List.{List}
use native.Mathlib.Omega.{arith}
use Rattle.std.proofs.Common.{Ok, Err}
use native.Mathlib.Nat.{min-eq_left, min-le_left}
use lib.ListN.{length}
use Rattle.theory.specs.Pattern.{Re, count, Numbered}
use Rattle.theory.specs.Standing.{standing}
use Rattle.theory.specs.Records.{at}
use Rattle.verdict.specs.Record.{form_of, record_bytes}
use Rattle.verdict.specs.Table.{body, last_byte, number_of, records, slots}
use Rattle.verdict.proofs.Tables.{records_size, slots_fit, onto_length, slot}
use Rattle.verdict.proofs.Forms.{narrow_room, narrow_least, narrow_most}
use Rattle.table.specs.Slots.{slot_count, slot_at}
use Rattle.table.specs.Looks.{same_standing, look}
use Rattle.table.specs.declared.Look.{Look}
use Rattle.table.proofs.Laws.{slots_are, agree_same, same_agree}
use Rattle.table.proofs.Looks.{First, None, look_first, look_none}
use Rattle.search.specs.Ends.{HoldsRecords}

-- The slots that a table of n bytes has for a pattern's records: paper 02's, and no more than there are.
module _ (r : Re) (few : count r ≤ 64) (n : ℕ) where
  pub slots_are_due : min (slot_count (form_of r).bytes n) 65535 ≡ slots (form_of r) n
  unfolding slots
  slots_are_due = ap (λ k. min k 65535) (slots_are (form_of r).bytes n (narrow_least (count r)) (omega (arith, narrow_most (count r) few)))

  pub slots_inside : slots (form_of r) n ≤ slot_count (form_of r).bytes n
  slots_inside = omega (arith, slots_are_due, min-le_left (slot_count (form_of r).bytes n) 65535)

module _ (r : Re) {t₀ : List ℕ} {L : List (List ℕ)} {t : List ℕ} (h : HoldsRecords r t₀ L t) where
  -- The table keeps its length.
  pub same_length : length t ≡ length t₀
  same_length = ap length h.table ∙ onto_length t₀ (records (form_of r) (standing r) L) (omega (arith, records_size (form_of r) r L L, slots_fit (form_of r) (length t₀) (length L) h.fits))

  pub slot_record : (k : ℕ) → k < length L → slot_at (form_of r).bytes t k ≡ record_bytes (form_of r) (standing r (at L k)) (number_of (standing r) L (standing r (body (at L k)))) (last_byte (at L k))
  slot_record k l = ap (λ x. slot_at (form_of r).bytes x k) h.table ∙ slot (form_of r) r L t₀ k l

  module _ (few : count r ≤ 64) where
    -- It has a slot for each record.
    pub all_inside : length L ≤ slot_count (form_of r).bytes (length t)
    all_inside = rw same_length (omega (arith, h.fits, slots_inside r few (length t₀)))

    module _ (d : Numbered 0 r) (w : List ℕ) (o b : ℕ) {n : ℕ} {x : Look} (size : length L ≡ n)
        (looked : x ≡ look (form_of r).bytes t (min n (slot_count (form_of r).bytes (length t))) (record_bytes (form_of r) (standing r w) o b)) where
      wanted : List ℕ
      wanted = record_bytes (form_of r) (standing r w) o b

      -- The records are all looked through.
      is : look (form_of r).bytes t n wanted ≡ x
      unfolding wanted
      is = sym (looked ∙ ap (λ k. look (form_of r).bytes t k wanted) (min-eq_left (omega (arith, all_inside))))

      -- The comparison with record j tells whether it has the standing.
      tells : (j : ℕ) → j < length L → same_standing (form_of r).bytes (slot_at (form_of r).bytes t j) wanted ≡ true → standing r (at L j) ≡ standing r w
      unfolding wanted
      tells j l e =
          agree_same (form_of r) (narrow_room (count r)) r d few (omega arith) (at L j) w _ _ o b (subst (λ v. same_standing (form_of r).bytes v wanted ≡ true) (slot_record j l) e)

      denies : (j : ℕ) → j < length L → same_standing (form_of r).bytes (slot_at (form_of r).bytes t j) wanted ≡ false → standing r (at L j) ≢ standing r w
      unfolding wanted
      denies j l f e =
          let s = standing r (at L j) in
          let origin = number_of (standing r) L (standing r (body (at L j))) in
          true≢false
          (sym (subst (λ z. same_standing (form_of r).bytes (record_bytes (form_of r) s origin (last_byte (at L j))) (record_bytes (form_of r) z o b) ≡ true) e (same_agree (form_of r) (narrow_least (count r)) s origin (last_byte (at L j)) o b))
          ∙ subst (λ v. same_standing (form_of r).bytes v wanted ≡ false) (slot_record j l) f)

      -- Found: record i has the standing, none before it has, and one more than its number were compared.
      pub found : (i : ℕ) → x.number ≡ Ok i
          → (i < n) × (standing r (at L i) ≡ standing r w) × ((j : ℕ) → j < i → standing r (at L j) ≢ standing r w) × (x.compared ≡ i + 1)
      found i e =
          let y = subst (λ z. First (form_of r).bytes t wanted 0 n z i) is (look_first (form_of r).bytes t wanted n i (ap (λ z. z.number) is ∙ e)) in
          let inside : i < n = omega (arith, y.inside) in
          (inside, tells i (omega arith) y.same, λ j l. denies j (omega arith) (y.before j (omega arith) l), y.compared)

      -- Not found: none has, and all of them were compared.
      pub not_found : (i : ℕ) → x.number ≡ Err i → ((j : ℕ) → j < n → standing r (at L j) ≢ standing r w) × (x.compared ≡ n)
      not_found i e =
          let y = subst (None (form_of r).bytes t wanted 0 n) is (look_none (form_of r).bytes t wanted n i (ap (λ z. z.number) is ∙ e)) in
          (λ j l. denies j (omega arith) (y.none j (omega arith) (omega arith)), omega (arith, y.compared))
