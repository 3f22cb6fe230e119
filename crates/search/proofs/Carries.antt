-- What a byte leads to from a record: the cases of `carry`, by what the next standing, its record and the look are.
-- Assumes nothing.
use mathlib.Core.Path.{◌≡◌, refl, sym, ap, ap₂, ◌∙◌, subst}
use mathlib.Core.Logic.{◌≢◌}
use Prim.Native.Nat.{ℕ, suc, ◌+◌, ◌*◌, ◌≤◌, ◌<◌, min}
use mathlib.Core.Bool.{true, false, true≢false, not, ◌&&◌}
use mathlib.Core.List.{List}
use native.Mathlib.Omega.{arith}
use Rattle.std.proofs.Common.{Result, Ok, Err}
use Rattle.std.specs.Result.{is_ok}
use lib.ListN.{length, take}
use lib.Seq.{sets as stores}
use Rattle.theory.specs.Pattern.{Re}
use Rattle.theory.specs.Standing.{standing, is_witness}
use Rattle.theory.specs.Records.{at}
use Rattle.theory.proofs.Tests.{true_T, T_true}
use Rattle.theory.proofs.Step.{step}
use Rattle.verdict.specs.Record.{form_of, record_bytes}
use Rattle.verdict.specs.Table.{slots}
use Rattle.verdict.proofs.Forms.{take_held}
use Rattle.standing.specs.declared.Standing.{Standing}
use Rattle.standing.specs.Stands.{Arrays, Lent, Stands, Carried}
use Rattle.records.specs.Packing.{Packed}
use Rattle.table.specs.Slots.{slot_count, put}
use Rattle.table.specs.Looks.{look}
use Rattle.table.specs.declared.Look.{Look}
use Rattle.table.proofs.Laws.{slot_there}
use Rattle.search.specs.declared.Progress.{Progress}
use Rattle.search.specs.declared.Progress.TheVariants.{Clear, Witness, Full}
use Rattle.search.specs.declared.Looking.{Looking}
use Rattle.search.specs.Looking.{Takes}
use Rattle.search.specs.Ends.{WitnessFound, SlotsFull}
use Rattle.search.specs.Turns.{more, Working, Slotted, Turned}
use Rattle.search.proofs.Looks.{slots_inside, same_length, found, not_found}
use Rattle.search.proofs.Turns.{line, known_turn, full_turn, new_turn, witness_turn}

-- A look that found none has a number all the same.
missing : (x : Result ℕ ℕ) → is_ok x ≡ false → (i : ℕ) × (x ≡ Err i)
missing (Ok i) f = absurd (true≢false f)
missing (Err i) f = (i, refl)

-- The look is through the table that is lent.
pub seen : {w w' : ℕ} {t t' : List ℕ} (n : ℕ) (v : List ℕ) {k : Look} → w' ≡ w → t' ≡ t → k ≡ look w' t' (min n (slot_count w' (length t'))) (take w' v) → k ≡ look w t (min n (slot_count w (length t))) (take w v)
seen n v e f looked = looked ∙ ap₂ (λ w t. look w t (min n (slot_count w (length t))) (take w v)) e f

module _ (w : ℕ) {a : Arrays} {s after : Standing} {q c n : ℕ} {y z : Looking} {t v : List ℕ} {k : Look} (carried : Carried a s c after) (packed : Packed after q c v)
    (looked : k ≡ look w t (min n (slot_count w (length t))) (take w v)) (counted : z ≡ more y k.compared) where
  module _ {r : Re} {t₀ : List ℕ} (l : Lent r a) (x : Working r t₀ s q c n y t) where
    stands : Stands r after (standing r (line x))
    stands = subst (Stands r after) (sym (step r l.numbered (at x.state.lines q) c)) (carried.stands l x.stands)

    -- v begins with the record.
    recorded : take (form_of r).bytes v ≡ record_bytes (form_of r) (standing r (line x)) q c
    recorded = ap (take (form_of r).bytes) (packed.is l.most stands) ∙ take_held (form_of r) (standing r (line x)) q c

    shows : is_witness (standing r (line x)) ≡ (after.some && not after.first)
    shows = ap is_witness (sym stands.is)

    looked_for_lem : w ≡ (form_of r).bytes → k ≡ look (form_of r).bytes t (min n (slot_count (form_of r).bytes (length t))) (record_bytes (form_of r) (standing r (line x)) q c)
    looked_for_lem e =
        looked ∙ ap (λ z. look z t (min n (slot_count z (length t))) (take z v)) e ∙ ap (look (form_of r).bytes t (min n (slot_count (form_of r).bytes (length t)))) recorded

  -- Record i has the standing.
  known_one : {m : ℕ} (i : ℕ) → k.number ≡ Ok i → Turned a s q c n w m y t (record { progress = Clear n; looking = z }) t
  known_one i e = record {
    within = λ g. g;
    leads = λ {r} {t₀} l f byte lowest x.
        let (inside, has, before, compared) = found r x.state.holds l.most l.numbered (line x) q c x.state.size (looked_for_lem l x f.width) i e in
        subst (λ z. Working r t₀ s q (suc c) n z t) (sym (counted ∙ ap (more y) compared)) (known_turn l.numbered x byte lowest i inside has before);
  }

  pub carry_known : {m : ℕ} → is_ok k.number ≡ true → Turned a s q c n w m y t (record { progress = Clear n; looking = z }) t
  carry_known e = go k.number refl e
    where
      go : {m : ℕ} (x : Result ℕ ℕ) → k.number ≡ x → is_ok x ≡ true → Turned a s q c n w m y t (record { progress = Clear n; looking = z }) t
      go (Ok i) f g = known_one i f
      go (Err i) f g = absurd (true≢false (sym g))

  module _ (h : is_ok k.number ≡ false) where
    none : {r : Re} {t₀ : List ℕ} (l : Lent r a) (x : Working r t₀ s q c n y t) → w ≡ (form_of r).bytes → ((j : ℕ) → j < n → standing r (at x.state.lines j) ≢ standing r (line x)) × (z ≡ more y n)
    none {r} l x e =
        let (i, lost) = missing k.number h in
        let (lacks, compared) = not_found r x.state.holds l.most l.numbered (line x) q c x.state.size (looked_for_lem l x e) i lost in
        (lacks, counted ∙ ap (more y) compared)

    -- None has, and no slot is left.
    pub carry_full : {m : ℕ} → m ≤ n → Turned a s q c n w m y t (record { progress = Full; looking = z }) t
    carry_full g = record {
      within = tt;
      leads = λ {r} {t₀} l f byte lowest x.
          let (lacks, counts) = none l x f.width in
          subst (λ z. SlotsFull r t₀ t × Takes r (slots (form_of r) (length t₀)) z) (sym counts) (full_turn l.numbered x byte lowest lacks (omega (arith, f.number)));
    }

    -- None has, and the next slot gets it.
    module _ {m : ℕ} (g : n < m) {t' : List ℕ} (stored : t' ≡ put w t n v) where
      written : {r : Re} {t₀ : List ℕ} → Lent r a → Slotted r t₀ w m → (x : Working r t₀ s q c n y t) → t' ≡ stores t ((form_of r).bytes * n) (record_bytes (form_of r) (standing r (line x)) q c)
      written {r} {t₀} l f x =
          stored
          ∙ ap (λ z. put z t n v) f.width
          ∙ slot_there (form_of r).bytes t n _ t (omega (arith, same_length r x.state.holds, slots_inside r l.most (length t), ap (slots (form_of r)) (same_length r x.state.holds), f.number))
          ∙ ap (stores t ((form_of r).bytes * n)) (recorded l x)

      pub carry_new : (after.some && not after.first) ≡ false → Turned a s q c n w m y t (record { progress = Clear (n + 1); looking = z }) t'
      carry_new e = record {
        within = λ i. omega arith;
        leads = λ {r} {t₀} l f byte lowest x.
            let more-records : suc n ≡ n + 1 = omega arith in
            let (lacks, counts) = none l x f.width in
            subst (λ z. Working r t₀ s q (suc c) (n + 1) z t') (sym counts)
            (subst (λ k. Working r t₀ s q (suc c) k (more y n) t') more-records
            (new_turn l.numbered x byte lowest lacks (omega (arith, f.number)) (written l f x) (λ i. true≢false (sym (T_true _ i) ∙ shows l x ∙ e))));
      }

      pub carry_witness : (after.some && not after.first) ≡ true → Turned a s q c n w m y t (record { progress = Witness (n + 1); looking = z }) t'
      carry_witness e = record {
        within = tt;
        leads = λ {r} {t₀} l f byte lowest x.
            let more-records : suc n ≡ n + 1 = omega arith in
            let (lacks, counts) = none l x f.width in
            subst (λ z. WitnessFound r t₀ (n + 1) t' × Takes r (slots (form_of r) (length t₀)) z) (sym counts)
            (subst (λ k. WitnessFound r t₀ k t' × Takes r (slots (form_of r) (length t₀)) (more y n)) more-records
            (witness_turn l.numbered x byte lowest lacks (omega (arith, f.number)) (written l f x) (true_T _ (shows l x ∙ e))));
      }
