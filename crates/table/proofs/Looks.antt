-- The look, record by record, and what it says of the records: the first of the standing, or that there is none.
-- Assumes nothing.
use mathlib.Core.Path.{◌≡◌, refl, sym, ap, ◌∙◌, subst}
use mathlib.Core.Logic.{◌⊎◌, inl, inr}
use Prim.Native.Nat.{ℕ, zero, suc, ◌+◌, ◌≤◌, ◌<◌}
use mathlib.Core.Bool.{Bool, true, false}
use mathlib.Core.List.{List}
use native.Mathlib.Omega.{arith}
use native.Mathlib.Decide.{ℕ_discrete}
use Rattle.std.proofs.Common.{Ok, Err}
use Rattle.theory.proofs.Tests.{either}
use Rattle.table.specs.Slots.{slot_at}
use Rattle.table.specs.Looks.{same_standing, look_from, look}
use Rattle.table.specs.declared.Look.{Look}

-- Where the look ends.
abbrev pub found_at : ℕ → Look
found_at k = record { number = Ok k; compared = k + 1 }

abbrev pub missing : ℕ → Look
missing k = record { number = Err k; compared = k }

-- Of n records from record k on, the first that has the standing of v is the one found: record i.
pub record First (w : ℕ) (t v : List ℕ) (k n : ℕ) (x : Look) (i : ℕ) : Type 0 where
  pub found : x.number ≡ Ok i
  pub from : k ≤ i
  pub inside : i < k + n
  pub same : same_standing w (slot_at w t i) v ≡ true
  pub before : (j : ℕ) → k ≤ j → j < i → same_standing w (slot_at w t j) v ≡ false
  pub compared : x.compared ≡ i + 1

-- None of them has it.
pub record None (w : ℕ) (t v : List ℕ) (k n : ℕ) (x : Look) : Type 0 where
  pub missing : x.number ≡ Err (k + n)
  pub none : (j : ℕ) → k ≤ j → j < k + n → same_standing w (slot_at w t j) v ≡ false
  pub compared : x.compared ≡ k + n

module _ (w : ℕ) (t v : List ℕ) where
  -- At a record of the standing the look ends, another is passed, and after the last it is over.
  pub look_here : (n k : ℕ) → same_standing w (slot_at w t k) v ≡ true → look_from w t v (suc n) k ≡ found_at k
  unfolding look_from
  look_here n k e = let more : suc k ≡ k + 1 = omega arith in rw (e, more)

  pub look_next : (n k : ℕ) → same_standing w (slot_at w t k) v ≡ false → look_from w t v (suc n) k ≡ look_from w t v n (suc k)
  unfolding look_from
  look_next n k e = rw e

  pub look_over : (k : ℕ) → look_from w t v 0 k ≡ missing k
  unfolding look_from
  look_over k = refl

  -- One record more before those that are looked through.
  first_later : {n k i : ℕ} {x : Look} → same_standing w (slot_at w t k) v ≡ false → First w t v (suc k) n x i → First w t v k (suc n) x i
  first_later {n} {k} {i} {x} e h = record {
    found = h.found;
    from = omega (arith, h.from);
    inside = omega (arith, h.inside);
    same = h.same;
    before = λ j m l. elim (ℕ_discrete k j) [ yes f ↦ subst (λ z. same_standing w (slot_at w t z) v ≡ false) f e | no f ↦ h.before j (omega arith) l ];
    compared = h.compared;
  }

  none_later : {n k : ℕ} {x : Look} → same_standing w (slot_at w t k) v ≡ false → None w t v (suc k) n x → None w t v k (suc n) x
  none_later {n} {k} {x} e h = record {
    missing = h.missing ∙ (let z : suc k + n ≡ k + suc n = omega arith in ap Err z);
    none = λ j i l. elim (ℕ_discrete k j) [ yes f ↦ subst (λ z. same_standing w (slot_at w t z) v ≡ false) f e | no f ↦ h.none j (omega arith) (omega arith) ];
    compared = omega (arith, h.compared);
  }

  first_here : (n k : ℕ) → same_standing w (slot_at w t k) v ≡ true → First w t v k (suc n) (found_at k) k
  first_here n k e = record { found = refl; from = omega arith; inside = omega arith; same = e; before = λ j i l. absurd (omega arith); compared = refl }

  -- One of the records is the first of the standing, or none has it.
  abbrev Ends : ℕ → ℕ → Look → Type 0
  Ends n k x = ((i : ℕ) × First w t v k n x i) ⊎ None w t v k n x

  look_cases : (n k : ℕ) → Ends n k (look_from w t v n k)
  look_cases zero k =
      inr (subst (None w t v k 0) (sym (look_over k)) (record { missing = (let z : k ≡ k + 0 = omega arith in ap Err z); none = λ j i l. absurd (omega arith); compared = omega arith }))
  look_cases (suc n) k = go (look_cases n (suc k)) (same_standing w (slot_at w t k) v) refl
    where
      go : Ends n (suc k) (look_from w t v n (suc k)) → (b : Bool) → same_standing w (slot_at w t k) v ≡ b → Ends (suc n) k (look_from w t v (suc n) k)
      go later true e = inl (k, subst (λ x. First w t v k (suc n) x k) (sym (look_here n k e)) (first_here n k e))
      go later false e = subst (Ends (suc n) k) (sym (look_next n k e)) (either (λ (i, h). inl (i, first_later e h)) (λ h. inr (none_later e h)) later)

  -- FOUND: the first record of the standing, and one more than its number were compared.
  pub look_first : (n i : ℕ) → (look w t n v).number ≡ Ok i → First w t v 0 n (look w t n v) i
  look_first n i e = either (λ (j, h). (let same : Ok j ≡ Ok i = sym h.found ∙ e in subst (First w t v 0 n (look w t n v)) (cc) h)) (λ h. absurd (cc)) (look_cases n 0)

  -- NOT FOUND: none of the records has the standing, and all of them were compared.
  pub look_none : (n i : ℕ) → (look w t n v).number ≡ Err i → None w t v 0 n (look w t n v)
  look_none n i e = either (λ (j, h). absurd (let z = h.found in cc)) (λ h. h) (look_cases n 0)
