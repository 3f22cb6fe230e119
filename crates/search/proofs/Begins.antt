-- The search's beginning: without a slot it ends at once, else the empty line's record is in slot 0.
-- Assumes nothing.
use mathlib.Core.Path.{◌≡◌, sym, ap, ap₂, ◌∙◌, subst}
use Prim.Native.Nat.{ℕ, ◌*◌, ◌≤◌, ◌<◌, min}
use mathlib.Core.Bool.{Bool}
use mathlib.Core.List.{List, []}
use native.Mathlib.Omega.{arith}
use native.Mathlib.Nat.{mul-zero}
use lib.ListN.{length, take}
use lib.Seq.{sets as stores}
use Rattle.theory.specs.Pattern.{Re}
use Rattle.theory.specs.Standing.{standing}
use Rattle.verdict.specs.Record.{form_of, record_bytes}
use Rattle.verdict.specs.Table.{slots}
use Rattle.verdict.proofs.Forms.{take_held}
use Rattle.standing.specs.declared.Standing.{Standing}
use Rattle.standing.specs.Stands.{Arrays, Lent, First}
use Rattle.groups.specs.declared.Groups.{Groups}
use Rattle.groups.specs.Numbers.{groups_by}
use Rattle.groups.specs.Turns.{same}
use Rattle.groups.proofs.Numbers.{few_groups}
use Rattle.records.specs.Packing.{Packed}
use Rattle.table.specs.Slots.{slot_count, put}
use Rattle.table.proofs.Laws.{slot_there}
use Rattle.search.specs.declared.Progress.{Progress}
use Rattle.search.specs.declared.Progress.TheVariants.{Clear, Witness, Full}
use Rattle.search.specs.declared.Course.{Course}
use Rattle.search.specs.Looking.{no_looking, Takes}
use Rattle.search.specs.Ends.{AllFound, Reached, Searched}
use Rattle.search.specs.Turns.{Grouping, CameTo, Slotted, Run}
use Rattle.search.proofs.Looks.{slots_are_due, slots_inside}
use Rattle.search.proofs.Turns.{first_record, no_slot}

-- There are no more groups than bytes.
pub count_most : (share : ℕ → ℕ → Bool) {g : Groups} → g ≡ groups_by share → g.count ≤ 256
count_most share e = omega (arith, ap (λ x. x.count) e, few_groups share)

-- Where the search ends, and what it takes.
searched : {a : Arrays} {w : ℕ} {t₀ t : List ℕ} {x : Course} → ((r : Re) → Lent r a → w ≡ (form_of r).bytes → CameTo r t₀ t x.looking (λ n. AllFound r t₀ n t × Takes r (slots (form_of r) (length t₀)) x.looking) x.progress) → Searched a w t₀ x t
searched {t₀ = t₀} {t} {x} f = record { ends = λ {r} l e. ends r x.progress (f r l e); looking = λ {r} l e. taken r x.progress (f r l e) }
  where
    ends : (r : Re) (p : Progress) → CameTo r t₀ t x.looking (λ n. AllFound r t₀ n t × Takes r (slots (form_of r) (length t₀)) x.looking) p → Reached r t₀ t (λ n. AllFound r t₀ n t) p
    ends r (Clear n) (h, g) = h
    ends r (Witness n) (h, g) = h
    ends r Full (h, g) = h

    taken : (r : Re) (p : Progress) → CameTo r t₀ t x.looking (λ n. AllFound r t₀ n t × Takes r (slots (form_of r) (length t₀)) x.looking) p → Takes r (slots (form_of r) (length t₀)) x.looking
    taken r (Clear n) (h, g) = g
    taken r (Witness n) (h, g) = g
    taken r Full (h, g) = g

-- The slots are those of the table that is lent.
pub slots_seen : {w w' m : ℕ} {t t' : List ℕ} → w' ≡ w → t' ≡ t → m ≡ min (slot_count w' (length t')) 65535 → m ≡ min (slot_count w (length t)) 65535
slots_seen e f g = g ∙ ap₂ (λ w t. min (slot_count w (length t)) 65535) e f

module _ {a : Arrays} {w : ℕ} {t₀ : List ℕ} {m : ℕ} (e : m ≡ min (slot_count w (length t₀)) 65535) where
  slotted : {r : Re} → Lent r a → w ≡ (form_of r).bytes → Slotted r t₀ w m
  slotted {r} l f = record { width = f; number = e ∙ ap (λ z. min (slot_count z (length t₀)) 65535) f ∙ slots_are_due r l.most (length t₀) }

  pub search_nowhere : m ≡ 0 → Searched a w t₀ (record { progress = Full; looking = no_looking }) t₀
  search_nowhere z = searched λ r l f. no_slot r l.numbered (sym (slotted l f).number ∙ z)

  pub search_run : {g : Groups} {low : List ℕ} {s : Standing} {v t₁ : List ℕ} {x : Course} {t : List ℕ} → 0 < m → g ≡ groups_by (same a.masks) → low ≡ take g.count g.lowest → First a s → Packed s 0 0 v → t₁ ≡ put w t₀ 0 v
      → Run (Grouping a.masks low) a w m t₁ x t → Searched a w t₀ x t
  search_run {g} {low} {s} {v} {x = x} {t} h grouped slice first packed stored run = searched λ r l f.
      let number = (slotted l f).number in
      let is : take (form_of r).bytes v ≡ record_bytes (form_of r) (standing r []) 0 0 = ap (take (form_of r).bytes) (packed.is l.most (first.stands l)) ∙ take_held (form_of r) (standing r []) 0 0 in
      let room : 0 < slots (form_of r) (length t₀) = omega arith in
      let there : put (form_of r).bytes t₀ 0 v ≡ stores t₀ ((form_of r).bytes * 0) (take (form_of r).bytes v) = slot_there (form_of r).bytes t₀ 0 _ t₀ (omega (arith, slots_inside r l.most (length t₀))) in
      subst (λ k. CameTo r t₀ t x.looking (λ n. AllFound r t₀ n t × Takes r k x.looking) x.progress) number
      (run.leads (slice ∙ ap (λ x. take x.count x.lowest) grouped) l (slotted l f)
      (first_record r room (stored ∙ ap (λ z. put z t₀ 0 v) f ∙ there ∙ ap₂ (stores t₀) (mul-zero (form_of r).bytes) is)))
