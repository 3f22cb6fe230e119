-- The parts of the arrays by their last places.
-- Assumes nothing.
use mathlib.Core.Path.{◌≡◌, refl, sym, ap, subst}
use Prim.Native.Nat.{ℕ, zero, suc, ◌+◌, ◌-◌, ◌≤◌, ◌<◌}
use mathlib.Core.Bool.{Bool, false}
use mathlib.Core.List.{List}
use native.Mathlib.Omega.{arith}
use native.Mathlib.Decide.{ℕ_discrete}
use lib.ListN.{get_or}
use borrow.Author.Tests.{lt-ltb, le-ltb}
use Rattle.theory.specs.Pattern.{Manner, eager, lazy, Re, empty, field}
use Rattle.grammar.specs.Code.Codes.{star_kind, lazy_star_kind, first_field, first_leaf, a_star, part_kind}
use Rattle.grammar.proofs.Codes.{kind_field, kind_leaf}
use Rattle.arrays.specs.Decoded.{leaf_of, middle, part, part_of}
use Rattle.follow.specs.Parts.{Chooses}

module _ (kinds sizes masks : List ℕ) (low : ℕ) where
  -- The part by its last place, which has the kind k.
  abbrev pub of_kind : ℕ → ℕ → ℕ → Re
  of_kind k f last =
      part_of masks (part_kind k)
      (part f kinds sizes masks low last)
      (part f kinds sizes masks low (middle sizes low last))
      (part f kinds sizes masks (middle sizes low last) last)

  abbrev pub by_last : ℕ → ℕ → Re
  by_last f last = of_kind (get_or kinds last 0) f last

  pub part_none : (f end : ℕ) → end ≤ low → part f kinds sizes masks low end ≡ empty
  unfolding part
  part_none zero end h = refl
  part_none (suc f) zero h = refl
  part_none (suc f) (suc last) h = rw (lt-ltb last low (omega arith))

  -- Where there is a place, and the first number is enough.
  pub part_at : (f end : ℕ) → low < end → part (suc f) kinds sizes masks low end ≡ by_last f (end - 1)
  unfolding part
  part_at f zero h = absurd (omega arith)
  part_at f (suc last) h = let e : suc last - 1 ≡ last = omega arith in rw (e, le-ltb last low (omega arith))

  pub part_some : (P : Re → Type 0) (end : ℕ) → low < end → ((f : ℕ) → end ≤ low + suc f → P (by_last f (end - 1))) → (f : ℕ) → end ≤ low + f → P (part f kinds sizes masks low end)
  part_some P end h k zero g = absurd (omega arith)
  part_some P end h k (suc f) g = subst P (sym (part_at f end h)) (k f g)

-- The kinds of the fields and of the leaves.
module _ (masks : List ℕ) (k : ℕ) (w x y : Re) where
  pub field_part : first_field ≤ k → k < first_leaf → part_of masks (part_kind k) w x y ≡ field (suc (k - first_field)) w
  field_part l h =
      let e : first_field + (k - first_field) ≡ k = omega arith in
      subst (λ n. part_of masks (part_kind n) w x y ≡ field (suc (k - first_field)) w) e (rw (kind_field (k - first_field) (omega arith)))

  pub leaf_part : first_leaf ≤ k → part_of masks (part_kind k) w x y ≡ leaf_of masks (k - first_leaf)
  leaf_part h =
      let e : first_leaf + (k - first_leaf) ≡ k = omega arith in
      subst (λ n. part_of masks (part_kind n) w x y ≡ leaf_of masks (k - first_leaf)) e (rw (kind_leaf (k - first_leaf)))

-- The kinds of the stars.
pub star_kind_lem : (k : ℕ) → star_kind ≤ k → k < first_field → (how : Manner) × (part_kind k ≡ a_star how)
star_kind_lem k i h = go (ℕ_discrete k star_kind)
  where
    go : Dec (k ≡ star_kind) → (how : Manner) × (part_kind k ≡ a_star how)
    go (yes e) = (eager, ap part_kind e)
    go (no n) = let e : k ≡ lazy_star_kind = omega arith in (lazy, ap part_kind e)

-- The kinds that are left: those of what is neither empty nor a sequence, and does not choose.
pub past_choices : {k : ℕ} {r : Bool} → Chooses k r → r ≡ false → (k ≡ 0 → ⊥) → (k ≡ 1 → ⊥) → first_field ≤ k
past_choices chooses e a b = chooses.does_not e (omega arith)
