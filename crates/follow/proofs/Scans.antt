-- A scan of the kinds for one of them.
-- Assumes nothing.
use mathlib.Core.Path.{◌≡◌, refl, sym, ap, ◌∙◌}
use Prim.Native.Nat.{ℕ, ◌-◌, ◌<◌}
use mathlib.Core.Bool.{Bool, true, false, not, true≢false}
use mathlib.Core.List.{List}
use native.Mathlib.Omega.{arith}
use native.Mathlib.Decide.{dec_lt}
use lib.ListN.{length, get_or, length-drop, get_or-eq_default}
use lib.Dec.{eqb}
use borrow.Author.Tests.{eq-eqb}
use Rattle.std.specs.List.{between}
use Rattle.std.proofs.lemmas.List.{length-take}
use Rattle.std.proofs.lemmas.List.Edits.{get_or-between}
use Rattle.std.proofs.lemmas.List.Folds.{list_any_at}
use Rattle.follow.specs.Parts.{Stands, lacks}

not_true : (b : Bool) → not b ≡ true → b ≡ false
not_true true e = absurd (true≢false (sym e))
not_true false e = refl

inside : (kinds : List ℕ) (i : ℕ) → 0 < get_or kinds i 0 → i < length kinds
inside kinds i h = go (dec_lt i (length kinds))
  where
    go : Dec (i < length kinds) → i < length kinds
    go (yes y) = y
    go (no n) = let z : get_or kinds i 0 ≡ 0 = get_or-eq_default kinds 0 (omega arith) in absurd (omega arith)

module _ (kinds : List ℕ) (low end kind : ℕ) where
  pub none_stands : 0 < kind → lacks kinds low end kind ≡ true → Stands kinds low end kind → ⊥
  none_stands k e s =
      let (i, l, h, is) = s in
      let there : i < length kinds = inside kinds i (omega arith) in
      let same : get_or (between low end kinds) (i - low) 0 ≡ get_or kinds i 0 = get_or-between kinds low end (i - low) 0 (omega arith) ∙ ap (λ j. get_or kinds j 0) (omega arith) in
      let many : i - low < length (between low end kinds) = simp (length-take, length-drop) (omega arith) in
      true≢false (sym (list_any_at (λ y. eqb y kind) (between low end kinds) (i - low) 0 many (eq-eqb _ _ (same ∙ is))) ∙ not_true _ e)

  -- Places that have the kind are some.
  pub some_place : lacks kinds low end kind ≡ false → low < end
  some_place e = go (dec_lt low end)
    where
      go : Dec (low < end) → low < end
      go (yes y) = y
      go (no n) = let z : end - low ≡ 0 = omega arith in absurd (true≢false (rw z at e))
