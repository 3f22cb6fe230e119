-- What a class or a count that was scanned says of the text.
-- Assumes nothing.
use mathlib.Core.Path.{◌≡◌, subst}
use Prim.Native.Nat.{ℕ, ◌≤◌}
use mathlib.Core.Bool.{Bool, true, false, ◌&&◌}
use mathlib.Core.List.{List, ◌∷◌}
use native.Mathlib.Omega.{arith}
use lib.ListN.{drop}
use lib.Dec.{leb, leb→le}
use Rattle.grammar.specs.Grammar.{Digits, digits_value, Repeat, exactly, at_least, between, Atom, WfRepeat}
use Rattle.grammar.specs.Code.Reader.{found, missing, read_class, read_count}
use Rattle.grammar.proofs.Pieces.{Sound, CountIs, count_sound}
use Rattle.theory.proofs.Tests.{true_T}
use Rattle.std.specs.Prelude.{Option, Some, None}
use Rattle.scanner.specs.declared.Count.{Count}
use Rattle.scanner.specs.declared.Read.{Read}
use Rattle.scanner.specs.Scanned.{Onward, ClassFound, CountFound}

module _ (p : List ℕ) (at : ℕ) where
  -- A class that ends at e, and no count.
  pub class_ends : {e : ℕ} (r : Option ℕ) → r ≡ Some e → ClassFound p at r → (a : Atom) × (read_class (drop at p) ≡ found a (drop e p)) × Onward p at e
  class_ends r e h = rw e at h

  pub count_none : (r : Option (Read Count)) → r ≡ None → CountFound p at r → read_count (drop at p) ≡ missing
  count_none r e h = rw e at h

  -- Counts are at most 63.
  count_formed : {s : List ℕ} (x : Repeat) → read_count (drop at p) ≡ found x s → WfRepeat x
  count_formed {s} x f = (subst (Sound (CountIs (123 ∷ drop at p))) f (count_sound (drop at p))).0

  at_most : (n : ℕ) → leb n 63 ≡ true → n ≤ 63
  at_most n e = leb→le n 63 (true_T (leb n 63) e)

  both_true : (a b : Bool) → a && b ≡ true → b ≡ true
  both_true true b e = e
  both_true false b e = let z : ◌≡◌ {A = ℕ} 0 1 = cc in absurd (omega arith)

  pub exactly_63 : {m e : ℕ} → (d : Digits) × (read_count (drop at p) ≡ found (exactly d) (drop e p)) × (digits_value d ≡ m) × Onward p at e → m ≤ 63
  exactly_63 (d, f, g, o) = omega (arith, at_most (digits_value d) (count_formed (exactly d) f).1)

  pub at_least_63 : {m e : ℕ} → (d : Digits) × (read_count (drop at p) ≡ found (at_least d) (drop e p)) × (digits_value d ≡ m) × Onward p at e → m ≤ 63
  at_least_63 (d, f, g, o) = omega (arith, at_most (digits_value d) (count_formed (at_least d) f).1)

  pub between_63 : {m n e : ℕ} → (d f : Digits) × (read_count (drop at p) ≡ found (between d f) (drop e p)) × (digits_value d ≡ m) × (digits_value f ≡ n) × Onward p at e → n ≤ 63
  between_63 (d, d', f, g, g', o) =
      omega (arith, at_most (digits_value d') (both_true (leb (digits_value d) (digits_value d')) (leb (digits_value d') 63) (count_formed (between d d') f).2))
