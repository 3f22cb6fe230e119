-- Whether a leaf holds a byte, by the leaf's first byte.
-- Assumes nothing.
use mathlib.Core.Path.{◌≡◌, refl}
use Prim.Native.Nat.{ℕ, ◌+◌}
use mathlib.Core.Bool.{true, false, not}
use mathlib.Core.List.{List}
use native.Mathlib.Omega.{arith}
use lib.ListN.{drop}
use lib.Dec.{eqb}
use Rattle.grammar.specs.Grammar.{Kind, ordinary, backslash, bar, opener, closer, bracket, brace, period, stray, sign, kind, special}
use Rattle.grammar.specs.Code.Reader.{read_class}
use Rattle.grammar.specs.Code.Codes.{first_holds, found_holds, leaf_by, leaf_holds}
use Rattle.grammar.proofs.Texts.{KindOk, kind_ok, ordinary_kind}
use Rattle.scanner.proofs.Places.{Here}

module _ (loaded : List ℕ) {p : List ℕ} {at : ℕ} (b : ℕ) where
  pub leaf_escaped : Here p at 92 → leaf_holds loaded (drop at p) b ≡ first_holds (drop (at + 1) p) b
  unfolding leaf_holds kind
  leaf_escaped h = rw h.rest refl

  pub leaf_class : Here p at 91 → leaf_holds loaded (drop at p) b ≡ found_holds loaded (read_class (drop (at + 1) p)) b
  unfolding leaf_holds kind
  leaf_class h = rw h.rest refl

  pub leaf_dot : Here p at 46 → leaf_holds loaded (drop at p) b ≡ not (eqb b 10)
  unfolding leaf_holds kind
  leaf_dot h = rw h.rest refl

module _ (loaded : List ℕ) {p : List ℕ} {at c : ℕ} (b : ℕ) (h : Here p at c) where
  pub leaf_special : (c ≡ 92 → ⊥) → (c ≡ 91 → ⊥) → (c ≡ 46 → ⊥) → special (kind c) ≡ true → leaf_holds loaded (drop at p) b ≡ false
  unfolding leaf_holds
  leaf_special n m d e = rw h.rest (go (kind c) (kind_ok c) e)
    where
      go : (k : Kind) → KindOk c k → special k ≡ true → leaf_by loaded k c (drop (at + 1) p) b ≡ false
      go ordinary o e = let z : ◌≡◌ {A = ℕ} 0 1 = cc in absurd (omega arith)
      go backslash o e = absurd (n o)
      go bar o e = refl
      go opener o e = refl
      go closer o e = refl
      go bracket o e = absurd (m o)
      go brace o e = refl
      go period o e = absurd (d o)
      go stray o e = refl
      go (sign r) o e = refl

  pub leaf_ordinary : special (kind c) ≡ false → leaf_holds loaded (drop at p) b ≡ eqb b c
  unfolding leaf_holds
  leaf_ordinary e = rw (h.rest, ordinary_kind (kind c) e) refl
