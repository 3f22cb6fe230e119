-- The test of a word: the first bytes of a text compared with it.
-- Assumes nothing.
use mathlib.Core.Path.{◌≡◌, refl, sym}
use mathlib.Core.Bool.{Bool, true, false, ◌&&◌, true≢false}
use mathlib.Core.List.{List, [], ◌∷◌}
use Prim.Native.Nat.{ℕ, zero, suc, ◌≤◌, ◌<◌}
use native.Mathlib.Omega.{arith}
use lib.ListN.{length, get_or}
use lib.Dec.{eqb}
use borrow.Author.Tests.{eq-eqb, eqb-true}
use Rattle.queries.specs.Query.{starts, is_word}

-- As in lines, which this crate does not use: the text begins with the word,
abbrev pub Begins : List ℕ → List ℕ → Type 0
Begins s word = (length word ≤ length s) × ((k : ℕ) → k < length word → get_or s k 0 ≡ get_or word k 0)

-- and whether it does.
pub record BeginsWith (s word : List ℕ) (r : Bool) : Type 0 where
  pub yes : r ≡ true → Begins s word
  pub no : r ≡ false → Begins s word → ⊥

begins_true : (s w : List ℕ) → Begins s w → starts s w ≡ true
begins_true s [] b = refl
begins_true [] (x ∷ w) b = absurd (omega (arith, b.0))
begins_true (a ∷ s) (x ∷ w) b = rw (eq-eqb a x (b.1 0 (omega arith))) (begins_true s w (omega (arith, b.0), λ k h. b.1 (suc k) (omega arith)))

both_true : (a b : Bool) → (a && b) ≡ true → (a ≡ true) × (b ≡ true)
both_true true b e = (refl, e)
both_true false b e = absurd (true≢false (sym e))

true_begins : (s w : List ℕ) → starts s w ≡ true → Begins s w
true_begins s [] e = (omega arith, λ k h. absurd (omega arith))
true_begins [] (x ∷ w) e = absurd (true≢false (sym e))
true_begins (a ∷ s) (x ∷ w) e = longer (both_true (eqb a x) (starts s w) e).0 (true_begins s w (both_true (eqb a x) (starts s w) e).1)
  where
    longer : eqb a x ≡ true → Begins s w → Begins (a ∷ s) (x ∷ w)
    longer p b = (omega (arith, b.0), each)
      where
        each : (k : ℕ) → k < suc (length w) → get_or (a ∷ s) k 0 ≡ get_or (x ∷ w) k 0
        each zero h = eqb-true a x p
        each (suc k) h = b.1 k (omega arith)

-- What the comparison of the first bytes says.
pub starts_is : {s w : List ℕ} (r : Bool) → BeginsWith s w r → r ≡ starts s w
starts_is {s} {w} true b = sym (begins_true s w (b.yes refl))
starts_is {s} {w} false b = go (starts s w) refl
  where
    go : (t : Bool) → starts s w ≡ t → false ≡ t
    go true p = absurd (b.no refl (true_begins s w p))
    go false p = refl

-- A text as long as the word is the word, if it begins with it.
pub is_word_lem : {s w : List ℕ} (r : Bool) → length s ≡ length w → BeginsWith s w r → r ≡ is_word s w
is_word_lem {s} {w} r e b = rw (eq-eqb (length s) (length w) e) (starts_is r b)
