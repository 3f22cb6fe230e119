-- For every pattern, table, witness buffer and area one result and content is right: the test passes or fails, and where it fails the records decide.
-- Assumes nothing.
use mathlib.Core.Path.{◌≡◌, refl, sym, subst}
use mathlib.Core.Logic.{◌⊎◌, inl, inr, ◌↔◌}
use Prim.Native.Nat.{ℕ}
use mathlib.Core.List.{List}
use native.Mathlib.Omega.{arith}
use native.Mathlib.Decide.{dec_lt}
use lib.ListN.{length}
use Rattle.theory.specs.Pattern.{Re, count}
use Rattle.theory.specs.Standing.{Standing}
use Rattle.theory.proofs.Tests.{either}
use Rattle.extends.specs.Extends.{NoneExtends}
use Rattle.extends.proofs.Test.{none_or_some}
use Rattle.grammar.specs.Grammar.{Alternation}
use Rattle.grammar.specs.Loaded.{Accepts}
use Rattle.grammar.specs.WriteOut.{write_out}
use Rattle.grammar.proofs.Loaded.{accepts_or_refuses, one_tree, accepts_not_refuses}
use Rattle.grammar.proofs.Size.{write_out_numbered}
use Rattle.verdict.specs.Record.{Form}
use Rattle.verdict.specs.Tabled.{Whole, TabledBy, by_reader}
use Rattle.verdict.specs.Area.{area_bytes}
use Rattle.verdict.specs.Checked.{CheckedBy, Checked, by_fault, by_area, by_test, by_table}
use Rattle.verdict.proofs.Tabled.{tabled_some, tabled_one}

-- THE TEST PASSES OR FAILS.
pub passes_or_fails : (loaded : List ℕ) (a : Alternation) → NoneExtends (write_out loaded a) ⊎ (NoneExtends (write_out loaded a) → ⊥)
passes_or_fails loaded a = either inl (λ (u, b, v, x). inr λ none. none u b v x) (none_or_some (write_out loaded a) (count (write_out loaded a)) (write_out_numbered loaded a) (omega arith))

-- Something is owed for every input,
pub checked_some : (loaded p t v s : List ℕ) → (z : Whole) × (s' : List ℕ) × Checked loaded p t v s z s'
checked_some loaded p t v s = either accepted (λ (n, q, f). (_, _, by_fault f)) (accepts_or_refuses loaded p)
  where
    accepted : ((a : Alternation) × Accepts loaded p a) → (z : Whole) × (s' : List ℕ) × Checked loaded p t v s z s'
    accepted (a, i) =
        elim (dec_lt (length s) area_bytes) [
          | yes l ↦ (_, _, by_area i l)
          | no l ↦ either (λ none. (_, _, by_test i (omega arith) none)) (λ fails. let (z, c) = tabled_some loaded p t v in (z, _, by_table i (omega arith) fails c)) (passes_or_fails loaded a)
        ]

-- and one thing.
pub checked_one : {loaded p t v s : List ℕ} {z y : Whole} {s' s'' : List ℕ} → Checked loaded p t v s z s' → Checked loaded p t v s y s'' → (z ≡ y) × (s' ≡ s'')
checked_one (by_fault f) (by_fault g) = (tabled_one (by_reader f) (by_reader g), refl)
checked_one {loaded} {p} (by_fault {n = n} {q = q} f) (by_area {a = a} i l) = absurd (accepts_not_refuses loaded p a n q i f)
checked_one {loaded} {p} (by_fault {n = n} {q = q} f) (by_test {a = a} i l h) = absurd (accepts_not_refuses loaded p a n q i f)
checked_one {loaded} {p} (by_fault {n = n} {q = q} f) (by_table {a = a} i l h c) = absurd (accepts_not_refuses loaded p a n q i f)
checked_one {loaded} {p} (by_area {a = a} i l) (by_fault {n = n} {q = q} f) = absurd (accepts_not_refuses loaded p a n q i f)
checked_one (by_area i l) (by_area j m) = (refl, refl)
checked_one (by_area i l) (by_test j m h) = absurd (omega arith)
checked_one (by_area i l) (by_table j m h c) = absurd (omega arith)
checked_one {loaded} {p} (by_test {a = a} i l h) (by_fault {n = n} {q = q} f) = absurd (accepts_not_refuses loaded p a n q i f)
checked_one (by_test i l h) (by_area j m) = absurd (omega arith)
checked_one (by_test i l h) (by_test j m k) = (refl, refl)
checked_one {loaded} {p} (by_test {a = a} i l h) (by_table {a = b} j m k c) = absurd (k (subst (λ x. NoneExtends (write_out loaded x)) (one_tree loaded p a b i j) h))
checked_one {loaded} {p} (by_table {a = a} i l h c) (by_fault {n = n} {q = q} f) = absurd (accepts_not_refuses loaded p a n q i f)
checked_one (by_table i l h c) (by_area j m) = absurd (omega arith)
checked_one {loaded} {p} (by_table {a = a} i l h c) (by_test {a = b} j m k) = absurd (h (subst (λ x. NoneExtends (write_out loaded x)) (one_tree loaded p b a j i) k))
checked_one (by_table i l h c) (by_table j m k d) = (tabled_one c d, refl)

-- Of a right answer: an answer is right exactly if it is that one.
pub checked_is : {loaded p t v s : List ℕ} {z : Whole} {s' : List ℕ} → Checked loaded p t v s z s' → (y : Whole) (s'' : List ℕ) → Checked loaded p t v s y s'' ↔ ((y ≡ z) × (s'' ≡ s'))
checked_is {loaded} {p} {t} {v} {s} {z} c y s'' = (λ d. checked_one d c, λ (e, f). subst (λ w. Checked loaded p t v s w s'') (sym e) (subst (Checked loaded p t v s z) (sym f) c))

-- Where the records give the same, so does the check.
pub checked_by : {loaded p t v s : List ℕ} {form form' : Re → Form} {stand stand' : Re → List ℕ → Standing} → ((y : Whole) → TabledBy form stand loaded p t v y → TabledBy form' stand' loaded p t v y)
    → {z : Whole} {s' : List ℕ} → CheckedBy form stand loaded p t v s z s' → CheckedBy form' stand' loaded p t v s z s'
checked_by same (by_fault f) = by_fault f
checked_by same (by_area i l) = by_area i l
checked_by same (by_test i l h) = by_test i l h
checked_by same (by_table {z = z} i l h c) = by_table i l h (same z c)
