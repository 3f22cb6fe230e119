-- Laws of tests and lists of numbers that the theory does not have.
-- Assumes nothing.
use mathlib.Core.Logic.{◌↔◌}
use Prim.Native.Nat.{ℕ, ◌<◌}
use mathlib.Core.Bool.{Bool, true, false}
use mathlib.Core.List.{List, ◌∷◌}
use native.Mathlib.Omega.{arith}
use lib.Dec.{T}
use Rattle.theory.specs.Standing.{member, from, filter}
use Rattle.theory.specs.Code.Members.{Once, cons}
use Rattle.theory.proofs.Members.{member_from, from_range, filter_of, filter_in, filter_passes}

-- A test that does not fail passes.
pub T_stable : (a : Bool) → ((T a → ⊥) → ⊥) → T a
T_stable true h = tt
T_stable false h = h λ t. t

-- The numbers below n that pass a test, in a list.
pub passing : (f : ℕ → Bool) (n x : ℕ) → ((x < n) × T (f x)) ↔ T (member x (filter f (from 0 n)))
passing f n x = (
  λ c. filter_of f (from 0 n) x c.1 (member_from x 0 n (omega arith) (omega arith)),
  λ t. (let c = from_range x 0 n (filter_in f (from 0 n) x t) in omega arith, filter_passes f (from 0 n) x t),
)

-- A list that has each number once.
pub once_tail : {y : ℕ} {l : List ℕ} → Once (y ∷ l) → (T (member y l) → ⊥) × Once l
once_tail (cons a o) = (a, o)
