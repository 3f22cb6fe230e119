-- The laws by which a search keeps its invariant: one for each thing that it does, whatever holds its two sets.
-- Assumes nothing.
use mathlib.Core.Path.{◌≡◌, refl, ap}
use mathlib.Core.Logic.{◌⊎◌, inl, inr, ◌↔◌}
use Prim.Native.Nat.{ℕ, suc, ◌≤◌, ◌<◌}
use mathlib.Core.Bool.{Bool}
use mathlib.Core.List.{[], ◌∷◌}
use native.Mathlib.Omega.{arith}
use lib.ListN.{length}
use lib.Dec.{T, eqb, eqb→eq}
use Rattle.theory.specs.Standing.{member, from}
use Rattle.theory.specs.Code.Members.{nil, cons}
use Rattle.theory.proofs.Tests.{or_cases, either}
use Rattle.theory.proofs.Members.{member_from, length_from, once_size}
use Rattle.extends.specs.Code.Closing.{Reach, begin, onward, Closing, Taken}

-- The set S' is S and Y.
pub record Adds (S : ℕ → Bool) (Y : ℕ → Type 0) (S' : ℕ → Bool) : Type 0 where
  pub old : (x : ℕ) → T (S x) → T (S' x)
  pub new : (x : ℕ) → Y x → T (S' x)
  pub cases : (x : ℕ) → T (S' x) → T (S x) ⊎ Y x

-- The set S' is S without Y.
pub record Drops (S : ℕ → Bool) (Y : ℕ → Type 0) (S' : ℕ → Bool) : Type 0 where
  pub old : (x : ℕ) → T (S' x) → T (S x)
  pub gone : (x : ℕ) → Y x → T (S' x) → ⊥
  pub cases : (x : ℕ) → T (S x) → Y x ⊎ T (S' x)

-- What one step from Y leads to.
abbrev pub Led : (ℕ → ℕ → Type 0) → (ℕ → Type 0) → ℕ → Type 0
Led Step Y z = (y : ℕ) × Y y × Step y z

module _ {Begin : ℕ → Type 0} {Step : ℕ → ℕ → Type 0} where
  -- At first nothing is marked, and the first numbers are owed.
  pub closing_begin : {M P : ℕ → Bool} → ((x : ℕ) → T (M x) → ⊥) → ((x : ℕ) → T (P x) → ⊥) → Closing Begin Step M P Begin
  closing_begin a b =
      record {
        pending = λ x t. absurd (b x t);
        sound = λ x t. absurd (a x t);
        owed = λ x o. begin o;
        first = λ x o. inr o;
        closed = λ x y t s. absurd (a x t);
      }

  module _ {M P : ℕ → Bool} {O : ℕ → Type 0} (c : Closing Begin Step M P O) where
    -- Numbers that are owed are marked, and pending.
    pub closing_mark : {Y : ℕ → Type 0} {M' P' : ℕ → Bool} → ((x : ℕ) → Y x → O x) → Adds M Y M' → Adds P Y P' → Closing Begin Step M' P' O
    closing_mark o a b =
        record {
          pending = λ x t. either (λ s. a.old x (c.pending x s)) (a.new x) (b.cases x t);
          sound = λ x t. either (c.sound x) (λ y. c.owed x (o x y)) (a.cases x t);
          owed = c.owed;
          first = λ x f. either (λ t. inl (a.old x t)) inr (c.first x f);
          closed = λ x z t s.
              either
              (λ u. either (λ p. inl (b.old x p)) (λ q. inr (either (λ v. inl (a.old z v)) inr q)) (c.closed x z u s))
              (λ y. inl (b.new x y))
              (a.cases x t);
        }

    -- What is marked is owed no more.
    pub closing_owe : {O' : ℕ → Type 0} → ((x : ℕ) → O x → T (M x) ⊎ O' x) → ((x : ℕ) → O' x → O x) → Closing Begin Step M P O'
    closing_owe f g =
        record {
          pending = c.pending;
          sound = c.sound;
          owed = λ x o. c.owed x (g x o);
          first = λ x b. either inl (f x) (c.first x b);
          closed = λ x y t s. either inl (λ q. inr (either inl (f y) q)) (c.closed x y t s);
        }

    module _ (none : (x : ℕ) → O x → ⊥) where
      -- Pending numbers are taken: what they lead to is owed.
      pub closing_take : {Y : ℕ → Type 0} {P' : ℕ → Bool} → ((x : ℕ) → Y x → T (P x)) → Drops P Y P' → Closing Begin Step M P' (Led Step Y)
      closing_take p a =
          record {
            pending = λ x t. c.pending x (a.old x t);
            sound = c.sound;
            owed = λ x (y, i, s). onward (c.sound y (c.pending y (p y i))) s;
            first = λ x i. either inl (λ o. absurd (none x o)) (c.first x i);
            closed = λ x z t s.
                either
                (λ q. either (λ i. inr (inr (x, i, s))) inl (a.cases x q))
                (λ q. either (λ m. inr (inl m)) (λ o. absurd (none z o)) q)
                (c.closed x z t s);
          }

      -- Every reached number is marked, or can be reached from a pending one.
      pub closing_covers : {y : ℕ} → Reach Begin Step y → T (M y) ⊎ ((x : ℕ) × T (P x) × Reach (λ z. z ≡ x) Step y)
      closing_covers {y} (begin b) = either inl (λ o. absurd (none y o)) (c.first y b)
      closing_covers {y} (onward {x = x} h s) =
          either
          (λ m. either (λ p. inr (x, p, onward (begin refl) s)) (λ q. either inl (λ o. absurd (none y o)) q) (c.closed x y m s))
          (λ (z, p, g). inr (z, p, onward g s))
          (closing_covers h)

      -- Where nothing is pending, the marked numbers are the reached.
      pub closing_done : ((x : ℕ) → T (P x) → ⊥) → (x : ℕ) → T (M x) ↔ Reach Begin Step x
      closing_done e x = (c.sound x, λ h. either (λ m. m) (λ (z, p, g). absurd (e z p)) (closing_covers h))

-- How many were taken.
pub taken_none : {M P : ℕ → Bool} → Taken M P 0
taken_none = record { list = []; size = refl; once = nil; are = λ x t. absurd t }

module _ {M P : ℕ → Bool} {d : ℕ} (k : Taken M P d) where
  pub taken_mark : {Y : ℕ → Type 0} {M' P' : ℕ → Bool} → ((x : ℕ) → Y x → T (M x) → ⊥) → Adds M Y M' → Adds P Y P' → Taken M' P' d
  taken_mark n a b =
      record {
        list = k.list;
        size = k.size;
        once = k.once;
        are = λ x t. let (m, p) = k.are x t in (a.old x m, λ q. either p (λ y. n x y m) (b.cases x q));
      }

  pub taken_take : {Y : ℕ → Type 0} {P' : ℕ → Bool} (y : ℕ) → Y y → T (M y) → T (P y) → Drops P Y P' → Taken M P' (suc d)
  taken_take y i m p a =
      record {
        list = y ∷ k.list;
        size = ap suc k.size;
        once = cons (λ t. (k.are y t).1 p) k.once;
        are = λ x t.
            either
            (λ e. rw (eqb→eq x y e) (m, a.gone y i))
            (λ j. let (u, q) = k.are x j in (u, λ v. q (a.old x v)))
            (or_cases (eqb x y) (member x k.list) t);
      }

  -- Of numbers below N at most N can be taken: N less d is a measure.
  pub taken_most : (N : ℕ) → ((x : ℕ) → T (M x) → x < N) → d ≤ N
  taken_most N h =
      let c : length k.list ≤ length (from 0 N) =
      once_size k.once (from 0 N) (λ x t. member_from x 0 N (omega arith) (omega (arith, h x (k.are x t).0))) in
      omega (arith, k.size, length_from 0 N)
