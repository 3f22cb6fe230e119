-- Every match, and so every span of either reading, has a length between the two; and both numbers are at most that of the leaves.
-- Assumes nothing.
use mathlib.Core.Path.{◌≡◌, refl, subst}
use Prim.Native.Nat.{ℕ, zero, suc, ◌+◌, ◌-◌, ◌≤◌, ◌<◌, max}
use mathlib.Core.List.{List}
use native.Mathlib.Omega.{arith}
use Rattle.theory.specs.Pattern.{Re, empty, leaf, seq, alt, star, field, count}
use Rattle.theory.specs.Matching.{Matches, m_empty, m_leaf, m_seq, m_left, m_right, m_done, m_again, m_field}
use Rattle.theory.specs.Spans.{Span, nowhere, span, greedy, posix}
use Rattle.theory.proofs.Demand.{greedy_takes, posix_takes}
use Rattle.lengths.specs.Lengths.{Longest, limit, no_limit, together, endless, NotAbove, LengthBetween}
use Rattle.lengths.specs.Written.{extent}

-- What holds of a greatest length, if it is a number.
abbrev Of : (ℕ → Type 0) → Longest → Type 0
Of P no_limit = Unit {0}
Of P (limit M) = P M

of_any : (g : Longest) → Of (λ n. Unit {0}) g
of_any no_limit = tt
of_any (limit M) = tt

of_together : (P Q R : ℕ → Type 0) (f : ℕ → ℕ → ℕ) → ((a b : ℕ) → P a → Q b → R (f a b)) → (g h : Longest) → Of P g → Of Q h → Of R (together f g h)
of_together P Q R f step no_limit h p q = tt
of_together P Q R f step (limit a) no_limit p q = tt
of_together P Q R f step (limit a) (limit b) p q = step a b p q

of_endless : (P : ℕ → Type 0) → P 0 → (g : Longest) → Of P (endless g)
of_endless P p no_limit = tt
of_endless P p (limit zero) = p
of_endless P p (limit (suc n)) = tt

-- A match from i to j is not longer than g.
abbrev Fits : Longest → ℕ → ℕ → Type 0
Fits g i j = Of (λ M. j ≤ i + M) g

fits_again : (g : Longest) (i k j : ℕ) → i < k → Fits g i k → Fits (endless g) i j
fits_again no_limit i k j h a = tt
fits_again (limit zero) i k j h a = absurd (omega arith)
fits_again (limit (suc n)) i k j h a = tt

module _ {w : List ℕ} where
  -- No match is shorter than the least length, and none longer than the greatest.
  pub match_least : {r : Re} {i j : ℕ} → Matches w r i j → i + (extent r).least ≤ j
  unfolding extent
  match_least m_empty = omega arith
  match_least (m_leaf h t) = omega arith
  match_least (m_seq a b) = let c = match_least a in let d = match_least b in omega arith
  match_least (m_left a) = let c = match_least a in omega arith
  match_least (m_right a) = let c = match_least a in omega arith
  match_least m_done = omega arith
  match_least (m_again h a b) = let c = match_least b in omega arith
  match_least (m_field a) = match_least a

  match_fits : {r : Re} {i j : ℕ} → Matches w r i j → Fits (extent r).greatest i j
  unfolding extent
  match_fits m_empty = omega arith
  match_fits (m_leaf h t) = omega arith
  match_fits (m_seq {x = x} {y = y} {i = i} {k = k} {j = j} a b) =
      of_together (λ M. k ≤ i + M) (λ M. j ≤ k + M) (λ M. j ≤ i + M) ◌+◌ (λ m n p q. omega arith) (extent x).greatest (extent y).greatest (match_fits a) (match_fits b)
  match_fits (m_left {x = x} {y = y} {i = i} {j = j} a) =
      of_together (λ M. j ≤ i + M) (λ M. Unit {0}) (λ M. j ≤ i + M) max (λ m n p q. omega arith) (extent x).greatest (extent y).greatest (match_fits a) (of_any (extent y).greatest)
  match_fits (m_right {x = x} {y = y} {i = i} {j = j} a) =
      of_together (λ M. Unit {0}) (λ M. j ≤ i + M) (λ M. j ≤ i + M) max (λ m n p q. omega arith) (extent x).greatest (extent y).greatest (of_any (extent x).greatest) (match_fits a)
  match_fits (m_done {x = x} {i = i}) = of_endless (λ M. i ≤ i + M) (omega arith) (extent x).greatest
  match_fits (m_again {x = x} {i = i} {k = k} {j = j} h a b) = fits_again (extent x).greatest i k j h (match_fits a)
  match_fits (m_field a) = match_fits a

not_above : (g : Longest) (i j : ℕ) → Fits g i j → NotAbove g (j - i)
not_above no_limit i j a = tt
not_above (limit M) i j a = omega arith

pub match_between : {w : List ℕ} {r : Re} {i j : ℕ} → Matches w r i j → LengthBetween (extent r) (span i j)
match_between {w} {r} {i} {j} m = let a = match_least m in (omega arith, omega arith, not_above (extent r).greatest i j (match_fits m))

-- Every span that is a match has a length between the two.
span_between : (r : Re) (w : List ℕ) (s : Span) → ((i j : ℕ) → s ≡ span i j → Matches w r i j) → LengthBetween (extent r) s
span_between r w nowhere m = tt
span_between r w (span i j) m = match_between (m i j refl)

pub greedy_between : (r : Re) (w : List ℕ) → LengthBetween (extent r) (greedy r w)
greedy_between r w = span_between r w (greedy r w) (λ i j e. ((greedy_takes r w i j).0 e).end)

pub posix_between : (r : Re) (w : List ℕ) → LengthBetween (extent r) (posix r w)
posix_between r w = span_between r w (posix r w) (λ i j e. ((posix_takes r w i j).0 e).end)

-- Both numbers are at most that of the leaves.
pub least_count : (r : Re) → (extent r).least ≤ count r
unfolding extent count
least_count empty = omega arith
least_count (leaf p s) = omega arith
least_count (seq x y) = omega (arith, least_count x, least_count y)
least_count (alt x y) = omega (arith, least_count x, least_count y)
least_count (star how x) = omega arith
least_count (field f x) = least_count x

abbrev Small : Longest → ℕ → Type 0
Small g n = Of (λ M. M ≤ n) g

small : (r : Re) → Small (extent r).greatest (count r)
unfolding extent count
small empty = omega arith
small (leaf p s) = omega arith
small (seq x y) = of_together (λ M. M ≤ count x) (λ M. M ≤ count y) (λ M. M ≤ count x + count y) ◌+◌ (λ a b p q. omega arith) (extent x).greatest (extent y).greatest (small x) (small y)
small (alt x y) = of_together (λ M. M ≤ count x) (λ M. M ≤ count y) (λ M. M ≤ count x + count y) max (λ a b p q. omega arith) (extent x).greatest (extent y).greatest (small x) (small y)
small (star how x) = of_endless (λ M. M ≤ count x) (omega arith) (extent x).greatest
small (field f x) = small x

pub greatest_count : (r : Re) (M : ℕ) → (extent r).greatest ≡ limit M → M ≤ count r
greatest_count r M e = subst (λ g. Small g (count r)) e (small r)
