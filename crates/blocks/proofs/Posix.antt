-- The POSIX span by what the first leaves will find.
-- Assumes nothing.
use mathlib.Core.Path.{◌≡◌, refl, sym, ap, ap₂, ◌∙◌}
use Prim.Native.Nat.{ℕ, suc, ◌+◌, ◌≤◌}
use mathlib.Core.Bool.{Bool, true, false, cond}
use mathlib.Core.List.{List, [], ◌∷◌}
use mathlib.Core.Option.{Option, none, some}
use native.Mathlib.Omega.{arith}
use lib.ListN.{length, drop}
use Rattle.theory.specs.Pattern.{Re, Numbered}
use Rattle.theory.specs.Outcomes.{outcomes}
use Rattle.theory.specs.Spans.{nowhere, span_or, leftmost, greatest_end, posix}
use Rattle.theory.specs.Standing.{Standing, standing}
use Rattle.theory.specs.Code.Follow.{start, has_end}
use Rattle.theory.specs.Code.Next.{next}
use Rattle.theory.specs.Code.Passes.{forward}
use Rattle.theory.proofs.Step.{step_start}
use Rattle.theory.proofs.Passes.{posix_end}
use Rattle.blocks.specs.Blocks.{firsts}
use Rattle.blocks.specs.Answer.{or_else, last_end, later}

module _ (r : Re) where
  -- The pass forward from one start is that of its set.
  pub forward_last : (rest : List ℕ) (s : Standing) (i : ℕ) (best : Option ℕ) → forward r (λ s. s.some) rest s i best ≡ or_else (last_end r s.all rest i) best
  unfolding forward next last_end
  forward_last [] s i best = refl
  forward_last (b ∷ rest) s i best =
      forward_last rest (next r s b) (suc i) (cond (next r s b).some (some (suc i)) best)
      ∙ go (last_end r (next r s b).all rest (suc i)) (next r s b).some
    where
      go : (o : Option ℕ) (c : Bool) → or_else o (cond c (some (suc i)) best) ≡ or_else (or_else o (cond c (some (suc i)) none)) best
      go none true = refl
      go none false = refl
      go (some k) c = refl

  pub or_none_lem : (o : Option ℕ) → or_else o none ≡ o
  or_none_lem none = refl
  or_none_lem (some k) = refl

  -- The first start of the rest of a line, where no start is one by an empty match.
  leftmost_later : (e : ℕ → Option ℕ) (rest : List ℕ) (j : ℕ) → ((i k : ℕ) → i ≡ j + k → k ≤ length rest → e i ≡ last_end r (firsts r) (drop k rest) i)
      → later r rest j ≡ leftmost e (suc (length rest)) j
  unfolding later last_end
  leftmost_later e [] j h = rw (h j 0 (omega arith) (omega arith))
  leftmost_later e (b ∷ rest) j h =
      ap₂ (span_or j) (sym (h j 0 (omega arith) (omega arith))) (leftmost_later e rest (suc j) (λ i k q l. h i (suc k) (omega arith) (omega arith)))

  module _ (d : Numbered 0 r) (w : List ℕ) where
    -- The POSIX end from the place i.
    pub end_from : (i : ℕ) → i ≤ length w → greatest_end (outcomes r w i) ≡ or_else (last_end r (firsts r) (drop i w) i) (cond (has_end (start r)) (some i) none)
    end_from i h =
        posix_end r d w i h
        ∙ forward_last (drop i w) (standing r []) i (cond (standing r []).some (some i) none)
        ∙ ap (λ s. or_else (last_end r s.all (drop i w) i) (cond s.some (some i) none)) (step_start r)

    end_at : (c : Bool) → has_end (start r) ≡ c → (i : ℕ) → i ≤ length w → greatest_end (outcomes r w i) ≡ or_else (last_end r (firsts r) (drop i w) i) (cond c (some i) none)
    end_at c e i h = end_from i h ∙ ap (λ c. or_else (last_end r (firsts r) (drop i w) i) (cond c (some i) none)) e

    -- A PATTERN THAT MATCHES THE EMPTY LINE begins at the first place,
    pub posix_empty : has_end (start r) ≡ true → span_or 0 (or_else (last_end r (firsts r) w 0) (some 0)) nowhere ≡ posix r w
    unfolding posix
    posix_empty e = some_here (last_end r (firsts r) w 0) ∙ ap (λ o. span_or 0 o (leftmost (λ i. greatest_end (outcomes r w i)) (length w) 1)) (sym (end_at true e 0 (omega arith)))
      where
        some_here : (o : Option ℕ) → span_or 0 (or_else o (some 0)) nowhere ≡ span_or 0 (or_else o (some 0)) (leftmost (λ i. greatest_end (outcomes r w i)) (length w) 1)
        some_here none = refl
        some_here (some k) = refl

    -- AND ANY OTHER at the first place that has an end further on.
    pub posix_later : has_end (start r) ≡ false → later r w 0 ≡ posix r w
    unfolding posix
    posix_later e =
        leftmost_later (λ i. greatest_end (outcomes r w i)) w 0
        (λ i k q l.
        let s : i ≡ k = omega arith in
        end_at false e i (omega arith) ∙ or_none_lem (last_end r (firsts r) (drop i w) i) ∙ ap (λ k. last_end r (firsts r) (drop k w) i) s)
