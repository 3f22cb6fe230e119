-- How many leaves a standing has.
-- Assumes nothing.
use Prim.Native.Nat.{ℕ, ◌≤◌, ◌<◌}
use mathlib.Core.List.{List, [], ◌∷◌}
use native.Mathlib.Omega.{arith}
use lib.ListN.{length}
use lib.Dec.{T, eqb}
use Rattle.theory.specs.Pattern.{Re, count, Numbered}
use Rattle.theory.specs.Outcomes.{Outcome, ends_at, wants, outcomes}
use Rattle.theory.specs.Standing.{fronts, wanted, member, from, standing}
use Rattle.theory.proofs.Equations.{outcomes_all}
use Rattle.theory.proofs.Extend.{leaf_range}
use Rattle.theory.proofs.Tests.{or_left, or_right, or_cases, either}
use Rattle.theory.specs.Code.Members.{Once, nil}
use Rattle.theory.proofs.Members.{Within, gather_member, member_from, length_from, once_gather, once_size}
use Rattle.theory.proofs.Step.{wanted_in}

-- A standing has at most as many leaves as the pattern, in (a) and in (c), each below its count.
module _ (r : Re) (d : Numbered 0 r) (w : List ℕ) where
  pub order_once : Once (standing r w).order
  unfolding standing
  order_once = once_gather [] (fronts (outcomes r w 0)) nil

  fronts_wanted : {K : Type 0} (l : List (Outcome K)) → Within (fronts l) (wanted l)
  fronts_wanted [] p t = t
  fronts_wanted (ends_at k ∷ l) p t = absurd t
  fronts_wanted (wants q ∷ l) p t = either (λ e. or_left (eqb p q) (member p (wanted l)) e) (λ i. or_right (eqb p q) (member p (wanted l)) (fronts_wanted l p i)) (or_cases (eqb p q) (member p (fronts l)) t)

  pub order_below : (p : ℕ) → T (member p (standing r w).order) → p < count r
  unfolding standing
  order_below p t =
      let i = fronts_wanted (outcomes r w 0) p (rw (gather_member p [] (fronts (outcomes r w 0))) at t) in
      let c = leaf_range 0 d (wanted_in (outcomes_all r w 0) p i) in
      omega arith

  pub order_size : length (standing r w).order ≤ count r
  order_size = rw (length_from 0 (count r)) at (once_size order_once (from 0 (count r)) (λ p t. member_from p 0 (count r) (omega arith) (omega (arith, order_below p t))))
