-- Runs of bytes that keep a standing: which bytes are alike to it, and that it is the same after each of them.
-- Assumes nothing.
use mathlib.Core.Path.{◌≡◌, sym, ap, ◌∙◌, subst}
use mathlib.Core.Bool.{true, ◌&&◌, true≢false}
use mathlib.Core.List.{List, [], ◌∷◌}
use Prim.Native.Nat.{ℕ, ◌<◌}
use native.Mathlib.Omega.{arith}
use native.Mathlib.Decide.{dec_lt}
use lib.ListN.{get_or}
use lib.Dec.{T, eqb}
use lib.Bits.{bit_and}
use Rattle.theory.specs.Pattern.{Re, count, has, Numbered}
use Rattle.theory.specs.Outcomes.{Outcome, ends_at, wants, outcomes}
use Rattle.theory.specs.Standing.{member, fronts, wanted, once, set_of, from, filter, standing}
use Rattle.theory.specs.Standing as Theory
use Rattle.theory.specs.Code.Follow.{has_end}
use Rattle.theory.specs.Code.Next.{next}
use Rattle.theory.proofs.Tests.{T_true, or_left, or_right, or_cases, either}
use Rattle.theory.proofs.Members.{Within, gather_member, filter_of, filter_passes, member_from}
use Rattle.theory.proofs.Sizes.{order_below}
use Rattle.words.specs.Sets.{has_bit}
use Rattle.words.proofs.Bits.{and_bit}
use Rattle.standing.specs.declared.Standing.{Standing}
use Rattle.standing.specs.Stands.{means, Arrays, Lent, Fine}
use Rattle.facts.specs.Moves.{Bytes}
use Rattle.blocks.proofs.Opening.{afters_same}

-- (a) is within (c), for the standing of a line.
fronts_wanted : {K : Type 0} (l : List (Outcome K)) → Within (fronts l) (wanted l)
fronts_wanted [] p t = t
fronts_wanted (ends_at k ∷ l) p t = absurd t
fronts_wanted (wants q ∷ l) p t = either (λ e. or_left (eqb p q) (member p (wanted l)) e) (λ i. or_right (eqb p q) (member p (wanted l)) (fronts_wanted l p i)) (or_cases (eqb p q) (member p (fronts l)) t)

order_in_all : (r : Re) → Numbered 0 r → (w : List ℕ) → Within (standing r w).order (standing r w).all
unfolding standing
order_in_all r d w p t =
    filter_of (λ q. member q (wanted (outcomes r w 0))) (from 0 (count r)) p
    (fronts_wanted (outcomes r w 0) p (rw (gather_member p [] (fronts (outcomes r w 0))) at t))
    (member_from p 0 (count r) (omega arith) (omega (arith, order_below r d w p t)))

-- Two bytes that the wanted leaves do not tell apart carry a standing to the same one.
module _ (r : Re) (b c : ℕ) where
  next_same : (s : Theory.Standing) → ((p : ℕ) → T (member p s.order) → has r p b ≡ has r p c) → ((p : ℕ) → T (member p s.all) → has r p b ≡ has r p c) → next r s b ≡ next r s c
  unfolding next
  next_same s g h =
      let o = afters_same r b c s.order g in
      let a = afters_same r b c s.all h in
      λ i. record { order = once (fronts (o i)); first = has_end (o i); all = set_of r (wanted (a i)); some = has_end (a i) }

module _ {r : Re} {a : Arrays} (lent : Lent r a) (w : List ℕ) (bytes : Bytes w) (s : Standing) (fine : Fine r s) where
  -- A leaf of (c) takes two bytes of one kind, or neither.
  takes_same : (i k : ℕ) → bit_and s.all (get_or a.masks (get_or w k 0) 0) ≡ bit_and s.all (get_or a.masks (get_or w i 0) 0) → (p : ℕ) → T (member p (means (count r) s).all) → has r p (get_or w k 0) ≡ has r p (get_or w i 0)
  takes_same i k e p t =
      sym (lent.masked (get_or w k 0) p (bytes k) (inside (dec_lt p (count r)))) ∙ sym (seen k) ∙ ap (λ n. has_bit n p) e ∙ seen i ∙ lent.masked (get_or w i 0) p (bytes i) (inside (dec_lt p (count r)))
    where
      there : has_bit s.all p ≡ true
      there = T_true (has_bit s.all p) (filter_passes (has_bit s.all) (from 0 (count r)) p t)

      inside : Dec (p < count r) → p < count r
      inside (yes m) = m
      inside (no m) = absurd (true≢false (sym there ∙ fine.set p (omega arith)))

      seen : (j : ℕ) → has_bit (bit_and s.all (get_or a.masks (get_or w j 0) 0)) p ≡ has_bit (get_or a.masks (get_or w j 0) 0) p
      seen j = and_bit s.all _ p ∙ ap (λ c. c && has_bit (get_or a.masks (get_or w j 0) 0) p) there

  -- Bytes of one kind carry the standing of a line to the same one.
  pub next_alike : (v : List ℕ) → means (count r) s ≡ standing r v → (i k : ℕ) → bit_and s.all (get_or a.masks (get_or w k 0) 0) ≡ bit_and s.all (get_or a.masks (get_or w i 0) 0)
      → next r (means (count r) s) (get_or w k 0) ≡ next r (means (count r) s) (get_or w i 0)
  next_alike v line i k e =
      let inner = subst (λ (u : Theory.Standing). Within u.order u.all) (sym line) (order_in_all r lent.numbered v) in
      next_same r (get_or w k 0) (get_or w i 0) (means (count r) s) (λ p t. takes_same i k e p (inner p t)) (takes_same i k e)
