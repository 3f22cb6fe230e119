-- The matched strings, from leaf to leaf.
-- Assumes nothing.
use mathlib.Core.Path.{◌≡◌, ap}
use mathlib.Core.Logic.{◌↔◌}
use Prim.Native.Nat.{ℕ, ◌≤◌, ◌<◌}
use mathlib.Core.Bool.{Bool, true, false}
use mathlib.Core.List.{List, [], ◌∷◌, ◌++◌, append-nil, append_assoc}
use native.Mathlib.Omega.{arith}
use lib.ListN.{length}
use lib.Dec.{T}
use Rattle.theory.specs.Pattern.{Re, has, Numbered}
use Rattle.theory.specs.Outcomes.{outcomes, when}
use Rattle.theory.specs.Standing.{some_is, wanted, member, standing}
use Rattle.theory.specs.Lines.{Below}
use Rattle.theory.specs.Code.Members.{any}
use Rattle.theory.specs.Code.Follow.{Next, start, follow, after, has_end}
use Rattle.theory.specs.Code.Next.{afters}
use Rattle.theory.proofs.Tests.{T_true}
use Rattle.theory.proofs.Members.{any_found, any_of}
use Rattle.theory.proofs.Lines.{size_snoc}
use Rattle.theory.proofs.Outcomes.{all_map}
use Rattle.theory.proofs.Equations.{Leaf, outcomes_all}
use Rattle.theory.proofs.Matching.{ends_match, match_ends}
use Rattle.theory.proofs.Extend.{extend, outcomes_end}
use Rattle.theory.proofs.Step.{wanted_place, grow_wanted, grow_some, afters_member, afters_end, step_start}
use Rattle.extends.specs.Extends.{Matched}
use Rattle.extends.specs.Code.Pairs.{Live, last, onward}

module _ (r : Re) where
  -- The string u from the list l on: each byte is in the set of a leaf that is wanted, and at the end there is `here`.
  abbrev pub Accepts : List Next → List ℕ → Type 0
  Accepts l [] = T (has_end l)
  Accepts l (b ∷ u) = (p : ℕ) × T (member p (wanted l)) × T (has r p b) × Accepts (follow r p) u

  module _ (b : ℕ) (L : List ℕ) where
    -- A test passes on the list of some leaf of L after the byte b.
    any_after : (f : List Next → Bool) → (T (f []) → ⊥) → T (any (λ p. f (after r b p)) L) ↔ ((p : ℕ) × T (member p L) × T (has r p b) × T (f (follow r p)))
    any_after f n = (
      λ t. let (p, m, a) = any_found (λ p. f (after r b p)) L t in let (h, c) = go (has r p b) (follow r p) a in (p, m, h, c),
      λ (p, m, h, c). any_of (λ p. f (after r b p)) L p m (rw (T_true (has r p b) h) c),
    )
      where
        go : (c : Bool) (l : List Next) → T (f (when c l)) → T c × T (f l)
        go true l t = (tt, t)
        go false l t = absurd (n t)

    -- What follows the leaves of L after the byte b accepts u exactly if some leaf takes b, and what follows it accepts u.
    accepts_after : (u : List ℕ) → Accepts (afters r b L) u ↔ ((p : ℕ) × T (member p L) × T (has r p b) × Accepts (follow r p) u)
    accepts_after [] = rw (afters_end r b L) (any_after has_end (λ t. t))
    accepts_after (c ∷ u) = (
      λ (q, m, h, a). let (p, i, t, s) = (any_after (λ l. member q (wanted l)) (λ t. t)).0 (rw (afters_member r b q L) at m) in (p, i, t, (q, s, h, a)),
      λ (p, i, t, (q, s, h, a)). (q, rw (afters_member r b q L) ((any_after (λ l. member q (wanted l)) (λ t. t)).1 (p, i, t, s)), h, a),
    )

  -- A list that wants what the string u wants, and has an end exactly if u is matched, accepts what completes u.
  completes : Numbered 0 r → (v u : List ℕ) (l : List Next) → wanted (outcomes r u 0) ≡ wanted l → some_is (length u) (outcomes r u 0) ≡ has_end l
      → T (some_is (length (u ++ v)) (outcomes r (u ++ v) 0)) ↔ Accepts l v
  completes d [] u l w e = rw (append-nil u, e) (λ t. t, λ t. t)
  completes d (b ∷ v) u l w e =
      let grown = extend u b r 0 d 0 (omega arith) in
      let inside = all_map {P' = λ k. k ≤ length u} {Q' = Leaf r} (λ k c. omega arith) (λ p c. c) (outcomes_all r u 0) in
      let c = completes d v (u ++ (b ∷ [])) (afters r b (wanted l)) (rw (grown, grow_wanted r b (length u) (outcomes r u 0), w)) (rw (size_snoc u b, grown, grow_some r b (length u) inside, w)) in
      let a = accepts_after b (wanted l) v in
      rw (← append_assoc u (b ∷ []) v) (λ t. a.0 (c.0 t), λ t. c.1 (a.1 t))

  -- A STRING IS MATCHED exactly if the start list accepts it.
  pub matched_accepts : Numbered 0 r → (u : List ℕ) → Matched r u ↔ Accepts (start r) u
  unfolding standing
  matched_accepts d u =
      let c = completes d u [] (start r) (rw (outcomes_end r [], wanted_place 0 (start r))) (ap (λ s. s.some) (step_start r)) in
      (λ m. c.0 (match_ends u m), λ a. ends_match u r 0 (length u) (c.1 a))

  -- A LEAF IS LIVE exactly if it takes a byte that a string of bytes completes.
  pub live_accepts : {p : ℕ} → Live r p → (b : ℕ) × (v : List ℕ) × (b < 256) × Below 256 v × T (has r p b) × Accepts (follow r p) v
  live_accepts (last (b, l, t) e) = (b, [], l, tt, t, e)
  live_accepts (onward {q = q} (b, l, t) f h) = let (c, v, k, w, s, a) = live_accepts h in (b, c ∷ v, l, (k, w), t, (q, f, s, a))

  pub accepts_live : (v : List ℕ) → Below 256 v → (p b : ℕ) → b < 256 → T (has r p b) → Accepts (follow r p) v → Live r p
  accepts_live [] w p b l t a = last (b, l, t) a
  accepts_live (c ∷ v) w p b l t a = let (q, f, s, z) = a in onward (b, l, t) f (accepts_live v w.1 q c w.0 s z)
