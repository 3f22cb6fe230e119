-- The live leaves by rounds: as many rounds as leaves are enough, since a round that finds none is the last that is needed.
-- Assumes nothing.
use mathlib.Core.Path.{◌≡◌, refl, sym, ◌∙◌}
use mathlib.Core.Logic.{◌⊎◌, inl, inr, ◌↔◌}
use Prim.Native.Nat.{ℕ, zero, suc, ◌≤◌, ◌<◌}
use mathlib.Core.Bool.{Bool, true, false, not, ◌&&◌, true≢false}
use mathlib.Core.List.{List}
use native.Mathlib.Omega.{arith}
use native.Mathlib.Decide.{dec_lt}
use lib.ListN.{length}
use lib.Dec.{T, T_not, not_T, eqb, eqb→eq}
use Rattle.theory.specs.Pattern.{Re, has, count, Numbered}
use Rattle.theory.specs.Standing.{wanted, member, from}
use Rattle.theory.specs.Code.Members.{any, Once, nil, cons}
use Rattle.theory.specs.Code.Follow.{Next, follow, has_end}
use Rattle.theory.proofs.Tests.{T_true, true_T, or_left, or_right, or_cases, and_split, and_join, either}
use Rattle.theory.proofs.Members.{Within, any_found, any_of, member_from, length_from, once_size, from_range, filter_in, once_from, once_filter}
use Rattle.theory.proofs.Extend.{has_beyond}
use Rattle.extends.specs.Code.Pairs.{Takes, Share, Live, last, onward}
use Rattle.extends.specs.Code.Test.{meets, leads, takes, share, rounds, live}
use Rattle.extends.proofs.Lists.{T_stable, passing}

-- A list meets a set where it has a number of it.
pub meets_found : (l set : List ℕ) → T (meets l set) → (p : ℕ) × T (member p l) × T (member p set)
meets_found l set = any_found (λ p. member p set) l

pub meets_of : (l set : List ℕ) (p : ℕ) → T (member p l) → T (member p set) → T (meets l set)
meets_of l set = any_of (λ p. member p set) l

pub leads_mono : (l : List Next) (A B : List ℕ) → Within A B → T (leads l A) → T (leads l B)
leads_mono l A B h t =
    either (λ e. or_left (has_end l) (meets (wanted l) B) e)
    (λ m. let (p, i, s) = meets_found (wanted l) A m in or_right (has_end l) (meets (wanted l) B) (meets_of (wanted l) B p i (h p s)))
    (or_cases (has_end l) (meets (wanted l) A) t)

module _ (r : Re) where
  pub takes_exactly : (p : ℕ) → T (takes r p) ↔ Takes r p
  unfolding takes
  takes_exactly p = (
    λ t. let (b, m, h) = any_found (has r p) (from 0 256) t in (b, let c = from_range b 0 256 m in omega arith, h),
    λ (b, l, h). any_of (has r p) (from 0 256) b (member_from b 0 256 (omega arith) (omega arith)) h,
  )

  pub share_exactly : (p q : ℕ) → T (share r p q) ↔ Share r p q
  unfolding share
  share_exactly p q = (
    λ t. let (b, m, h) = any_found (λ b. has r p b && has r q b) (from 0 256) t in
        let (x, y) = and_split (has r p b) (has r q b) h in
        (b, let c = from_range b 0 256 m in omega arith, x, y),
    λ (b, l, x, y). any_of (λ b. has r p b && has r q b) (from 0 256) b (member_from b 0 256 (omega arith) (omega arith)) (and_join (has r p b) (has r q b) x y),
  )

  -- What a round finds.
  pub round : (k p : ℕ) → T (member p (rounds r (suc k))) ↔ ((p < count r) × T (takes r p) × T (leads (follow r p) (rounds r k)))
  unfolding rounds
  round k p =
      let f : ℕ → Bool = λ q. takes r q && leads (follow r q) (rounds r k) in (
        λ t. let (h, c) = (passing f (count r) p).1 t in
            let (x, y) = and_split (takes r p) (leads (follow r p) (rounds r k)) c in
            (h, x, y),
        λ (h, x, y). (passing f (count r) p).0 (h, and_join (takes r p) (leads (follow r p) (rounds r k)) x y),
      )

  -- A set of which a round makes another finds at least as much from more.
  round_mono : (j k : ℕ) → Within (rounds r j) (rounds r k) → Within (rounds r (suc j)) (rounds r (suc k))
  round_mono j k h p t = let (l, x, y) = (round j p).0 t in (round k p).1 (l, x, leads_mono (follow r p) (rounds r j) (rounds r k) h y)

  round_more : (k : ℕ) → Within (rounds r k) (rounds r (suc k))
  unfolding rounds
  round_more zero = λ p t. absurd t
  round_more (suc k) = round_mono k (suc k) (round_more k)

  round_once : (k : ℕ) → Once (rounds r k)
  unfolding rounds
  round_once zero = nil
  round_once (suc k) = once_filter (λ q. takes r q && leads (follow r q) (rounds r k)) (once_from 0 (count r))

  round_within : (k : ℕ) → Within (rounds r k) (from 0 (count r))
  unfolding rounds
  round_within zero = λ p t. absurd t
  round_within (suc k) = filter_in (λ q. takes r q && leads (follow r q) (rounds r k)) (from 0 (count r))

  -- A list that has more than the rounds so far is longer.
  longer : (k p : ℕ) (m : List ℕ) → Within (rounds r k) m → T (member p m) → (T (member p (rounds r k)) → ⊥) → length (rounds r k) < length m
  longer k p m h i n =
      once_size (cons n (round_once k)) m λ q t. either (λ e. rw (eqb→eq q p e) i) (h q) (or_cases (eqb q p) (member q (rounds r k)) t)

  -- The round after k rounds finds nothing new.
  abbrev Stable : ℕ → Type 0
  Stable k = Within (rounds r (suc k)) (rounds r k)

  stable_or : (k : ℕ) → Stable k ⊎ (k ≤ length (rounds r k))
  stable_or zero = inr (omega arith)
  stable_or (suc k) = go (stable_or k) (any new (rounds r (suc k))) refl
    where
      new : ℕ → Bool
      new p = not (member p (rounds r k))

      go : Stable k ⊎ (k ≤ length (rounds r k)) → (c : Bool) → any new (rounds r (suc k)) ≡ c → Stable (suc k) ⊎ (suc k ≤ length (rounds r (suc k)))
      go (inl s) c e = inl (round_mono (suc k) k s)
      go (inr l) true e =
          let (p, i, n) = any_found new (rounds r (suc k)) (true_T (any new (rounds r (suc k))) e) in
          let h = longer k p (rounds r (suc k)) (round_more k) i (T_not (member p (rounds r k)) n) in
          inr (omega arith)
      go (inr l) false e =
          inl (round_mono (suc k) k λ p t. T_stable (member p (rounds r k)) λ n.
          true≢false (sym (T_true (any new (rounds r (suc k))) (any_of new (rounds r (suc k)) p t (not_T (member p (rounds r k)) n))) ∙ e))

  stable : Stable (count r)
  stable p t =
      either (λ s. s p t)
      (λ l. T_stable (member p (rounds r (count r))) λ n.
      let h = longer (count r) p (from 0 (count r)) (round_within (count r)) (round_within (suc (count r)) p t) n in
      omega (arith, length_from 0 (count r)))
      (stable_or (count r))

  -- What the rounds find is live,
  pub rounds_sound : (k p : ℕ) → T (member p (rounds r k)) → Live r p
  unfolding rounds
  rounds_sound zero p t = absurd t
  rounds_sound (suc k) p t =
      let (l, x, y) = (round k p).0 t in
      let takes = (takes_exactly p).0 x in
      either (λ e. last takes e)
      (λ m. let (q, f, s) = meets_found (wanted (follow r p)) (rounds r k) m in onward takes f (rounds_sound k q s))
      (or_cases (has_end (follow r p)) (meets (wanted (follow r p)) (rounds r k)) y)

  module _ (d : Numbered 0 r) where
    pub takes_below : {p : ℕ} → Takes r p → p < count r
    takes_below {p} (b, l, t) = elim (dec_lt p (count r)) [ yes h ↦ h | no h ↦ absurd (true≢false (sym (T_true (has r p b) t) ∙ has_beyond r d p b h)) ]

    -- And each live leaf is found.
    pub rounds_complete : {p : ℕ} → Live r p → T (member p (live r))
    rounds_complete {p} (last t e) = stable p ((round (count r) p).1 (takes_below t, (takes_exactly p).1 t, or_left (has_end (follow r p)) (meets (wanted (follow r p)) (live r)) e))
    rounds_complete {p} (onward {q = q} t f h) =
        stable p ((round (count r) p).1 (
          takes_below t,
          (takes_exactly p).1 t,
          or_right (has_end (follow r p)) (meets (wanted (follow r p)) (live r)) (meets_of (wanted (follow r p)) (live r) q f (rounds_complete h)),
        ))

    pub live_exactly : (p : ℕ) → T (member p (live r)) ↔ Live r p
    live_exactly p = (rounds_sound (count r) p, rounds_complete)
