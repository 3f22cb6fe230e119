-- The live leaves: one leaf of a pass, a pass, and the passes until one finds no more.
-- A pass adds live leaves only, so its number does not fall; if it ends as it began, it added none on the way, and what it looked at were the leaves that it began with.
-- If those are live, and a pass adds none, they are all: by induction over why a leaf is live.
-- Assumes nothing.
use mathlib.Core.Path.{◌≡◌}
use mathlib.Core.Logic.{◌⊎◌, inl, inr, ◌↔◌}
use mathlib.Core.Bool.{Bool, true, false, not, ◌&&◌, ◌||◌, cond}
use mathlib.Core.List.{List}
use Prim.Native.Nat.{ℕ, zero, suc, ◌+◌, ◌^◌, ◌/◌, ◌%◌, ◌≤◌, ◌<◌}
use native.Mathlib.Omega.{arith}
use native.Mathlib.Numerals.{add-one}
use native.Mathlib.Decide.{ℕ_discrete}
use lib.ListN.{get_or}
use lib.Dec.{T, eqb, ltb, not_T, eqb→eq, eqb_refl}
use lib.Bits.{bit_or, bit_and, or_add_and, and_le_r}
use Rattle.theory.proofs.Tests.{or_left, or_right, or_cases, and_split, and_join, either}
use Rattle.words.specs.Sets.{has_bit, with_leaf_if}
use Rattle.words.proofs.Bits.{no_bit, and_bit, half_bit, last_bit, with_if_bit}
use Rattle.pairs.specs.Leaves.{TakesBy, FollowsBy, EndsBy, LiveBy, last, onward, LivePass, LiveLeaves}

-- A number that is not 0 has a bit: its last, or one of its half.
some_leaf : (k z : ℕ) → z < k → (z ≡ 0 → ⊥) → (q : ℕ) × T (has_bit z q)
some_leaf zero z l n = absurd (omega arith)
some_leaf (suc k) z l n = go (ℕ_discrete (z % 2) 1) (λ h. some_leaf k (z / 2) (omega arith) h)
  where
    go : Dec (z % 2 ≡ 1) → ((z / 2 ≡ 0 → ⊥) → (q : ℕ) × T (has_bit (z / 2) q)) → (q : ℕ) × T (has_bit z q)
    go (yes e) half = (0, rw (last_bit z, e) tt)
    go (no o) half = let (q, t) = half (λ e. omega arith) in (suc q, rw (half_bit z q) at t)

-- Two sets of leaves have one in common, by the code's test.
pub meets : (x y : ℕ) → T (not (eqb (bit_and x y) 0)) ↔ ((q : ℕ) × T (has_bit x q) × T (has_bit y q))
meets x y = (there, back)
  where
    there : T (not (eqb (bit_and x y) 0)) → (q : ℕ) × T (has_bit x q) × T (has_bit y q)
    there t =
        let (q, u) = some_leaf (suc (bit_and x y)) (bit_and x y) (omega arith) (λ e. rw e at t) in
        let (a, b) = and_split (has_bit x q) (has_bit y q) (rw (and_bit x y q) at u) in
        (q, a, b)

    back : (q : ℕ) × T (has_bit x q) × T (has_bit y q) → T (not (eqb (bit_and x y) 0))
    back (q, a, b) = not_T (eqb (bit_and x y) 0) λ t.
        let u : T (has_bit (bit_and x y) q) = rw (and_bit x y q) (and_join (has_bit x q) (has_bit y q) a b) in
        rw (eqb→eq (bit_and x y) 0 t, no_bit q) at u

-- A leaf more makes no number less.
with_grows : (is : Bool) (x p : ℕ) → x ≤ with_leaf_if is x p
with_grows true x p = go (ltb p 64)
  where
    go : (c : Bool) → x ≤ cond c (bit_or x (2 ^ p)) x
    go true = omega (arith, or_add_and x (2 ^ p), and_le_r x (2 ^ p))
    go false = omega arith
with_grows false x p = omega arith

module _ (shares sets : List ℕ) (ending : ℕ) where
  -- Each leaf of x is live.
  abbrev pub AllLive : ℕ → Type 0
  AllLive x = (p : ℕ) → T (has_bit x p) → LiveBy shares sets ending p

  -- After the leaf p comes an end or a leaf of x.
  abbrev pub Leads : ℕ → ℕ → Type 0
  Leads p x = EndsBy shares sets ending p ⊎ ((q : ℕ) × FollowsBy shares sets ending p q × T (has_bit x q))

  -- The same by the code's tests.
  abbrev onto : ℕ → ℕ → Bool
  onto p x = not (eqb (bit_and (get_or sets (p + 1) 0) x) 0)

  abbrev leads : ℕ → ℕ → Bool
  leads p x = has_bit ending p || onto p x

  leads_right : (p x : ℕ) → T (leads p x) ↔ Leads p x
  leads_right p x =
      let (there, back) = meets (get_or sets (p + 1) 0) x in (
        λ t. either inl (λ u. inr (rw add-one at (there u))) (or_cases (has_bit ending p) (onto p x) t),
        either (or_left (has_bit ending p) (onto p x)) (λ u. or_right (has_bit ending p) (onto p x) (back (rw add-one u))),
      )

  -- A pass from `old` that has dealt with the leaves from n on.
  pub record PassTo (old n live : ℕ) : Type 0 where
    pub grows : old ≤ live
    pub sound : AllLive old → AllLive live
    pub closed : live ≡ old → (p : ℕ) → n ≤ p → p < 64 → TakesBy shares sets ending p → Leads p old → T (has_bit old p)

  pub pass_begin : (old : ℕ) → PassTo old 64 old
  pass_begin old = record { grows = omega arith; sound = λ all. all; closed = λ e p h k. absurd (omega arith) }

  -- The leaf p is live, by the leaves x that are so far; and these with it if it is.
  abbrev pub is_live : ℕ → ℕ → Bool
  is_live p x = has_bit (get_or shares p 0) p && leads p x

  abbrev pub with_live : ℕ → ℕ → ℕ
  with_live p x = with_leaf_if (is_live p x) x p

  pub pass_leaf : (old n p live : ℕ) → n ≤ suc p → p < 64 → PassTo old n live → PassTo old p (with_live p live)
  pass_leaf old n p live next small so = record {
    grows = omega (arith, so.grows, grew);
    sound = λ all q t. either (so.sound all q) (here all q) (or_cases (has_bit live q) (is_live p live && eqb q p) (rw (with_if_bit (is_live p live) live p q small) at t));
    closed = λ e i h k takes l. there e i h k takes l (ℕ_discrete i p);
  }
    where
      grew : live ≤ with_live p live
      grew = with_grows (is_live p live) live p

      here : AllLive old → (q : ℕ) → T (is_live p live && eqb q p) → LiveBy shares sets ending q
      here all q t =
          let (is, e) = and_split (is_live p live) (eqb q p) t in
          let (takes, l) = and_split (has_bit (get_or shares p 0) p) (leads p live) is in
          rw (eqb→eq q p e) (either (last small takes) (λ (i, f, u). onward small takes f (so.sound all i u)) ((leads_right p live).0 l))

      same : with_live p live ≡ old → live ≡ old
      same e = omega (arith, so.grows, grew)

      added : TakesBy shares sets ending p → Leads p live → T (has_bit (with_live p live) p)
      added takes l =
          rw (with_if_bit (is_live p live) live p p small)
          (or_right (has_bit live p) (is_live p live && eqb p p) (and_join (is_live p live) (eqb p p) (and_join (has_bit (get_or shares p 0) p) (leads p live) takes ((leads_right p live).1 l)) (eqb_refl p)))

      there : with_live p live ≡ old → (i : ℕ) → p ≤ i → i < 64 → TakesBy shares sets ending i → Leads i old → Dec (i ≡ p) → T (has_bit old i)
      there e i h k takes l (yes s) = rw s (rw e at (added (rw s at takes) (rw (s, ← same e) at l)))
      there e i h k takes l (no s) = so.closed (same e) i (omega arith) k takes l

  pub pass_end : (old live : ℕ) → PassTo old 0 live → LivePass shares sets ending old live
  pass_end old live so = record { grows = so.grows; sound = so.sound; closed = λ e p. so.closed e p (omega arith) }

  -- The passes: none yet, and one that finds no more.
  pub none_live : AllLive 0
  none_live p t = absurd (rw (no_bit p) at t)

  pub live_end : (x y : ℕ) → y ≡ x → AllLive x → LivePass shares sets ending x y → LiveLeaves shares sets ending x
  live_end x y e all pass p = (all p, there)
    where
      there : {p : ℕ} → LiveBy shares sets ending p → T (has_bit x p)
      there (last {p = p} k takes ends) = pass.closed e p k takes (inl ends)
      there (onward {p = p} {q = q} k takes follows l) = pass.closed e p k takes (inr (q, follows, there l))
