-- What the arrays that are lent for a pattern say of it, as the test reads them: the leaves that share a byte, the live leaves, and whether the test fails at the empty string.
-- A leaf that takes a byte is one of the pattern's, so below 64, where a bit tells it; a live leaf takes a byte. So a number meets the live leaves if the two have a bit in common.
-- Assumes nothing.
use mathlib.Core.Path.{◌≡◌, refl, sym, ◌∙◌, subst, subst⁻¹}
use mathlib.Core.Logic.{◌↔◌}
use Prim.Native.Nat.{ℕ, zero, suc, ◌+◌, ◌≤◌, ◌<◌}
use mathlib.Core.Bool.{Bool, true, false, not, ◌&&◌}
use mathlib.Core.List.{List}
use native.Mathlib.Omega.{arith}
use native.Mathlib.Decide.{dec_lt}
use lib.ListN.{get_or}
use lib.Dec.{T, eqb}
use lib.Bits.{bit_and}
use Rattle.theory.specs.Pattern.{Re, has, count, Numbered}
use Rattle.theory.specs.Standing.{wanted, member, from}
use Rattle.theory.specs.Code.Members.{any}
use Rattle.theory.specs.Code.Follow.{start, follow, has_end}
use Rattle.theory.proofs.Tests.{not_true, and_split, and_join}
use Rattle.theory.proofs.Members.{any_found, any_of, member_from, from_range}
use Rattle.theory.proofs.Extend.{has_beyond}
use Rattle.extends.specs.Code.Pairs.{Takes, Live, FailsEmpty}
use Rattle.extends.specs.Code.Test.{share}
use Rattle.extends.proofs.Live.{share_exactly, takes_below}
use Rattle.words.specs.Sets.{has_bit}
use Rattle.words.proofs.Bits.{and_bit}
use Rattle.standing.specs.Stands.{arrays, Lent}
use Rattle.facts.specs.Sets.{Endings}
use Rattle.facts.proofs.Bits.{some_bit}
use Rattle.facts.proofs.Rows.{leaf_wants, leaf_end, first_wants, empty_line}
use Rattle.pairs.specs.Leaves.{Shares, TakesBy, LiveBy, LiveLeaves}
use Rattle.pairs.specs.Steps.{Of}

-- A test that passes at some number below n.
pub any_below : (f : ℕ → Bool) (n : ℕ) → T (any f (from 0 n)) ↔ ((p : ℕ) × (p < n) × T (f p))
any_below f n = (
  λ t. let (p, m, u) = any_found f (from 0 n) t in (p, let c = from_range p 0 n m in omega arith, u),
  λ (p, h, u). any_of f (from 0 n) p (member_from p 0 n (omega arith) (omega arith)) u,
)

-- Two tests that agree on the numbers of a range.
any_agree : (f g : ℕ → Bool) (n d : ℕ) → ((p : ℕ) → p < n + d → f p ≡ g p) → any f (from n d) ≡ any g (from n d)
any_agree f g n zero e = refl
any_agree f g n (suc d) e = rw (e n (omega arith), any_agree f g (suc n) d λ p h. e p (omega arith))

module _ {r : Re} {masks rows lens sets ends : List ℕ} (lent : Lent r (arrays masks rows lens sets ends)) where
  mask_has : (b p : ℕ) → b < 256 → has_bit (get_or masks b 0) p ≡ has r p b
  mask_has b p h = elim (dec_lt p (count r)) [ yes k ↦ lent.masked b p h k | no k ↦ lent.spare b p h (omega arith) ∙ sym (has_beyond r lent.numbered p b k) ]

  -- What the test asks of a pattern, by the arrays that are lent for it.
  pub of_lent : {shares : List ℕ} {ending : ℕ} → Shares masks shares → Endings ends ending → Of r shares sets ending
  unfolding share
  of_lent s e = record {
    numbered = lent.numbered;
    most = lent.most;
    first = first_wants lent;
    follows = leaf_wants lent;
    ended = λ p h. e.bits p (omega (arith, lent.most)) ∙ leaf_end lent p h;
    shared = λ p q h k. s.bits p q h ∙ any_agree (λ b. has_bit (get_or masks b 0) p && has_bit (get_or masks b 0) q) (λ b. has r p b && has r q b) 0 256 (λ b l. rw (mask_has b p l, mask_has b q l));
  }

live_takes : {r : Re} {p : ℕ} → Live r p → Takes r p
live_takes (Live.last t e) = t
live_takes (Live.onward t f g) = t

module _ {r : Re} (d : Numbered 0 r) (most : count r ≤ 64) where
  pub live_below : {p : ℕ} → Live r p → p < 64
  live_below h = let c = takes_below r d (live_takes h) in omega arith

  -- A number meets the live leaves.
  module _ (l : ℕ) (live : (p : ℕ) → T (has_bit l p) ↔ Live r p) (x : ℕ) where
    live_bit : (q : ℕ) → T (has_bit (bit_and x l) q) ↔ (T (has_bit x q) × Live r q)
    live_bit q = (
      λ t. let (a, b) = and_split (has_bit x q) (has_bit l q) (subst T (and_bit x l q) t) in (a, (live q).0 b),
      λ (a, h). subst⁻¹ T (and_bit x l q) (and_join (has_bit x q) (has_bit l q) a ((live q).1 h)),
    )

    some_live : not (eqb (bit_and x l) 0) ≡ any (has_bit (bit_and x l)) (from 0 64)
    some_live = some_bit (bit_and x l) 64 λ q h. not_true _ λ t. let c = live_below ((live_bit q).0 t).1 in omega arith

    pub live_test : (b : Bool) → T (b && not (eqb (bit_and x l) 0)) ↔ (T b × ((c : ℕ) × T (has_bit x c) × Live r c))
    live_test b = (
      λ t. let (e, m) = and_split b (not (eqb (bit_and x l) 0)) t in
          let (c, k, u) = (any_below (has_bit (bit_and x l)) 64).0 (subst T some_live m) in
          let (a, h) = (live_bit c).0 u in
          (e, (c, a, h)),
      λ (e, (c, a, h)). and_join b (not (eqb (bit_and x l) 0)) e (subst⁻¹ T some_live ((any_below (has_bit (bit_and x l)) 64).1 (c, live_below h, (live_bit c).1 (a, h)))),
    )

module _ {r : Re} {shares sets : List ℕ} {ending : ℕ} (of : Of r shares sets ending) where
  -- Of a leaf that takes a byte the arrays say what follows it.
  takes_by : {p : ℕ} → p < 64 → TakesBy shares sets ending p ↔ Takes r p
  takes_by {p} h = (
    λ t. let (b, l, x, y) = (share_exactly r p p).0 (subst T (of.shared p p h h) t) in (b, l, x),
    λ (b, l, x). subst⁻¹ T (of.shared p p h h) ((share_exactly r p p).1 (b, l, x, x)),
  )

  ends_by : (p : ℕ) → Takes r p → has_bit ending p ≡ has_end (follow r p)
  ends_by p t = of.ended p (takes_below r of.numbered t)

  follows_by : (p : ℕ) {q : ℕ} → Takes r p → Live r q → has_bit (get_or sets (suc p) 0) q ≡ member q (wanted (follow r p))
  follows_by p {q} t h = of.follows p q (takes_below r of.numbered t) (live_below of.numbered of.most h)

  live_by : {p : ℕ} → LiveBy shares sets ending p → Live r p
  live_by {p} (LiveBy.last h t e) = let k = (takes_by h).0 t in Live.last k (subst T (ends_by p k) e)
  live_by {p} (LiveBy.onward h t f g) = let k = (takes_by h).0 t in let n = live_by g in Live.onward k (subst T (follows_by p k n) f) n

  by_live : {p : ℕ} → Live r p → LiveBy shares sets ending p
  by_live {p} (Live.last t e) = let h = live_below of.numbered of.most (Live.last t e) in LiveBy.last h ((takes_by h).1 t) (subst⁻¹ T (ends_by p t) e)
  by_live {p} (Live.onward t f g) =
      let h = live_below of.numbered of.most (Live.onward t f g) in
      LiveBy.onward h ((takes_by h).1 t) (subst⁻¹ T (follows_by p t g) f) (by_live g)

  -- The live leaves by the arrays are the live leaves.
  pub live_of : (x : ℕ) → LiveLeaves shares sets ending x → (p : ℕ) → T (has_bit x p) ↔ Live r p
  live_of x l p = (λ t. live_by ((l p).0 t), λ h. (l p).1 (by_live h))

-- The first test: the string may end before its first byte, and some first leaf is live.
module _ {r : Re} {masks rows lens sets ends : List ℕ} (lent : Lent r (arrays masks rows lens sets ends)) (l : ℕ) (live : (p : ℕ) → T (has_bit l p) ↔ Live r p) where
  abbrev fails_empty : Bool
  fails_empty = eqb (get_or ends 0 0) 1 && not (eqb (bit_and (get_or sets 0 0) l) 0)

  empty_exactly : T fails_empty ↔ FailsEmpty r
  empty_exactly =
      let test = live_test lent.numbered lent.most l live (get_or sets 0 0) (eqb (get_or ends 0 0) 1) in (
        λ t. let (e, (c, a, h)) = test.0 t in (subst T (empty_line lent) e, (c, subst T (first h) a, h)),
        λ (e, (c, f, h)). test.1 (subst⁻¹ T (empty_line lent) e, (c, subst⁻¹ T (first h) f, h)),
      )
    where
      first : {c : ℕ} → Live r c → has_bit (get_or sets 0 0) c ≡ member c (wanted (start r))
      first {c} h = first_wants lent c (live_below lent.numbered lent.most h)

  pub fails_empty_lem : fails_empty ≡ true → FailsEmpty r
  fails_empty_lem e = empty_exactly.0 (subst⁻¹ T e tt)

  pub passes_empty : fails_empty ≡ false → FailsEmpty r → ⊥
  passes_empty e f = subst T e (empty_exactly.1 f)
