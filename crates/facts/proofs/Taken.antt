-- Leaves that take a byte, by the masks.
-- Assumes nothing.
use mathlib.Core.Path.{◌≡◌, refl, sym, ap, ◌∙◌}
use mathlib.Core.Bool.{Bool, true, false, ◌&&◌, ◌||◌, true≢false}
use mathlib.Core.List.{List}
use Prim.Native.Nat.{ℕ, ◌<◌}
use native.Mathlib.Omega.{arith}
use native.Mathlib.Decide.{dec_lt}
use lib.ListN.{get_or}
use lib.Dec.{T}
use lib.Bits.{bit_and, bit_or}
use Rattle.theory.specs.Pattern.{Re, has, count}
use Rattle.theory.specs.Outcomes.{when}
use Rattle.theory.specs.Standing.{member, from}
use Rattle.theory.specs.Code.Follow.{follow, after, has_end}
use Rattle.theory.specs.Code.Next.{afters}
use Rattle.theory.proofs.Tests.{T_true, true_T, not_true, or_right}
use Rattle.theory.proofs.Members.{any_found, Within, filter_of, member_from}
use Rattle.theory.proofs.Step.{afters_end}
use Rattle.theory.proofs.Extend.{has_beyond}
use Rattle.words.specs.Sets.{has_bit}
use Rattle.words.proofs.Bits.{and_bit, or_bit, no_bit}
use Rattle.facts.specs.Sets.{leaves_in}
use Rattle.facts.specs.Moves.{Moves}
use Rattle.facts.proofs.Rows.{leaf_in}

-- The leaves of a number are those of another that has its bits.
leaves_within : (c x y : ℕ) → ((p : ℕ) → has_bit x p ≡ true → has_bit y p ≡ true) → Within (leaves_in c x) (leaves_in c y)
leaves_within c x y h p t =
    let (below, there) = leaf_in c x p t in
    filter_of (has_bit y) (from 0 c) p (true_T _ (h p there)) (member_from p 0 c (omega arith) (omega arith))

-- Those of two numbers are among those of their union.
pub union_first : (c x y : ℕ) → Within (leaves_in c x) (leaves_in c (bit_or x y))
union_first c x y = leaves_within c x (bit_or x y) λ p t. or_bit x y p ∙ ap (λ d. d || has_bit y p) t

pub union_second : (c x y : ℕ) → Within (leaves_in c y) (leaves_in c (bit_or x y))
union_second c x y = leaves_within c y (bit_or x y) λ p t. or_bit x y p ∙ T_true _ (or_right (has_bit x p) (has_bit y p) (true_T _ t))

module _ {r : Re} {masks sets : List ℕ} {ending : ℕ} (moves : Moves r masks sets ending) where
  -- A set of which the byte's mask has nothing does not take it.
  pub untaken : (b x : ℕ) → b < 256 → bit_and x (get_or masks b 0) ≡ 0 → (p : ℕ) → T (member p (leaves_in (count r) x)) → has r p b ≡ false
  untaken b x byte e p m =
      let (k, t) = leaf_in (count r) x p m in
      sym (moves.masked b p byte k) ∙ (rw (and_bit, t, no_bit p) at (ap (λ n. has_bit n p) e))

  -- Two bytes of which the leaves of a set take the same are not told apart by them.
  pub agree : (b c x : ℕ) → b < 256 → c < 256 → bit_and x (get_or masks b 0) ≡ bit_and x (get_or masks c 0) → (p : ℕ) → T (member p (leaves_in (count r) x)) → has r p b ≡ has r p c
  agree b c x h k e p m =
      let (below, there) = leaf_in (count r) x p m in
      let seen : (n : ℕ) → has_bit (bit_and x n) p ≡ has_bit n p = λ n. and_bit x n p ∙ ap (λ d. d && has_bit n p) there in
      sym (moves.masked b p h below) ∙ sym (seen (get_or masks b 0)) ∙ ap (λ n. has_bit n p) e ∙ seen (get_or masks c 0) ∙ moves.masked c p k below

  -- Leaves of which none takes the byte and is one after which an end stands.
  pub no_end : (b : ℕ) → b < 256 → (l : List ℕ) → ((p : ℕ) → T (member p l) → has_bit (get_or masks b 0) p ≡ true → has_bit ending p ≡ true → ⊥) → has_end (afters r b l) ≡ false
  no_end b byte l h =
      afters_end r b l ∙ not_true _ λ t.
      let (p, m, u) = any_found (λ p. has_end (after r b p)) l t in
      let (taken, end) = both p (has r p b) u in
      let below : p < count r = inside p taken (dec_lt p (count r)) in
      h p m (moves.masked b p byte below ∙ taken) (moves.ended p below ∙ end)
    where
      both : (p : ℕ) (c : Bool) → T (has_end (when c (follow r p))) → (c ≡ true) × (has_end (follow r p) ≡ true)
      both p true t = (refl, T_true _ t)
      both p false t = absurd t

      inside : (p : ℕ) → has r p b ≡ true → Dec (p < count r) → p < count r
      inside p t (yes k) = k
      inside p t (no k) = absurd (true≢false (sym t ∙ has_beyond r moves.numbered p b k))
