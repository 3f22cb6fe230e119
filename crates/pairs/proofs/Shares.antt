-- The leaves that share a byte: the loop over the leaves of one byte's mask, and the loop over the bytes.
-- A leaf taken from the mask gets all of it, and is then none of those left; a byte more is one more test of the list of bytes.
-- Assumes nothing.
use mathlib.Core.Path.{◌≡◌, refl, sym, ap, ◌∙◌}
use mathlib.Core.Bool.{Bool, true, false, ◌&&◌, ◌||◌}
use mathlib.Core.List.{List, [], ◌∷◌, ◌++◌}
use Prim.Native.Nat.{ℕ, ◌+◌, ◌<◌}
use native.Mathlib.Omega.{arith}
use native.Mathlib.Numerals.{add-one}
use native.Mathlib.Decide.{ℕ_discrete}
use lib.ListN.{length, get_or, set, replicate, length-set, length-replicate, get_or-replicate}
use lib.Seq.{get_or-set_same, get_or-set_other}
use lib.Bits.{bit_or}
use borrow.Author.Tests.{eq-eqb, ne_eqb}
use Rattle.theory.specs.Standing.{from}
use Rattle.theory.specs.Code.Members.{any}
use Rattle.theory.proofs.Tests.{or_assoc, or_false, and_true, and_false}
use Rattle.theory.proofs.Members.{from_snoc}
use Rattle.words.specs.Sets.{has_bit, Parted}
use Rattle.words.proofs.Bits.{no_bit, or_bit}
use Rattle.pairs.specs.Leaves.{Shared, Shares}

-- The loop over the leaves of a mask: `new`, and what the leaves of `rest` share yet, is all that they share.
pub record Sharing (old : List ℕ) (mask rest : ℕ) (new : List ℕ) : Type 0 where
  pub size : length new ≡ 64
  pub bits : (p q : ℕ) → p < 64 → (has_bit (get_or new p 0) q || (has_bit rest p && has_bit mask q)) ≡ (has_bit (get_or old p 0) q || (has_bit mask p && has_bit mask q))

pub sharing_begin : (old : List ℕ) (mask : ℕ) → length old ≡ 64 → Sharing old mask mask old
sharing_begin old mask size = record { size = size; bits = λ p q h. refl }

pub sharing_turn : (old new : List ℕ) (mask x p rest : ℕ) → Parted x p rest → Sharing old mask x new → Sharing old mask rest (set new p (bit_or (get_or new p 0) mask))
sharing_turn old new mask x p rest parted so = record { size = length-set new p both ∙ so.size; bits = λ i q h. go i q h (ℕ_discrete i p) }
  where
    both : ℕ
    both = bit_or (get_or new p 0) mask

    go : (i q : ℕ) → i < 64 → Dec (i ≡ p) → (has_bit (get_or (set new p both) i 0) q || (has_bit rest i && has_bit mask q)) ≡ (has_bit (get_or old i 0) q || (has_bit mask i && has_bit mask q))
    go i q h (yes e) =
        rw (e, get_or-set_same new p both 0 (omega (arith, parted.below, so.size)), or_bit (get_or new p 0) mask q, parted.others p, eq-eqb p p refl, and_false (has_bit x p), or_false)
        (rw parted.there at (so.bits p q parted.below))
    go i q h (no n) = rw (get_or-set_other new p i both 0 n, parted.others i, ne_eqb i p n, and_true (has_bit x i)) (so.bits i q h)

pub sharing_end : (old new : List ℕ) (mask rest : ℕ) → rest ≡ 0 → Sharing old mask rest new → Shared old mask new
sharing_end old new mask rest e so = record { size = so.size; bits = λ p q h. rw (e, no_bit p, or_false (has_bit (get_or new p 0) q)) at (so.bits p q h) }

-- A mask that is shared once more says nothing new; neither does one without leaves.
pub shared_again : {old new : List ℕ} (mask : ℕ) → Shared old mask new → Shared new mask new
shared_again {old} mask here = record {
  size = here.size;
  bits = λ p q h. let both = has_bit mask p && has_bit mask q in rw (here.bits p q h, or_assoc (has_bit (get_or old p 0) q) both both, or_same both);
}
  where
    or_same : (a : Bool) → a || a ≡ a
    or_same true = refl
    or_same false = refl

pub shared_none : (s : List ℕ) → length s ≡ 64 → Shared s 0 s
shared_none s size = record { size = size; bits = λ p q h. rw (no_bit p) (sym (or_false (has_bit (get_or s p 0) q))) }

-- The loop over the bytes: what the first b of them have leaves share.
pub record SharesTo (masks : List ℕ) (b : ℕ) (shares : List ℕ) : Type 0 where
  pub size : length shares ≡ 64
  pub bits : (p q : ℕ) → p < 64 → has_bit (get_or shares p 0) q ≡ any (λ c. has_bit (get_or masks c 0) p && has_bit (get_or masks c 0) q) (from 0 b)

pub shares_none : (masks : List ℕ) → SharesTo masks 0 (replicate 64 0)
shares_none masks = record { size = length-replicate {A = ℕ} 64 0; bits = λ p q h. rw (get_or-replicate {A = ℕ} 64 p 0 0 h) (no_bit q) }

any_append : (f : ℕ → Bool) (l m : List ℕ) → any f (l ++ m) ≡ (any f l || any f m)
any_append f [] m = refl
any_append f (p ∷ l) m = rw (any_append f l m, or_assoc)

any_next : (f : ℕ → Bool) (b : ℕ) → any f (from 0 (b + 1)) ≡ (any f (from 0 b) || f b)
any_next f b =
    let e : 0 + b ≡ b = omega arith in
    ap (any f) (ap (from 0) (add-one b) ∙ from_snoc 0 b) ∙ any_append f (from 0 b) ((0 + b) ∷ []) ∙ rw (or_false, e)

pub shares_more : (masks old new : List ℕ) (b : ℕ) → SharesTo masks b old → Shared old (get_or masks b 0) new → SharesTo masks (b + 1) new
shares_more masks old new b so here = record {
  size = here.size;
  bits = λ p q h. here.bits p q h ∙ rw (so.bits p q h) (sym (any_next (λ c. has_bit (get_or masks c 0) p && has_bit (get_or masks c 0) q) b));
}

pub shares_all : (masks shares : List ℕ) (b : ℕ) → b ≡ 256 → SharesTo masks b shares → Shares masks shares
shares_all masks shares b e so = record { size = so.size; bits = λ p q h. rw e at (so.bits p q h) }
