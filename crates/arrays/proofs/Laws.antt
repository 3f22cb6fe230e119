-- For the layers above: the masks say which leaves of the decoded pattern hold a byte.
-- Assumes nothing.
use mathlib.Core.Path.{◌≡◌, sym, ap, ◌∙◌, subst}
use Prim.Native.Nat.{ℕ, zero, suc, ◌+◌, ◌≤◌, ◌<◌}
use mathlib.Core.Bool.{Bool, true, false, ◌&&◌, cond}
use mathlib.Core.List.{List}
use native.Mathlib.Omega.{arith}
use native.Mathlib.Decide.{dec_lt}
use lib.ListN.{get_or}
use lib.Dec.{T, eqb, eqb→eq, eqb_refl, ltb, lt→ltb}
use Rattle.theory.specs.Pattern.{Manner, Re, empty, leaf, seq, alt, star, field, count, Numbered, has}
use Rattle.theory.proofs.Tests.{T_true, same_test, or_left, or_right, or_cases, either}
use Rattle.theory.proofs.Equations.{Leaf, seq_left, seq_right, alt_left, alt_right, under, inside}
use Rattle.grammar.specs.Code.Codes.{PartKind, anEmpty, aSequence, anAlternation, a_star, a_field, aLeaf, part_kind}
use Rattle.arrays.specs.declared.Pattern.{Pattern}
use Rattle.words.specs.Sets.{has_bit}
use Rattle.arrays.specs.Decoded.{leaf_of, middle, part_of, part, decode}

-- A byte that the mask of a leaf has.
abbrev held : List ℕ → ℕ → ℕ → Bool
held masks p b = ltb b 256 && has_bit (get_or masks b 0) p

-- The set of each leaf is by the masks.
data ByMasks (masks : List ℕ) : Re → Type 0 where
  no_leaf : ByMasks masks empty
  one : {p : ℕ} → ByMasks masks (leaf p (held masks p))
  two_seq : {x y : Re} → ByMasks masks x → ByMasks masks y → ByMasks masks (seq x y)
  two_alt : {x y : Re} → ByMasks masks x → ByMasks masks y → ByMasks masks (alt x y)
  below : {how : Manner} {x : Re} → ByMasks masks x → ByMasks masks (star how x)
  within : {f : ℕ} {x : Re} → ByMasks masks x → ByMasks masks (field f x)

leaf_by_lem : (masks : List ℕ) (p : ℕ) → ByMasks masks (leaf_of masks p)
leaf_by_lem masks p = go (ltb p 64)
  where
    go : (c : Bool) → ByMasks masks (cond c (leaf p (held masks p)) empty)
    go true = one
    go false = no_leaf

part_of_by : (masks : List ℕ) (k : PartKind) {w l r : Re} → ByMasks masks w → ByMasks masks l → ByMasks masks r → ByMasks masks (part_of masks k w l r)
part_of_by masks anEmpty a b c = no_leaf
part_of_by masks aSequence a b c = two_seq b c
part_of_by masks anAlternation a b c = two_alt b c
part_of_by masks (a_star how) a b c = below a
part_of_by masks (a_field f) a b c = within a
part_of_by masks (aLeaf p) a b c = leaf_by_lem masks p

part_by : (f : ℕ) (kinds sizes masks : List ℕ) (low end : ℕ) → ByMasks masks (part f kinds sizes masks low end)
unfolding part
part_by zero kinds sizes masks low end = no_leaf
part_by (suc f) kinds sizes masks low zero = no_leaf
part_by (suc f) kinds sizes masks low (suc last) =
    go (ltb last low) (part_of_by masks (part_kind (get_or kinds last 0)) (part_by f kinds sizes masks low last) (part_by f kinds sizes masks low (middle sizes low last)) (part_by f kinds sizes masks (middle sizes low last) last))
  where
    go : (c : Bool) {r : Re} → ByMasks masks r → ByMasks masks (cond c empty r)
    go true h = no_leaf
    go false h = h

both : (a c : Bool) → T (a && c) → T a × T c
both true c t = (tt, t)
both false c t = absurd t

module _ {masks : List ℕ} (p b : ℕ) where
  has_held : {r : Re} → ByMasks masks r → T (has r p b) → T (held masks p b)
  unfolding has
  has_held no_leaf t = absurd t
  has_held (one {p = q}) t = let (e, h) = both (eqb p q) (held masks q b) t in subst (λ k. T (held masks k b)) (sym (eqb→eq p q e)) h
  has_held (two_seq {x = x} {y = y} a c) t = either (λ l. has_held a l) (λ l. has_held c l) (or_cases (has x p b) (has y p b) t)
  has_held (two_alt {x = x} {y = y} a c) t = either (λ l. has_held a l) (λ l. has_held c l) (or_cases (has x p b) (has y p b) t)
  has_held (below a) t = has_held a t
  has_held (within a) t = has_held a t

  held_has : {r : Re} → ByMasks masks r → Leaf r p → T (held masks p b) → T (has r p b)
  unfolding has
  held_has no_leaf l t = elim l [ ]
  held_has one Leaf.here t = rw (T_true (eqb p p) (eqb_refl p)) t
  held_has (two_seq {x = x} {y = y} a c) (seq_left l) t = or_left (has x p b) (has y p b) (held_has a l t)
  held_has (two_seq {x = x} {y = y} a c) (seq_right l) t = or_right (has x p b) (has y p b) (held_has c l t)
  held_has (two_alt {x = x} {y = y} a c) (alt_left l) t = or_left (has x p b) (has y p b) (held_has a l t)
  held_has (two_alt {x = x} {y = y} a c) (alt_right l) t = or_right (has x p b) (has y p b) (held_has c l t)
  held_has (below a) (under l) t = held_has a l t
  held_has (within a) (inside l) t = held_has a l t

-- A part numbered from n has each leaf from n on, as many as it has.
numbered_leaf : (r : Re) (n p : ℕ) → Numbered n r → n ≤ p → p < n + count r → Leaf r p
unfolding Numbered count
numbered_leaf empty n p d g h = absurd (omega arith)
numbered_leaf (leaf q s) n p d g h = let e : q ≡ p = omega arith in subst (λ k. Leaf (leaf q s) k) e Leaf.here
numbered_leaf (seq x y) n p d g h =
    elim (dec_lt p (n + count x)) [
      | yes l ↦ seq_left (numbered_leaf x n p d.0 g l)
      | no l ↦ seq_right (numbered_leaf y (n + count x) p d.1 (omega arith) (omega arith))
    ]
numbered_leaf (alt x y) n p d g h =
    elim (dec_lt p (n + count x)) [
      | yes l ↦ alt_left (numbered_leaf x n p d.0 g l)
      | no l ↦ alt_right (numbered_leaf y (n + count x) p d.1 (omega arith) (omega arith))
    ]
numbered_leaf (star how x) n p d g h = under (numbered_leaf x n p d g h)
numbered_leaf (field f x) n p d g h = inside (numbered_leaf x n p d g h)

-- THE MASKS ARE THE LEAVES' SETS.
pub masks_hold : (x : Pattern) → Numbered 0 (decode x) → (b p : ℕ) → b < 256 → p < count (decode x) → has_bit (get_or x.masks b 0) p ≡ has (decode x) p b
unfolding decode
masks_hold x d b p h l =
    let by = part_by x.len x.kinds x.sizes x.masks 0 x.len in
    let here : Leaf (decode x) p = numbered_leaf (decode x) 0 p d (omega arith) (omega arith) in
    let same : has (decode x) p b ≡ held x.masks p b = same_test (has (decode x) p b) (held x.masks p b) (has_held p b by) (held_has p b by here) in
    sym (same ∙ ap (λ c. c && has_bit (get_or x.masks b 0) p) (T_true (ltb b 256) (lt→ltb b 256 h)))
