-- What can follow a leaf of a part, by the kind of the part's last place.
-- Assumes nothing.
use mathlib.Core.Path.{◌≡◌, refl, ◌∙◌}
use Prim.Native.Nat.{ℕ, zero, suc, ◌+◌, ◌-◌, ◌^◌, ◌≤◌, ◌<◌}
use mathlib.Core.Bool.{Bool, true, false, cond}
use mathlib.Core.List.{List, [], ◌++◌, append_assoc, append-nil}
use native.Mathlib.Omega.{arith}
use lib.ListN.{get_or}
use lib.Dec.{ltb}
use borrow.Author.Tests.{lt-ltb, ltb-false}
use Rattle.theory.specs.Pattern.{Re, empty, leaf, star}
use Rattle.traces.specs.Traces.{Carried}
use Rattle.traces.specs.Code.Pass.{Sets, neither}
use Rattle.traces.specs.Code.Sets.{joined, closing, into, after}
use Rattle.traces.proofs.Sets.{joined_neither, after_empty, after_leaf, after_other, after_seq, after_alt, after_star, after_field}
use Rattle.grammar.specs.Brackets.{max_fields}
use Rattle.grammar.specs.Code.Codes.{star_kind, first_field, first_leaf, part_kind}
use Rattle.grammar.proofs.Codes.{kind_star, kind_field, kind_leaf, Kinded, is_empty, is_sequence, is_alternation, is_star, is_field, is_leaf, kinded}
use Rattle.arrays.specs.Decoded.{leaf_of, middle, part, part_of}
use Rattle.follow.specs.declared.outcomes.Outcomes.{Outcomes}
use Rattle.follow.specs.declared.Part.{Part}
use Rattle.follow.specs.Outcomes.{Lists, Joined}
use Rattle.follow.specs.Parts.{within, Begins, Nexts, Stands}
use Rattle.follow.proofs.Masks.{shows_neither}
use Rattle.follow.proofs.Parts.{by_last, part_at, part_some, field_part, leaf_part, star_kind_lem}
use Rattle.follow.proofs.Begins.{last_kind, closed_lists}

-- Nothing follows the leaf p in a part that does not have it.
abbrev Lacking : ℕ → Re → Type 0
Lacking p x = (m : List (Carried Sets)) → after m x p ≡ []

other_leaf : (masks : List ℕ) (p q : ℕ) → (p ≡ q → ⊥) → Lacking p (leaf_of masks q)
other_leaf masks p q n m = go _ (ltb q 64)
  where
    go : (s : ℕ → Bool) (c : Bool) → after m (cond c (leaf q s) empty) p ≡ []
    go s true = after_other m p q s n
    go s false = after_empty m p

absent_parts : (masks : List ℕ) (p k : ℕ) (w x y : Re) → (k ≡ first_leaf + p → ⊥) → Lacking p w → Lacking p x → Lacking p y → Lacking p (part_of masks (part_kind k) w x y)
absent_parts masks p k w x y n ew ex ey m = go (kinded k) n
  where
    go : {k : ℕ} → Kinded k → (k ≡ first_leaf + p → ⊥) → after m (part_of masks (part_kind k) w x y) p ≡ []
    go is_empty n = after_empty m p
    go is_sequence n = after_seq m p x y ∙ rw (ex (into m neither y), ey m)
    go is_alternation n = after_alt m p x y ∙ rw (ex m, ey m)
    go (is_star how) n = rw (kind_star how) (after_star m p how w ∙ ew (into m neither (star how w)))
    go (is_field i h) n = rw (kind_field i h) (after_field m p (suc i) w ∙ ew (joined (closing (suc i)) m))
    go (is_leaf q) n = rw (kind_leaf q) (other_leaf masks p q (λ e. n (omega arith)) m)

absent : (kinds sizes masks : List ℕ) (p f low end : ℕ) → (Stands kinds low end (first_leaf + p) → ⊥) → Lacking p (part f kinds sizes masks low end)
unfolding part
absent kinds sizes masks p zero low end n m = after_empty m p
absent kinds sizes masks p (suc f) low zero n m = after_empty m p
absent kinds sizes masks p (suc f) low (suc last) n m =
    go (ltb last low) refl
    (absent kinds sizes masks p f low last λ s. n (s.0, s.1, omega arith, s.3))
    (λ h. absent kinds sizes masks p f low (middle sizes low last) λ s. n (s.0, s.1, omega arith, s.3))
    (λ h. absent kinds sizes masks p f (middle sizes low last) last λ s. n (s.0, omega arith, omega arith, s.3))
  where
    go : (c : Bool) → ltb last low ≡ c
        → Lacking p (part f kinds sizes masks low last)
        → (low ≤ last → Lacking p (part f kinds sizes masks low (middle sizes low last)))
        → (low ≤ last → Lacking p (part f kinds sizes masks (middle sizes low last) last))
        → after m (cond c empty (by_last kinds sizes masks low f last)) p ≡ []
    go true e w x y = after_empty m p
    go false e w x y =
        let h = ltb-false last low e in
        absent_parts masks p (get_or kinds last 0) _ _ _ (λ k. n (last, h, omega arith, k)) w (x h) (y h) m

module _ {x : Part} (p : ℕ) {rest out : Outcomes} where
  -- A part without the leaf adds nothing.
  pub after_absent : (Stands x.kinds.now x.low x.end (first_leaf + p) → ⊥) → Nexts p x rest out out
  after_absent n = record { collects = λ m l a o masks f i. rw (absent x.kinds.now x.sizes.now masks p f x.low x.end n m, append-nil l) o }

  module _ (h : x.low < x.end) where
    by_last_lem : {r : Outcomes} → ((m l : List (Carried Sets)) → Lists rest m → Lists out l → (masks : List ℕ) (f : ℕ) → x.end ≤ x.low + suc f → Lists r (l ++ after m (by_last x.kinds.now x.sizes.now masks x.low f (x.end - 1)) p))
        → Nexts p x rest out r
    by_last_lem {r} k = record { collects = λ m l a o masks. part_some x.kinds.now x.sizes.now masks x.low (λ y. Lists r (l ++ after m y p)) x.end h (k m l a o masks) }

    pub after_here : {r : Outcomes} → p < 64 → last_kind x ≡ first_leaf + p → Joined out rest 0 r → Nexts p x rest out r
    after_here k e j =
        let d : last_kind x - first_leaf ≡ p = omega arith in
        by_last_lem λ m l a o masks f g.
        rw (leaf_part masks (last_kind x) _ _ _ (omega arith), d, lt-ltb p 64 k, after_leaf m p _) (rw (joined_neither m) at (j.lists l m neither o a shows_neither))

    pub after_elsewhere : first_leaf ≤ last_kind x → (last_kind x ≡ first_leaf + p → ⊥) → Nexts p x rest out out
    after_elsewhere k n =
        by_last_lem λ m l a o masks f g.
        rw (leaf_part masks (last_kind x) _ _ _ k, other_leaf masks p (last_kind x - first_leaf) (λ e. n (omega arith)) m, append-nil l) o

    pub after_nothing : last_kind x ≡ 0 → Nexts p x rest out out
    after_nothing e = by_last_lem λ m l a o masks f g. rw (e, after_empty m p, append-nil l) o

    pub after_within : {none y r : Outcomes} → first_field ≤ last_kind x → last_kind x < first_leaf → Lists none [] → Joined none rest (2 ^ (max_fields + (last_kind x - first_field))) y
        → Nexts p (within x x.low (x.end - 1)) y out r → Nexts p x rest out r
    after_within i k blank j inner =
        let n = last_kind x - first_field in
        by_last_lem λ m l a o masks f g.
        rw (field_part masks (last_kind x) _ _ _ i k, after_field m p (suc n) _)
        (inner.collects (joined (closing (suc n)) m) l (closed_lists n (omega arith) blank j m a) o masks f (omega arith))

    pub after_again : {none y r : Outcomes} → star_kind ≤ last_kind x → last_kind x < first_field → Lists none [] → Begins x 0 rest none y
        → Nexts p (within x x.low (x.end - 1)) y out r → Nexts p x rest out r
    after_again {y = y} i k blank again turn =
        let (how, e) = star_kind_lem (last_kind x) i k in
        by_last_lem λ m l a o masks f g.
        let v = part f x.kinds.now x.sizes.now masks x.low (x.end - 1) in
        let whole : Lists y (into m neither (star how v)) = rw (part_at x.kinds.now x.sizes.now masks x.low f x.end h, e) at (again.collects neither shows_neither m [] a blank masks (suc f) g) in
        rw (e, after_star m p how v) (turn.collects (into m neither (star how v)) l whole o masks f (omega arith))

    module _ {mid : ℕ} (at : mid ≡ middle x.sizes.now x.low (x.end - 1)) where
      pub after_both : {y r : Outcomes} → last_kind x ≡ 2 → Nexts p (within x x.low mid) rest out y → Nexts p (within x mid (x.end - 1)) rest y r → Nexts p x rest out r
      after_both e left right =
          by_last_lem λ m l a o masks f g.
          let v = part f x.kinds.now x.sizes.now masks x.low mid in
          let w = part f x.kinds.now x.sizes.now masks mid (x.end - 1) in
          rw (e, ← at, after_alt m p v w, ← append_assoc l (after m v p) (after m w p))
          (right.collects m (l ++ after m v p) a (left.collects m l a o masks f (omega arith)) masks f (omega arith))

      pub after_right : {r : Outcomes} → last_kind x ≡ 1 → (Stands x.kinds.now x.low mid (first_leaf + p) → ⊥) → Nexts p (within x mid (x.end - 1)) rest out r → Nexts p x rest out r
      after_right e n right =
          by_last_lem λ m l a o masks f g.
          let v = part f x.kinds.now x.sizes.now masks x.low mid in
          let w = part f x.kinds.now x.sizes.now masks mid (x.end - 1) in
          rw (e, ← at, after_seq m p v w, absent x.kinds.now x.sizes.now masks p f x.low mid n (into m neither w)) (right.collects m l a o masks f (omega arith))

      pub after_left : {none y u r : Outcomes} → last_kind x ≡ 1 → Lists none [] → Begins (within x mid (x.end - 1)) 0 rest none y
          → Nexts p (within x x.low mid) y out u → Nexts p (within x mid (x.end - 1)) rest u r → Nexts p x rest out r
      after_left e blank next left right =
          by_last_lem λ m l a o masks f g.
          let v = part f x.kinds.now x.sizes.now masks x.low mid in
          let w = part f x.kinds.now x.sizes.now masks mid (x.end - 1) in
          let n = into m neither w in
          let front = left.collects n l (next.collects neither shows_neither m [] a blank masks f (omega arith)) o masks f (omega arith) in
          rw (e, ← at, after_seq m p v w, ← append_assoc l (after n v p) (after m w p)) (right.collects m (l ++ after n v p) a front masks f (omega arith))
