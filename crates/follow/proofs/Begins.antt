-- What a part can begin with, by the kind of its last place.
-- Assumes nothing.
use mathlib.Core.Path.{◌≡◌, refl, ap, ◌∙◌}
use Prim.Native.Nat.{ℕ, suc, ◌+◌, ◌-◌, ◌^◌, ◌≤◌, ◌<◌}
use mathlib.Core.Bool.{Bool, true, false, cond}
use mathlib.Core.List.{List, [], ◌++◌, append_assoc}
use native.Mathlib.Omega.{arith}
use lib.ListN.{get_or}
use lib.Dec.{eqb}
use lib.Bits.{bit_or}
use borrow.Author.Tests.{lt-ltb, le-ltb}
use Rattle.theory.specs.Pattern.{eager, lazy, Re, empty, alt}
use Rattle.traces.specs.Traces.{Carried, opened, wants}
use Rattle.traces.specs.Code.Pass.{Sets, neither, note}
use Rattle.traces.specs.Code.Sets.{joined, closing, into}
use Rattle.traces.proofs.Sets.{into_empty, into_leaf, into_seq, into_alt, into_star, into_field}
use Rattle.grammar.specs.Brackets.{max_fields}
use Rattle.grammar.specs.Code.Codes.{alternation_kind, star_kind, lazy_star_kind, first_field, first_leaf}
use Rattle.grammar.proofs.Codes.{Kinded, is_empty, is_sequence, is_alternation, is_star, is_field, is_leaf, kinded}
use Rattle.traces.specs.Code.Marks.{Shows}
use Rattle.arrays.specs.Decoded.{middle, part}
use Rattle.follow.specs.declared.outcomes.Outcomes.{Outcomes}
use Rattle.follow.specs.declared.Part.{Part}
use Rattle.follow.specs.Outcomes.{Lists, Added, Joined}
use Rattle.follow.specs.Parts.{within, Begins, parting}
use Rattle.follow.proofs.Masks.{shows_neither, shows_opened, shows_closing}
use Rattle.follow.proofs.Parts.{of_kind, by_last, part_none, part_some, field_part, leaf_part}

-- The kind of the last place.
abbrev pub last_kind : Part → ℕ
last_kind x = get_or x.kinds.now (x.end - 1) 0

-- The second of the two parts begins within the part, at the latest at its last place.
pub parting_within : (x : Part) (kind : ℕ) {mid : ℕ} → x.low < x.end → mid ≡ parting kind x.sizes.now x.low (x.end - 1) → (x.low ≤ mid) × (mid < x.end)
parting_within x kind h at = rw at (go (eqb kind star_kind) (eqb kind lazy_star_kind))
  where
    go : (c d : Bool) → let m = cond c (x.end - 1) (cond d x.low (middle x.sizes.now x.low (x.end - 1))) in (x.low ≤ m) × (m < x.end)
    go true d = (omega arith, omega arith)
    go false true = (omega arith, omega arith)
    go false false = (omega arith, omega arith)

-- The end alone.
nothing : {b : ℕ} {rest out r : Outcomes} → Joined out rest b r → (s : Sets) → Shows b s → (m l : List (Carried Sets)) → Lists rest m → Lists out l → Lists r (l ++ into m s empty)
nothing j s d m l a o = rw (into_empty m s) (j.lists l m s o a d)

-- The field n + 1 closed after a part: what the part goes on with.
pub closed_lists : (n : ℕ) → n < max_fields → {rest none y : Outcomes} → Lists none [] → Joined none rest (2 ^ (max_fields + n)) y → (m : List (Carried Sets)) → Lists rest m → Lists y (joined (closing (suc n)) m)
closed_lists n h blank j m a = j.lists [] m (closing (suc n)) blank a (shows_closing n h)

-- A part that goes one way or another begins as the alternation of the two. A star is its turn or nothing.
module _ (kinds sizes masks : List ℕ) (low f last : ℕ) where
  abbrev ways : ℕ → Re
  ways mid = alt (part f kinds sizes masks low mid) (part f kinds sizes masks mid last)

  into_choice : (m : List (Carried Sets)) (s : Sets) {k : ℕ} → Kinded k → alternation_kind ≤ k → k < first_field
      → into m s (of_kind kinds sizes masks low k f last) ≡ into m s (ways (parting k sizes low last))
  into_choice m s is_empty i h = absurd (omega arith)
  into_choice m s is_sequence i h = absurd (omega arith)
  into_choice m s is_alternation i h = refl
  into_choice m s (is_star eager) i h = rw (part_none kinds sizes masks last f last (omega arith)) (into_star m s eager _)
  into_choice m s (is_star lazy) i h = rw (part_none kinds sizes masks low f low (omega arith)) (into_star m s lazy _)
  into_choice m s (is_field n l) i h = absurd (omega arith)
  into_choice m s (is_leaf q) i h = absurd (omega arith)

module _ {x : Part} {b : ℕ} {rest out r : Outcomes} where
  pub closure_none : x.end ≤ x.low → Joined out rest b r → Begins x b rest out r
  closure_none h j = record { collects = λ s d m l a o masks f g. rw (part_none x.kinds.now x.sizes.now masks x.low f x.end h) (nothing j s d m l a o) }

  module _ (h : x.low < x.end) where
    -- By what the parts of the part begin with.
    by_last_lem : ((s : Sets) → Shows b s → (m l : List (Carried Sets)) → Lists rest m → Lists out l → (masks : List ℕ) (f : ℕ) → x.end ≤ x.low + suc f → Lists r (l ++ into m s (by_last x.kinds.now x.sizes.now masks x.low f (x.end - 1))))
        → Begins x b rest out r
    by_last_lem k = record { collects = λ s d m l a o masks. part_some x.kinds.now x.sizes.now masks x.low (λ y. Lists r (l ++ into m s y)) x.end h (k s d m l a o masks) }

    pub closure_empty : last_kind x ≡ 0 → Joined out rest b r → Begins x b rest out r
    closure_empty e j = by_last_lem λ s d m l a o masks f g. rw e (nothing j s d m l a o)

    pub closure_beyond : first_leaf + 63 < last_kind x → Joined out rest b r → Begins x b rest out r
    closure_beyond k j =
        by_last_lem λ s d m l a o masks f g.
        rw (leaf_part masks (last_kind x) _ _ _ (omega arith), le-ltb (last_kind x - first_leaf) 64 (omega arith)) (nothing j s d m l a o)

    pub closure_leaf : first_leaf ≤ last_kind x → last_kind x ≤ first_leaf + 63 → Added out (last_kind x - first_leaf + 1) b r → Begins x b rest out r
    closure_leaf k n j =
        by_last_lem λ s d m l a o masks f g.
        let p = last_kind x - first_leaf in
        rw (leaf_part masks (last_kind x) _ _ _ k, lt-ltb p 64 (omega arith), into_leaf m s p _) (j.lists l (wants p s) o (omega arith) d)

    pub closure_field : {none y : Outcomes} → first_field ≤ last_kind x → last_kind x < first_leaf → Lists none [] → Joined none rest (2 ^ (max_fields + (last_kind x - first_field))) y
        → Begins (within x x.low (x.end - 1)) (bit_or (2 ^ (last_kind x - first_field)) b) y out r → Begins x b rest out r
    closure_field i k blank j inner =
        let n = last_kind x - first_field in
        by_last_lem λ s d m l a o masks f g.
        rw (field_part masks (last_kind x) _ _ _ i k, into_field m s (suc n) _)
        (inner.collects (note (opened (suc n) 0) s) (shows_opened n (omega arith) d) (joined (closing (suc n)) m) l (closed_lists n (omega arith) blank j m a) o masks f (omega arith))

    module _ {mid : ℕ} (at : mid ≡ parting (last_kind x) x.sizes.now x.low (x.end - 1)) where
      pub closure_seq : {none y : Outcomes} → last_kind x ≡ 1 → Lists none [] → Begins (within x mid (x.end - 1)) 0 rest none y → Begins (within x x.low mid) b y out r → Begins x b rest out r
      closure_seq e blank right left =
          let here : mid ≡ middle x.sizes.now x.low (x.end - 1) = at ∙ ap (λ k. parting k x.sizes.now x.low (x.end - 1)) e in
          by_last_lem λ s d m l a o masks f g.
          let y = part f x.kinds.now x.sizes.now masks x.low mid in
          let z = part f x.kinds.now x.sizes.now masks mid (x.end - 1) in
          rw (e, ← here, into_seq m s y z) (left.collects s d (into m neither z) l (right.collects neither shows_neither m [] a blank masks f (omega arith)) o masks f (omega arith))

      pub closure_choice : {y : Outcomes} → alternation_kind ≤ last_kind x → last_kind x < first_field
          → Begins (within x x.low mid) b rest out y → Begins (within x mid (x.end - 1)) b rest y r → Begins x b rest out r
      closure_choice i k left right =
          let w = parting_within x (last_kind x) h at in
          by_last_lem λ s d m l a o masks f g.
          let y = part f x.kinds.now x.sizes.now masks x.low mid in
          let z = part f x.kinds.now x.sizes.now masks mid (x.end - 1) in
          rw (into_choice x.kinds.now x.sizes.now masks x.low f (x.end - 1) m s (kinded (last_kind x)) i k, ← at, into_alt m s y z, ← append_assoc l (into m s y) (into m s z))
          (right.collects s d m (l ++ into m s y) a (left.collects s d m l a o masks f (omega (arith, w.1))) masks f (omega (arith, w.0)))
