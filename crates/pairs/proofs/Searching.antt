-- The search through the pairs keeps its invariant, and tells whether the test fails at a reached pair.
-- A turn takes the pending pairs of one row. They have their first leaf in common: they lead to the pairs of a leaf that follows it and a leaf that follows one of their second leaves.
-- Assumes nothing.
use mathlib.Core.Path.{◌≡◌, refl, sym, ap, ◌∙◌, subst, subst⁻¹}
use mathlib.Core.Logic.{◌↔◌}
use Prim.Native.Nat.{ℕ, suc, ◌+◌, ◌*◌, ◌/◌, ◌%◌, ◌≤◌, ◌<◌}
use mathlib.Core.Bool.{Bool, true, false, not, ◌&&◌}
use mathlib.Core.List.{List}
use native.Mathlib.Omega.{arith}
use lib.ListN.{get_or}
use lib.Dec.{T, not_T, eqb, eqb→eq, eqb_refl}
use lib.Bits.{bit_and}
use Rattle.theory.specs.Pattern.{Re, count}
use Rattle.theory.specs.Standing.{wanted, member}
use Rattle.theory.specs.Code.Follow.{follow}
use Rattle.theory.proofs.Tests.{and_split, and_join, either}
use Rattle.extends.specs.Code.Pairs.{Follows, Live, Reached, FailsPair}
use Rattle.extends.specs.Code.Closing.{Closing, Taken}
use Rattle.extends.specs.Code.Test.{first_pair, next_pair}
use Rattle.extends.proofs.Closing.{Led, closing_begin, closing_take, closing_done, taken_none, taken_take, taken_most}
use Rattle.extends.proofs.Test.{pair_left, pair_right, pair_below, found_reached, reached_below, reached_found}
use Rattle.words.specs.Sets.{has_bit, Parted}
use Rattle.words.proofs.Bits.{no_bit, no_more}
use Rattle.facts.specs.Sets.{Wants}
use Rattle.facts.proofs.Bits.{some_bit}
use Rattle.pairs.specs.Rows.{row_at, pending, MarkedBy, sharing}
use Rattle.pairs.specs.Steps.{Of, BeginsAt, StepsTo, FailsAt, Searching}
use Rattle.pairs.proofs.Marking.{area, reached_bit, pending_bit, in_area, area_drops, searching_mark, Emptied, emptied_reached, emptied_drops, emptied_waits}
use Rattle.pairs.proofs.Given.{any_below, live_below, live_test}

-- The test in the middle of three, and another in its place.
middle : (a b c b' : Bool) → T (a && (b && c)) → T b × (T b' → T (a && (b' && c)))
middle true true c b' t = (tt, λ u. and_join b' c u t)
middle true false c b' t = absurd t
middle false b c b' t = absurd t

-- A number with a bit is not 0.
bit_some : (z q : ℕ) → T (has_bit z q) → z ≡ 0 → ⊥
bit_some z q t e = subst T (no_bit q) (subst (λ n. T (has_bit n q)) e t)

module _ {r : Re} {shares sets : List ℕ} {ending : ℕ} (of : Of r shares sets ending) where
  -- At first the first pairs are owed.
  pub searching_begin : {s s' : List ℕ} {waiting : ℕ} → ((k : ℕ) → k < 128 → row_at s k ≡ 0) → MarkedBy (sharing shares (get_or sets 0 0) (get_or sets 0 0)) s 0 s' waiting → Searching r s' waiting 0
  searching_begin {s} z m =
      let no-reached = none (λ x. x / 64) (λ x l. omega arith) in
      searching_mark m
      (λ x. (λ (l, t). (l, subst⁻¹ T (first x l) t), λ (l, t). (l, subst T (first x l) t)))
      (closing_begin no-reached (none (λ x. 64 + x / 64) (λ x l. omega arith)))
      taken_none
      (λ p h. no_bit p ∙ ap (λ n. not (eqb n 0)) (sym (z (64 + p) (omega arith))))
      (λ x t. absurd (no-reached x t))
    where
      first : (x : ℕ) → x < 4096 → sharing shares (get_or sets 0 0) (get_or sets 0 0) (x / 64) (x % 64) ≡ first_pair r 64 x
      first x l = rw (of.first (x / 64) (omega arith), of.first (x % 64) (omega arith), of.shared (x / 64) (x % 64) (omega arith) (omega arith))

      none : (k : ℕ → ℕ) → ((x : ℕ) → x < 4096 → k x < 128) → (x : ℕ) → T (area (λ y. has_bit (row_at s (k y)) (y % 64)) x) → ⊥
      none k h x t = let (l, u) = (in_area (λ y. has_bit (row_at s (k y)) (y % 64)) x).0 t in bit_some (row_at s (k x)) (x % 64) u (z (k x) (h x l))

  module _ {s : List ℕ} {waiting d : ℕ} (g : Searching r s waiting d) where
    pending_reached : (x : ℕ) → T (pending s x) → Reached r (x / 64) (x % 64)
    pending_reached x t = found_reached r 64 (g.closing.sound x (g.closing.pending x t))

    leaves : (x : ℕ) → T (pending s x) → (x / 64 < count r) × (x % 64 < count r)
    leaves x t = reached_below r (count r) of.numbered (omega arith) (pending_reached x t)

    -- Where nothing is pending the search is done.
    none_pending : ((x : ℕ) → T (pending s x) → ⊥) → FailsPair r → ⊥
    none_pending n (p, q, h, e, k) =
        let x = p * 64 + q in
        let (u, v) = reached_below r 64 of.numbered of.most h in
        g.passed x ((closing_done g.closing (λ y o. o) n x).1 (reached_found r 64 of.numbered of.most h)) (n x) (rw (pair_left 64 p q v, pair_right 64 p q v) (e, k))

    pub searching_done : waiting ≡ 0 → FailsPair r → ⊥
    searching_done e = none_pending λ x t.
        let (l, u) = (in_area (pending_bit s) x).0 t in
        let b = not_T (eqb (row_at s (64 + x / 64)) 0) λ i. bit_some (row_at s (64 + x / 64)) (x % 64) u (eqb→eq (row_at s (64 + x / 64)) 0 i) in
        bit_some waiting (x / 64) (subst⁻¹ T (g.waits (x / 64) (omega arith)) b) e

    pub searching_full : 4096 ≤ d → FailsPair r → ⊥
    searching_full e = none_pending λ x t.
        let drops = area_drops (pending_bit s) (λ y. eqb y x) (λ y. pending_bit s y && not (eqb y x)) (λ y l. refl) in
        let c = taken_most (taken_take g.taken x (t, eqb_refl x) (g.closing.pending x t) t drops) 4096 (λ y i. ((in_area (reached_bit s) y).0 i).0) in
        omega arith

    module _ {p rest : ℕ} (parted : Parted waiting p rest) {to : ℕ} (w : Wants sets (row_at s (64 + p)) to) where
      abbrev Row : ℕ → Type 0
      Row x = T (pending s x) × T (eqb (x / 64) p)

      -- The pairs of the row are its bits.
      row_pair : (q : ℕ) → q < 64 → T (has_bit (row_at s (64 + p)) q) → (x : ℕ) × Row x × (x % 64 ≡ q)
      row_pair q h t =
          let i = pair_left 64 p q h in
          let j = pair_right 64 p q h in
          (p * 64 + q, ((in_area (pending_bit s) (p * 64 + q)).1 (pair_below 64 p q h parted.below, rw (i, j) t), rw i (eqb_refl p)), j)

      row_some : row_at s (64 + p) < 18446744073709551616 → (x : ℕ) × Row x
      row_some h =
          let is = some_bit (row_at s (64 + p)) 64 (λ q. no_more (row_at s (64 + p)) q h) in
          let (q, k, t) = (any_below (has_bit (row_at s (64 + p))) 64).0 (subst⁻¹ T (sym is ∙ sym (g.waits p parted.below) ∙ parted.there) tt) in
          let (x, i, j) = row_pair q k t in
          (x, i)

      row_bit : (x : ℕ) → Row x → T (has_bit (row_at s (64 + p)) (x % 64))
      row_bit x (t, i) = subst (λ n. T (has_bit (row_at s (64 + n)) (x % 64))) (eqb→eq (x / 64) p i) ((in_area (pending_bit s) x).0 t).1

      -- What its second leaves want next.
      row_wants : (c : ℕ) → c < 64 → T (has_bit to c) ↔ ((x : ℕ) × Row x × Follows r (x % 64) c)
      row_wants c h =
          let f : ℕ → Bool = λ q. has_bit (row_at s (64 + p)) q && has_bit (get_or sets (suc q) 0) c in (
            λ t. let (q, k, u) = (any_below f 64).0 (subst T (w.all c) t) in
                let (a, b) = and_split (has_bit (row_at s (64 + p)) q) (has_bit (get_or sets (suc q) 0) c) u in
                let (x, i, j) = row_pair q k a in
                (x, i, subst T (of.follows (x % 64) c (leaves x i.0).1 h) (rw j b)),
            λ (x, i, u).
                let b = subst⁻¹ T (of.follows (x % 64) c (leaves x i.0).1 h) u in
                subst⁻¹ T (w.all c) ((any_below f 64).1 (x % 64, omega arith, and_join (has_bit (row_at s (64 + p)) (x % 64)) (has_bit (get_or sets (suc (x % 64)) 0) c) (row_bit x i) b)),
          )

      -- What its pairs lead to.
      row_leads : (z : ℕ) → Led (StepsTo r) Row z ↔ ((z < 4096) × T (sharing shares (get_or sets (suc p) 0) to (z / 64) (z % 64)))
      row_leads z = (
        λ (x, i, (l, t)). let (f, k) = middle first (second x) shared (has_bit to (z % 64)) (subst⁻¹ T (step x i l) t) in (l, k ((row_wants (z % 64) (omega arith)).1 (x, i, f))),
        λ (l, t). let (x, i, f) = (row_wants (z % 64) (omega arith)).0 (middle first (has_bit to (z % 64)) shared false t).0 in
            (x, i, (l, subst T (step x i l) ((middle first (has_bit to (z % 64)) shared (second x) t).1 f))),
      )
        where
          first : Bool
          first = has_bit (get_or sets (suc p) 0) (z / 64)

          shared : Bool
          shared = has_bit (get_or shares (z / 64) 0) (z % 64)

          second : ℕ → Bool
          second x = member (z % 64) (wanted (follow r (x % 64)))

          step : (x : ℕ) → Row x → z < 4096 → (first && (second x && shared)) ≡ next_pair r 64 x z
          step x i l =
              rw (← eqb→eq (x / 64) p i.1, of.follows (x / 64) (z / 64) (leaves x i.0).0 (omega arith), of.shared (z / 64) (z % 64) (omega arith) (omega arith))

      module _ (l : ℕ) (live : (c : ℕ) → T (has_bit l c) ↔ Live r c) where
        abbrev fails_row : Bool
        fails_row = has_bit ending p && not (eqb (bit_and to l) 0)

        row_fails : T fails_row ↔ ((x : ℕ) × Row x × FailsAt r x)
        row_fails =
            let test = live_test of.numbered of.most l live to (has_bit ending p) in (
              λ t. let (e, (c, a, h)) = test.0 t in
                  let (x, i, f) = (row_wants c (live_below of.numbered of.most h)).0 a in
                  (x, i, (subst T (of.ended (x / 64) (leaves x i.0).0) (rw (eqb→eq (x / 64) p i.1) e), (c, f, h))),
              λ (x, i, (e, (c, f, h))).
                  test.1 (rw (eqb→eq (x / 64) p i.1) at (subst⁻¹ T (of.ended (x / 64) (leaves x i.0).0) e), (c, (row_wants c (live_below of.numbered of.most h)).1 (x, i, f), h)),
            )

        -- The test fails at one of the pairs of the row,
        pub searching_fails : fails_row ≡ true → FailsPair r
        searching_fails e = let (x, i, (k, n)) = row_fails.0 (subst⁻¹ T e tt) in (x / 64, x % 64, pending_reached x i.0, k, n)

        -- Or it passes, and they are taken.
        pub searching_turn : {s₁ s₂ : List ℕ} {waiting₂ : ℕ} → row_at s (64 + p) < 18446744073709551616 → fails_row ≡ false → Emptied p s s₁
            → MarkedBy (sharing shares (get_or sets (suc p) 0) to) s₁ rest s₂ waiting₂ → Searching r s₂ waiting₂ (suc d)
        searching_turn {s₁} small e emptied m =
            let drops = emptied_drops emptied in
            let same = emptied_reached emptied in
            let (x, i) = row_some small in
            searching_mark m row_leads
            (subst (λ M. Closing (BeginsAt r) (StepsTo r) M (pending s₁) (Led (StepsTo r) Row)) same (closing_take g.closing (λ y o. o) (λ y k. k.0) drops))
            (subst (λ M. Taken M (pending s₁) (suc d)) same (taken_take g.taken x i (g.closing.pending x i.0) i.0 drops))
            (emptied_waits emptied parted g.waits)
            (λ y t n k. g.passed y (subst⁻¹ (λ M. T (M y)) same t) (λ u. either (λ v. subst T e (row_fails.1 (y, v, k))) n (drops.cases y u)) k)
