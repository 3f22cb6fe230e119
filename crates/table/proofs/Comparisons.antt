-- A comparison of two records: its end, byte by byte, and that it finds no unequal byte just where the records are equal before and after the origin fields.
-- Assumes nothing.
use mathlib.Core.Path.{◌≡◌, refl, sym, ap, ap₂, ◌∙◌, subst}
use mathlib.Core.Logic.{◌⊎◌, inl, inr}
use Prim.Native.Nat.{ℕ, zero, suc, ◌+◌, ◌-◌, ◌≤◌, ◌<◌, min}
use mathlib.Core.Bool.{true, false, true≢false}
use mathlib.Core.List.{List}
use native.Mathlib.Omega.{arith}
use native.Mathlib.Nat.{sub-zero}
use native.Mathlib.Decide.{ℕ_discrete, dec_lt}
use borrow.Author.Tests.{eq-eqb, ne_eqb, lt-ltb, le-ltb, eqb-true, le-leb}
use lib.Dec.{leb, leb→le}
use lib.ListN.{length, length-append, length-drop, get_or, take, drop}
use lib.Seq.{ext_get_or, length-take-le, get_or-take, get_or-drop, take_all, slice, length-slice}
use Rattle.theory.proofs.Tests.{not_true, either}
use Rattle.std.specs.Option.{is_some}
use Rattle.theory.specs.Standing.{from, filter}
use Rattle.theory.proofs.Members.{filter_append}
use Rattle.std.proofs.Common.{Option, None, Some, MatchOption}
use Rattle.table.specs.Looks.{first_unequal, comparison_end, bytes_compared, same_standing, place_below}

module _ (u v : List ℕ) where
  -- An equal byte is passed, at an unequal one the comparison ends.
  pub unequal_next : (n i : ℕ) → get_or u i 0 ≡ get_or v i 0 → first_unequal (suc n) i u v ≡ first_unequal n (suc i) u v
  unfolding first_unequal
  unequal_next n i e = rw (eq-eqb (get_or u i 0) (get_or v i 0) e)

  pub unequal_here : (n i : ℕ) → (get_or u i 0 ≡ get_or v i 0 → ⊥) → first_unequal (suc n) i u v ≡ i
  unfolding first_unequal
  unequal_here n i e = rw (ne_eqb (get_or u i 0) (get_or v i 0) e)

  unequal_over : (i : ℕ) → first_unequal 0 i u v ≡ i
  unfolding first_unequal
  unequal_over i = refl

  -- The same of the bytes from i up to `to`.
  module _ (to i : ℕ) where
    pub run_next : i < to → get_or u i 0 ≡ get_or v i 0 → first_unequal (to - (i + 1)) (i + 1) u v ≡ first_unequal (to - i) i u v
    run_next l e =
        let left : to - i ≡ suc (to - (i + 1)) = omega arith in
        let next : i + 1 ≡ suc i = omega arith in
        ap (λ k. first_unequal (to - (i + 1)) k u v) next ∙ sym (unequal_next (to - (i + 1)) i e) ∙ ap (λ n. first_unequal n i u v) (sym left)

    pub run_here : i < to → (get_or u i 0 ≡ get_or v i 0 → ⊥) → i ≡ first_unequal (to - i) i u v
    run_here l e =
        let left : to - i ≡ suc (to - (i + 1)) = omega arith in
        sym (ap (λ n. first_unequal n i u v) left ∙ unequal_here (to - (i + 1)) i e)

    pub run_over : to ≤ i → i ≡ first_unequal (to - i) i u v
    run_over l = let none : to - i ≡ 0 = omega arith in sym (ap (λ n. first_unequal n i u v) none ∙ unequal_over i)

  -- The bytes before the end are equal,
  pub unequal_before : (n i j : ℕ) → i ≤ j → j < first_unequal n i u v → get_or u j 0 ≡ get_or v j 0
  unequal_before zero i j h l = absurd (omega (arith, unequal_over i))
  unequal_before (suc n) i j h l =
      elim (ℕ_discrete (get_or u i 0) (get_or v i 0)) [
        | yes e ↦ elim (ℕ_discrete i j) [
          | yes f ↦ subst (λ k. get_or u k 0 ≡ get_or v k 0) f e
          | no f ↦ unequal_before n (suc i) j (omega arith) (rw (unequal_next n i e) at l)
        ]
        | no e ↦ absurd (omega (arith, unequal_here n i e))
      ]

  -- which is the last if all are.
  pub unequal_none : (n i : ℕ) → ((j : ℕ) → i ≤ j → j < i + n → get_or u j 0 ≡ get_or v j 0) → first_unequal n i u v ≡ i + n
  unequal_none zero i e = omega (arith, unequal_over i)
  unequal_none (suc n) i e =
      let more : first_unequal n (suc i) u v ≡ suc i + n = unequal_none n (suc i) λ j h l. e j (omega arith) (omega arith) in
      omega (arith, unequal_next n i (e i (omega arith) (omega arith)), more)

  -- and at an unequal byte after equal ones it is the place of that.
  pub unequal_found : (n i j : ℕ) → i ≤ j → j < i + n → ((k : ℕ) → i ≤ k → k < j → get_or u k 0 ≡ get_or v k 0) → (get_or u j 0 ≡ get_or v j 0 → ⊥) → first_unequal n i u v ≡ j
  unequal_found zero i j h l e d = absurd (omega arith)
  unequal_found (suc n) i j h l e d =
      elim (ℕ_discrete i j) [
        | yes f ↦ unequal_here n i (λ g. d (subst (λ k. get_or u k 0 ≡ get_or v k 0) f g)) ∙ f
        | no f ↦ unequal_next n i (e i (omega arith) (omega arith)) ∙ unequal_found n (suc i) j (omega arith) (omega arith) (λ k a b. e k (omega arith) b) d
      ]

  pub unequal_most : (n i : ℕ) → first_unequal n i u v ≤ i + n
  unequal_most zero i = omega (arith, unequal_over i)
  unequal_most (suc n) i =
      elim (ℕ_discrete (get_or u i 0) (get_or v i 0)) [
        | yes e ↦ omega (arith, unequal_next n i e, unequal_most n (suc i))
        | no e ↦ omega (arith, unequal_here n i e)
      ]

  pub unequal_least : (n i : ℕ) → i ≤ first_unequal n i u v
  unequal_least zero i = omega (arith, unequal_over i)
  unequal_least (suc n) i =
      elim (ℕ_discrete (get_or u i 0) (get_or v i 0)) [
        | yes e ↦ omega (arith, unequal_next n i e, unequal_least n (suc i))
        | no e ↦ omega (arith, unequal_here n i e)
      ]

-- A place below the end, and the end.
pub place_inside : (w i : ℕ) → i < w → place_below w i ≡ Some i
place_inside w i h = rw (lt-ltb i w h)

pub place_end : (w i : ℕ) → w ≤ i → place_below w i ≡ None
place_end w i h = rw (le-ltb i w h)

different : (i : ℕ) → Some i ≡ None → ⊥
different i e = cc

-- What a search for the first unequal byte says of two lists of n bytes: all are equal, or those before the place found.
abbrev pub Unequal : List ℕ → List ℕ → ℕ → Option ℕ → Type 0
Unequal u v n r = MatchOption r ((k : ℕ) → k < n → get_or u k 0 ≡ get_or v k 0)
    (λ i. (i < n) × (get_or u i 0 ≡ get_or v i 0 → ⊥) × ((k : ℕ) → k < i → get_or u k 0 ≡ get_or v k 0))

pub unequal_place : (u v : List ℕ) (n : ℕ) (r : Option ℕ) → Unequal u v n r → r ≡ place_below n (first_unequal n 0 u v)
unequal_place u v n None e = sym (place_end n (first_unequal n 0 u v) (omega (arith, unequal_none u v n 0 (λ j h l. e j (omega arith)))))
unequal_place u v n (Some i) (l, d, e) =
    let here = unequal_found u v n 0 i (omega arith) (omega arith) (λ k h. e k) d in
    sym (place_inside n (first_unequal n 0 u v) (omega arith) ∙ ap Some here)

-- A comparison ends before the origin fields, or after them.
module _ (w : ℕ) (u v : List ℕ) where
  pub ends_before : first_unequal 10 0 u v < 10 → comparison_end w u v ≡ first_unequal 10 0 u v
  unfolding comparison_end
  ends_before h = rw (lt-ltb (first_unequal 10 0 u v) 10 h)

  pub ends_after : 10 ≤ first_unequal 10 0 u v → comparison_end w u v ≡ first_unequal (w - 13) 13 u v
  unfolding comparison_end
  ends_after h = rw (le-ltb (first_unequal 10 0 u v) 10 h)

module _ (w : ℕ) (least : 13 ≤ w) (u v : List ℕ) where
  -- A COMPARISON ENDS OUTSIDE THE ORIGIN FIELDS, or finds no unequal byte.
  pub end_outside : (comparison_end w u v < 10) ⊎ ((13 ≤ comparison_end w u v) × (comparison_end w u v ≤ w))
  end_outside =
      elim (dec_lt (first_unequal 10 0 u v) 10) [
        | yes l ↦ inl (omega (arith, ends_before w u v l))
        | no l ↦ inr (omega (arith, ends_after w u v (omega arith), unequal_least u v (w - 13) 13), omega (arith, ends_after w u v (omega arith), unequal_most u v (w - 13) 13))
      ]

-- How many of d places from n on stand up to e.
places : (n d e : ℕ) → length (filter (λ i. leb i e) (from n d)) ≡ min d (suc e - n)
places n zero e = omega arith
places n (suc d) e =
    elim (dec_lt e n) [
      | yes l ↦ rw (lt_leb n e l) (places (suc n) d e ∙ (let z : min d (suc e - suc n) ≡ min (suc d) (suc e - n) = omega arith in z))
      | no l ↦ rw (le-leb n e (omega arith)) (ap suc (places (suc n) d e) ∙ (let z : suc (min d (suc e - suc n)) ≡ min (suc d) (suc e - n) = omega arith in z))
    ]
  where
    lt_leb : (a b : ℕ) → b < a → leb a b ≡ false
    lt_leb a b h = not_true (leb a b) λ t. absurd (let k = leb→le a b t in omega arith)

-- THE BYTES THAT A COMPARISON LOOKS AT: up to 10 before the origin fields, and up to w - 13 after them.
pub bytes_are : (w e : ℕ) → bytes_compared w e ≡ min 10 (suc e) + min (w - 13) (suc e - 13)
unfolding bytes_compared
bytes_are w e =
    let low : length (filter (λ i. leb i e) (from 0 10)) ≡ min 10 (suc e) = places 0 10 e ∙ ap (min 10) (sub-zero (suc e)) in
    let high : length (filter (λ i. leb i e) (from 13 (w - 13))) ≡ min (w - 13) (suc e - 13) = places 13 (w - 13) e in
    ap length (filter_append (λ i. leb i e) (from 0 10) (from 13 (w - 13)))
    ∙ length-append (filter (λ i. leb i e) (from 0 10)) (filter (λ i. leb i e) (from 13 (w - 13)))
    ∙ ap₂ ◌+◌ low high

-- What a comparison found says whether the two records are of the same standing.
module _ (w : ℕ) (least : 13 ≤ w) (u v : List ℕ) (r : Option ℕ) (e : r ≡ place_below w (comparison_end w u v)) where
  pub none_alike : is_some r ≡ false → same_standing w u v ≡ true
  none_alike f = go (dec_lt (comparison_end w u v) w)
    where
      go : Dec (comparison_end w u v < w) → same_standing w u v ≡ true
      go (yes l) = absurd (let some = e ∙ place_inside w (comparison_end w u v) l in true≢false (sym (ap is_some some) ∙ f))
      go (no l) = eq-eqb (comparison_end w u v) w (either (λ h. absurd (omega arith)) (λ (h, k). omega arith) (end_outside w least u v))

  pub some_unlike : is_some r ≡ true → same_standing w u v ≡ false
  some_unlike f = ne_eqb (comparison_end w u v) w λ h. (let none = e ∙ place_end w (comparison_end w u v) (omega arith) in true≢false (sym f ∙ ap is_some none))

module _ (u v x y : List ℕ) where
  run_same : (n i : ℕ) → ((j : ℕ) → i ≤ j → j < i + n → j ≤ first_unequal n i u v → (get_or u j 0 ≡ get_or x j 0) × (get_or v j 0 ≡ get_or y j 0)) → first_unequal n i x y ≡ first_unequal n i u v
  run_same zero i same = unequal_over x y i ∙ sym (unequal_over u v i)
  run_same (suc n) i same =
      elim (ℕ_discrete (get_or u i 0) (get_or v i 0)) [
        | yes e ↦ (
            let next = unequal_next u v n i e in
            let (a, b) = same i (omega arith) (omega arith) (omega (arith, next, unequal_least u v n (suc i))) in
            unequal_next x y n i (sym a ∙ e ∙ b) ∙ run_same n (suc i) (λ j h l m. same j (omega arith) (omega arith) (omega (arith, next))) ∙ sym next
            )
        | no e ↦ (
            let here = unequal_here u v n i e in
            let (a, b) = same i (omega arith) (omega arith) (omega (arith, here)) in
            unequal_here x y n i (λ f. e (a ∙ f ∙ sym b)) ∙ sym here
            )
      ]

module _ (w : ℕ) (u v x y : List ℕ) where
  -- NO OTHER BYTE COUNTS: records that have the same bytes up to the end, outside the origin fields, have the same end.
  pub end_same : ((j : ℕ) → (j < 10) ⊎ (13 ≤ j) → j ≤ comparison_end w u v → (get_or u j 0 ≡ get_or x j 0) × (get_or v j 0 ≡ get_or y j 0)) → comparison_end w x y ≡ comparison_end w u v
  end_same same =
      elim (dec_lt (first_unequal 10 0 u v) 10) [
        | yes l ↦ (
            let e : comparison_end w u v ≡ first_unequal 10 0 u v = ends_before w u v l in
            let low : first_unequal 10 0 x y ≡ first_unequal 10 0 u v = run_same u v x y 10 0 (λ j h i m. same j (inl (omega arith)) (omega arith)) in
            ends_before w x y (omega arith) ∙ low ∙ sym e
            )
        | no l ↦ (
            let e : comparison_end w u v ≡ first_unequal (w - 13) 13 u v = ends_after w u v (omega arith) in
            let after : 13 ≤ first_unequal (w - 13) 13 u v = unequal_least u v (w - 13) 13 in
            let low : first_unequal 10 0 x y ≡ first_unequal 10 0 u v = run_same u v x y 10 0 (λ j h i m. same j (inl (omega arith)) (omega arith)) in
            let high : first_unequal (w - 13) 13 x y ≡ first_unequal (w - 13) 13 u v = run_same u v x y (w - 13) 13 (λ j h i m. same j (inr h) (omega arith)) in
            ends_after w x y (omega arith) ∙ high ∙ sym e
            )
      ]

-- Bytes from w on do not count.
module _ (w : ℕ) (u v : List ℕ) where
  run_taken : (n i : ℕ) → i + n ≤ w → first_unequal n i (take w u) (take w v) ≡ first_unequal n i u v
  run_taken n i h = run_same u v (take w u) (take w v) n i (λ j k l m. (sym (get_or-take w u j 0 (omega arith)), sym (get_or-take w v j 0 (omega arith))))

  pub end_taken : 13 ≤ w → comparison_end w (take w u) (take w v) ≡ comparison_end w u v
  unfolding comparison_end
  end_taken h = rw (run_taken 10 0 (omega arith), run_taken (w - 13) 13 (omega arith))

-- Both parts of a comparison, as the code has them: of the first ten bytes, and of those from byte 13 on.
module _ (u v : List ℕ) where
  run_later : (n i d : ℕ) → first_unequal n i (drop d u) (drop d v) + d ≡ first_unequal n (d + i) u v
  run_later zero i d = omega (arith, unequal_over (drop d u) (drop d v) i, unequal_over u v (d + i))
  run_later (suc n) i d =
      let next : suc (d + i) ≡ d + suc i = omega arith in
      elim (ℕ_discrete (get_or u (d + i) 0) (get_or v (d + i) 0)) [
        | yes e ↦ (
            let same : get_or (drop d u) i 0 ≡ get_or (drop d v) i 0 = get_or-drop d u i 0 ∙ e ∙ sym (get_or-drop d v i 0) in
            ap (λ k. k + d) (unequal_next (drop d u) (drop d v) n i same) ∙ run_later n (suc i) d ∙ ap (λ k. first_unequal n k u v) (sym next) ∙ sym (unequal_next u v n (d + i) e)
            )
        | no e ↦ (
            let other = unequal_here (drop d u) (drop d v) n i (λ f. e (sym (get_or-drop d u i 0) ∙ f ∙ get_or-drop d v i 0)) in
            omega (arith, other, unequal_here u v n (d + i) e)
            )
      ]

  module _ (least : 13 ≤ length u) where
    front_is : first_unequal (length (take 10 u)) 0 (take 10 u) (take 10 v) ≡ first_unequal 10 0 u v
    front_is = ap (λ n. first_unequal n 0 (take 10 u) (take 10 v)) (length-take-le 10 u (omega arith)) ∙ run_taken 10 u v 10 0 (omega arith)

    pub front_found : (i : ℕ) → Some i ≡ place_below (length (take 10 u)) (first_unequal (length (take 10 u)) 0 (take 10 u) (take 10 v)) → Some i ≡ place_below (length u) (comparison_end (length u) u v)
    front_found i e = go (dec_lt (first_unequal 10 0 u v) 10)
      where
        found : Some i ≡ place_below 10 (first_unequal 10 0 u v)
        found = e ∙ ap₂ place_below (length-take-le 10 u (omega arith)) front_is

        go : Dec (first_unequal 10 0 u v < 10) → Some i ≡ place_below (length u) (comparison_end (length u) u v)
        go (yes l) = found ∙ place_inside 10 (first_unequal 10 0 u v) l ∙ sym (ap (place_below (length u)) (ends_before (length u) u v l) ∙ place_inside (length u) (first_unequal 10 0 u v) (omega arith))
        go (no l) = absurd (different i (found ∙ place_end 10 (first_unequal 10 0 u v) (omega arith)))

    -- The first ten bytes are equal, and x and y are the bytes from byte 13 on.
    module _ (e : None ≡ place_below (length (take 10 u)) (first_unequal (length (take 10 u)) 0 (take 10 u) (take 10 v))) {x y : List ℕ} (p : x ≡ drop 13 u) (q : y ≡ drop 13 v) where
      abbrev back : ℕ
      back = first_unequal (length x) 0 x y

      passed : 10 ≤ first_unequal 10 0 u v
      passed = go (dec_lt (first_unequal 10 0 u v) 10)
        where
          go : Dec (first_unequal 10 0 u v < 10) → 10 ≤ first_unequal 10 0 u v
          go (yes l) = absurd (different (first_unequal 10 0 u v) (sym (e ∙ ap₂ place_below (length-take-le 10 u (omega arith)) front_is ∙ place_inside 10 (first_unequal 10 0 u v) l)))
          go (no l) = omega arith

      size : length x + 13 ≡ length u
      size = omega (arith, length-drop 13 u, ap length p)

      back_is : comparison_end (length u) u v ≡ 13 + back
      back_is =
          let n : length u - 13 ≡ length x = omega (arith, size) in
          let later : first_unequal (length x) 0 (drop 13 u) (drop 13 v) + 13 ≡ first_unequal (length x) 13 u v = run_later (length x) 0 13 in
          let same : back ≡ first_unequal (length x) 0 (drop 13 u) (drop 13 v) = ap₂ (first_unequal (length x) 0) p q in
          let whole : first_unequal (length u - 13) 13 u v ≡ first_unequal (length x) 13 u v = ap (λ m. first_unequal m 13 u v) n in
          omega (arith, ends_after (length u) u v passed, later, same, whole)

      pub back_found : (i : ℕ) → Some i ≡ place_below (length x) back → Some (13 + i) ≡ place_below (length u) (comparison_end (length u) u v)
      back_found i f = go (dec_lt back (length x))
        where
          go : Dec (back < length x) → Some (13 + i) ≡ place_below (length u) (comparison_end (length u) u v)
          go (yes l) =
              let same = f ∙ place_inside (length x) back l in
              let is : i ≡ back = cc in
              ap (λ j. Some (13 + j)) is ∙ sym (ap (place_below (length u)) back_is ∙ place_inside (length u) (13 + back) (omega (arith, size)))
          go (no l) = absurd (different i (f ∙ place_end (length x) back (omega arith)))

      pub back_none : None ≡ place_below (length x) back → None ≡ place_below (length u) (comparison_end (length u) u v)
      back_none f = go (dec_lt back (length x))
        where
          go : Dec (back < length x) → None ≡ place_below (length u) (comparison_end (length u) u v)
          go (yes l) = absurd (different back (sym (f ∙ place_inside (length x) back l)))
          go (no l) = sym (ap (place_below (length u)) back_is ∙ place_end (length u) (13 + back) (omega (arith, size)))

-- Parts of two lists are equal if their bytes are.
get_d_slice : (from to : ℕ) (x : List ℕ) (j : ℕ) → from + j < to → get_or (slice from to x) j 0 ≡ get_or x (from + j) 0
get_d_slice from to x j h = get_or-drop from (take to x) j 0 ∙ get_or-take to x (from + j) 0 h

slice_same : (from to : ℕ) (x y : List ℕ) → to ≤ length x → to ≤ length y → ((i : ℕ) → from ≤ i → i < to → get_or x i 0 ≡ get_or y i 0) → slice from to x ≡ slice from to y
slice_same from to x y h k e =
    ext_get_or 0 (slice from to x) (slice from to y) (length-slice from to x h ∙ sym (length-slice from to y k)) λ j l.
    let b : from + j < to = omega (arith, length-slice from to x h) in
    get_d_slice from to x j b ∙ e (from + j) (omega arith) b ∙ sym (get_d_slice from to y j b)

module _ (w : ℕ) (least : 13 ≤ w) (u v : List ℕ) where
  -- OF THE SAME STANDING are two records that are equal outside the origin fields,
  pub equal_same : take 10 u ≡ take 10 v → drop 13 u ≡ drop 13 v → same_standing w u v ≡ true
  equal_same front back = eq-eqb (comparison_end w u v) w (omega (arith, ends_after w u v (omega (arith, low)), high))
    where
      low : first_unequal 10 0 u v ≡ 10
      low = unequal_none u v 10 0 λ j h l. sym (get_or-take 10 u j 0 l) ∙ ap (λ z. get_or z j 0) front ∙ get_or-take 10 v j 0 l

      high : first_unequal (w - 13) 13 u v ≡ 13 + (w - 13)
      high = unequal_none u v (w - 13) 13 λ j h l.
          let e : 13 + (j - 13) ≡ j = omega arith in
          rw e at (sym (get_or-drop 13 u (j - 13) 0) ∙ ap (λ z. get_or z (j - 13) 0) back ∙ get_or-drop 13 v (j - 13) 0)

  -- AND NO OTHERS.
  pub same_equal : length u ≡ w → length v ≡ w → same_standing w u v ≡ true → (take 10 u ≡ take 10 v) × (drop 13 u ≡ drop 13 v)
  same_equal long size e = (
    slice_same 0 10 u v (omega arith) (omega arith) (λ i h l. unequal_before u v 10 0 i h (omega (arith, low))),
    ap (drop 13) (sym (take_all w u (omega arith))) ∙ slice_same 13 w u v (omega arith) (omega arith) (λ i h l. unequal_before u v (w - 13) 13 i h (omega (arith, high))) ∙ ap (drop 13) (take_all w v (omega arith)),
  )
    where
      end : comparison_end w u v ≡ w
      end = eqb-true (comparison_end w u v) w e

      low : 10 ≤ first_unequal 10 0 u v
      low = elim (dec_lt (first_unequal 10 0 u v) 10) [ yes l ↦ absurd (omega (arith, end, ends_before w u v l)) | no l ↦ omega arith ]

      high : first_unequal (w - 13) 13 u v ≡ w
      high = sym (ends_after w u v low) ∙ end
