-- The rows: what the code makes is what the definitions say, and a row that is stored keeps those before it.
-- Assumes nothing.
use mathlib.Core.Path.{◌≡◌, refl, sym, ap, ◌∙◌}
use Prim.Native.Nat.{ℕ, zero, suc, ◌+◌, ◌*◌, ◌-◌, ◌≤◌, ◌<◌}
use mathlib.Core.Bool.{Bool, true, false, cond}
use mathlib.Core.List.{List, [], ◌∷◌, ◌++◌, append_assoc}
use native.Mathlib.Omega.{arith}
use lib.ListN.{length, get_or, take, drop, length-set, length-drop, take-append-drop, get_or-eq_default, get_or-append}
use lib.Seq.{paste, length-paste, length-take-le, get_or-take, get_or-drop, get_or-set_same, get_or-set_other, take_at, drop_at, take-append-le, drop-append-le}
use lib.Dec.{T, leb}
use Rattle.std.specs.Int.{from_bool}
use borrow.Author.Tests.{leb-false}
use borrow.Author.Count.{below_more}
use Rattle.theory.specs.Pattern.{Re}
use Rattle.theory.specs.Standing.{member, once}
use Rattle.traces.specs.Traces.{ends_at}
use Rattle.traces.specs.Code.Pass.{neither, items}
use Rattle.traces.specs.Code.Pass
use Rattle.traces.proofs.Firsts.{items_firsts, row_items, first_row_items}
use Rattle.traces.proofs.Sets.{into_end, after_end}
use Rattle.traces.specs.Code.Marks.{row_sets}
use Rattle.arrays.specs.declared.Pattern.{Pattern}
use Rattle.arrays.specs.Decoded.{part, decode}
use Rattle.follow.specs.declared.Tables.{Tables}
use Rattle.follow.specs.Rows.{row, Summed, Right, Marked}
use Rattle.follow.specs.declared.outcomes.Outcomes.{Outcomes}
use Rattle.follow.specs.declared.Part.{Part}
use Rattle.follow.specs.Outcomes.{listed, Lists}
use Rattle.follow.specs.Parts.{Begins, Nexts}
use Rattle.follow.specs.Stores.{places, IsWhole, row_of, IsRow, Long, Stored, HasRow, Filled, FilledMarks}
use Rattle.follow.proofs.Masks.{shows_neither}
use Rattle.follow.proofs.Lists.{member_is}
use Rattle.follow.proofs.Parts.{part_none, part_at}

-- The numbers of a row, each once, are theory's closure.
row_once : (k : ℕ) (x : Re) → once (items (row_sets k x)) ≡ row_of k x
unfolding Pass.first_row Pass.row
row_once zero x = sym (items_firsts (row_sets 0 x)) ∙ first_row_items x
row_once (suc p) x = sym (items_firsts (row_sets (suc p) x)) ∙ row_items x p

is_row : {x : Part} {r : Outcomes} (k : ℕ) → ((masks : List ℕ) → Lists r (row_sets k (part x.end x.kinds.now x.sizes.now masks 0 x.end))) → IsRow x k r
is_row {x} k l = record { are = λ masks. (l masks).are ∙ row_once k (part x.end x.kinds.now x.sizes.now masks 0 x.end); lists = l }

module _ {x : Part} {e n r : Outcomes} (at : x.low ≡ 0) (ending : Lists e (ends_at 0 neither ∷ [])) (none : Lists n []) where
  pub row_start : (k : ℕ) → k ≡ 0 → Begins x 0 e n r → IsRow x k r
  row_start k z c =
      rw z (is_row 0 λ masks.
      rw (at, into_end neither (part x.end x.kinds.now x.sizes.now masks 0 x.end)) at (c.collects neither shows_neither _ [] ending none masks x.end (omega arith)))

  pub row_after : (k p : ℕ) → k ≡ suc p → Nexts p x e n r → IsRow x k r
  row_after k p s c =
      rw s (is_row (suc p) λ masks. rw (at, after_end (part x.end x.kinds.now x.sizes.now masks 0 x.end) p) at (c.collects _ [] ending none masks x.end (omega arith)))

-- What stands before a place is not changed by what follows it.
front_same : (u v w : List ℕ) (i n : ℕ) → i + n ≤ length u → take n (drop i (u ++ v)) ≡ take n (drop i (u ++ w))
front_same u v w i n h =
    let k : n ≤ length (drop i u) = omega (arith, length-drop i u) in
    rw (drop-append-le i u v (omega arith), drop-append-le i u w (omega arith), take-append-le n (drop i u) v k, take-append-le n (drop i u) w k)

module _ (d : List ℕ) (at : ℕ) (s : List ℕ) (n : ℕ) (h : at + n ≤ length d) (k : n ≤ length s) where
  paste_row : take n (drop at (paste d at s n)) ≡ take n s
  paste_row =
      rw (append_assoc (take at d) (take n s) (drop (at + n) d), drop_at (take at d) (take n s ++ drop (at + n) d) at (length-take-le at d (omega arith)))
      (take_at (take n s) (drop (at + n) d) n (length-take-le n s k))

  paste_before : (i m : ℕ) → i + m ≤ at → take m (drop i (paste d at s n)) ≡ take m (drop i d)
  paste_before i m l =
      let f = front_same (take at d) (take n s ++ drop (at + n) d) (drop at d) i m (omega (arith, length-take-le at d (omega arith))) in
      rw (append_assoc (take at d) (take n s) (drop (at + n) d)) (f ∙ ap (λ v. take m (drop i v)) (take-append-drop at d))

  -- A place of it, and one before it.
  place_here : (i : ℕ) → i < n → get_or (paste d at s n) (at + i) 0 ≡ get_or s i 0
  place_here i l =
      sym (get_or-drop at (paste d at s n) i 0) ∙ sym (get_or-take n (drop at (paste d at s n)) i 0 l) ∙ ap (λ v. get_or v i 0) paste_row ∙ get_or-take n s i 0 l

  place_before : (i : ℕ) → i < at → get_or (paste d at s n) i 0 ≡ get_or d i 0
  place_before i l =
      rw (append_assoc (take at d) (take n s) (drop (at + n) d), get_or-append (take at d) (take n s ++ drop (at + n) d) 0 i (omega (arith, length-take-le at d (omega arith)))) (get_or-take at d i 0 l)

module _ (k : ℕ) (x : Outcomes) (t u : Tables) (l : Long t) (b : k < 65) (s : Stored k x t u) where
  stored_long : Long u
  stored_long =
      record {
        rows = rw (s.rows, length-paste t.rows (65 * k) x.items x.len (omega (arith, l.rows, x.good.room)) (omega (arith, x.good.long, x.good.room))) l.rows;
        lens = rw (s.lens, length-set t.lens k x.len) l.lens;
        sets = rw (s.sets, length-set t.sets k x.set) l.sets;
        ends = rw (s.ends, length-set t.ends k (from_bool x.end)) l.ends;
      }

  stored_here : HasRow u k x
  stored_here =
      let e : get_or u.lens k 0 ≡ x.len = rw s.lens (get_or-set_same t.lens k x.len 0 (omega (arith, l.lens))) in
      record {
        row = rw (e, s.rows) (paste_row t.rows (65 * k) x.items x.len (omega (arith, l.rows, x.good.room)) (omega (arith, x.good.long, x.good.room)));
        len = e;
        set = rw s.sets (get_or-set_same t.sets k x.set 0 (omega (arith, l.sets)));
        end = rw s.ends (get_or-set_same t.ends k (from_bool x.end) 0 (omega (arith, l.ends)));
      }

  stored_before : (j : ℕ) (y : Outcomes) → j < k → HasRow t j y → HasRow u j y
  stored_before j y h r =
      let e : get_or u.lens j 0 ≡ get_or t.lens j 0 = rw s.lens (get_or-set_other t.lens k j x.len 0 (omega arith)) in
      let f = paste_before t.rows (65 * k) x.items x.len (omega (arith, l.rows, x.good.room)) (omega (arith, x.good.long, x.good.room)) (65 * j) y.len (omega (arith, y.good.room)) in
      record {
        row = rw (e, r.len, s.rows) (f ∙ (rw r.len at r.row));
        len = e ∙ r.len;
        set = rw s.sets (get_or-set_other t.sets k j x.set 0 (omega arith) ∙ r.set);
        end = rw s.ends (get_or-set_other t.ends k j (from_bool x.end) 0 (omega arith) ∙ r.end);
      }

-- The masks of row k are those of x.
abbrev HasMarks : List ℕ → ℕ → Outcomes → Type 0
HasMarks marks k x = (q : ℕ) → q ≤ 64 → get_or marks (65 * k + q) 0 ≡ get_or x.fields q 0

module _ (p : Part) where
  pub filled_begin : (t : Tables) → Long t → Filled p 0 t
  filled_begin t l = record { long = l; rows = λ k h. absurd (omega arith) }

  pub filled_more : (k : ℕ) (x : Outcomes) (t u : Tables) → k < 65 → Filled p k t → IsRow p k x → Stored k x t u → Filled p (k + 1) u
  filled_more k x t u b f is s =
      record {
        long = stored_long k x t u f.long b s;
        rows = below_more (λ j. (y : Outcomes) × IsRow p j y × HasRow u j y) k
            (λ j l. let (y, iy, ry) = f.rows j l in (y, iy, stored_before k x t u f.long b s j y l ry))
            (x, is, stored_here k x t u f.long b s);
      }

  pub marks_begin : (marks : List ℕ) → length marks ≡ 4225 → FilledMarks p 0 marks
  marks_begin marks l = record { long = l; rows = λ k h. absurd (omega arith) }

  pub marks_more : (k : ℕ) (x : Outcomes) (marks : List ℕ) → k < 65 → FilledMarks p k marks → IsRow p k x → FilledMarks p (k + 1) (paste marks (65 * k) x.fields 65)
  marks_more k x marks b f is =
      let fits : 65 * k + 65 ≤ length marks = omega (arith, f.long) in
      let wide : 65 ≤ length x.fields = omega (arith, x.good.wide) in
      record {
        long = length-paste marks (65 * k) x.fields 65 fits wide ∙ f.long;
        rows = below_more (λ j. (y : Outcomes) × IsRow p j y × HasMarks (paste marks (65 * k) x.fields 65) j y) k
            (λ j l. let (y, iy, my) = f.rows j l in (y, iy, λ q s. place_before marks (65 * k) x.fields 65 fits wide (65 * j + q) (omega arith) ∙ my q s))
            (x, is, λ q s. place_here marks (65 * k) x.fields 65 fits wide q (omega arith));
      }

flag_true : (b : Bool) → from_bool b ≡ 1 → b ≡ true
flag_true true e = refl
flag_true false e = absurd (omega arith)

flag_false : (b : Bool) → from_bool b ≡ 0 → b ≡ false
flag_false true e = absurd (omega arith)
flag_false false e = refl

flag_small : (b : Bool) → from_bool b ≤ 1
flag_small true = omega arith
flag_small false = omega arith

summed : (t : Tables) (k : ℕ) (x : Outcomes) → HasRow t k x → Summed t k
summed t k x r =
    record {
      set = λ q h. rw (r.set, r.row) (x.good.set q h);
      end = λ e. rw r.row (sym x.good.end ∙ flag_true x.end (sym r.end ∙ e));
      no_end = λ e. rw r.row (sym x.good.end ∙ flag_false x.end (sym r.end ∙ e));
      flag = rw r.end (flag_small x.end);
    }

-- A pattern of more places than the array has is none.
places_part : (kinds sizes masks : List ℕ) (len : ℕ) → part (places kinds len) kinds sizes masks 0 (places kinds len) ≡ part len kinds sizes masks 0 len
places_part kinds sizes masks len = go (leb len (length kinds)) refl
  where
    long : (n : ℕ) → length kinds < n → part 0 kinds sizes masks 0 0 ≡ part n kinds sizes masks 0 n
    long zero h = absurd (omega arith)
    long (suc f) h =
        let z : get_or kinds (suc f - 1) 0 ≡ 0 = get_or-eq_default kinds 0 (omega arith) in
        part_none kinds sizes masks 0 0 0 (omega arith) ∙ sym (rw z at (part_at kinds sizes masks 0 f (suc f) (omega arith)))

    go : (c : Bool) → leb len (length kinds) ≡ c → part (cond c len 0) kinds sizes masks 0 (cond c len 0) ≡ part len kinds sizes masks 0 len
    go true e = refl
    go false e = long len (leb-false len (length kinds) e)

module _ (x : Pattern) (p : Part) (w : IsWhole x p) where
  decoded : part p.end p.kinds.now p.sizes.now x.masks 0 p.end ≡ decode x
  unfolding decode
  decoded = rw (w.kinds, w.sizes, w.end) (places_part x.kinds x.sizes x.masks x.len)

  pub filled_right : {t : Tables} → Filled p 65 t → Right (decode x) t
  filled_right {t} f numbered few =
      record {
        start = is 0 (omega arith);
        after = λ p h. is (suc p) (omega arith);
        summed = λ k h. let (y, iy, ry) = f.rows k (omega arith) in summed t k y ry;
      }
    where
      is : (k : ℕ) → k < 65 → row t k ≡ row_of k (decode x)
      is k h = let (y, iy, ry) = f.rows k h in ry.row ∙ iy.are x.masks ∙ ap (row_of k) decoded

  pub filled_marked : {marks : List ℕ} → FilledMarks p 65 marks → Marked (decode x) marks
  filled_marked f numbered few k q h t =
      let (y, iy, my) = f.rows k (omega arith) in
      let l : Lists y (row_sets k (decode x)) = rw decoded at (iy.lists x.masks) in
      let m : T (member q (listed y)) = rw (member_is l q) t in
      rw (my q (y.good.small q m)) (l.marked q m)
