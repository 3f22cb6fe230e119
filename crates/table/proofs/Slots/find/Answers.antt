-- `Slots::find` meets its contract: record k is at the front of the bytes left, and at the end none is left.
-- Assumes nothing.
use Rattle.std.proofs.Common.{◌≡◌, ℕ, suc, ◌+◌, ◌-◌, ◌*◌, ◌/◌, ◌≤◌, ◌<◌, min, true, false, List, ◌++◌, length, take, drop, arith, sym, ap, ap₂, ◌∙◌, Option, Ok}
use native.Mathlib.Nat.{mul-zero, mul-suc, mul-add, mul-le-mul_left, mul-div_cancel_left}
use native.Mathlib.Numerals.{add-one}
use native.Mathlib.Decide.{dec_lt}
use lib.ListN.{length-append, length-drop}
use Rattle.std.proofs.lemmas.List.{drop-take, take-take}
use lib.Seq.{take_at, drop_at, drop-drop, length-take-le}
use Rattle.std.specs.Option.{is_some}
use Rattle.table.specs.Slots.{slot_count, slot_at}
use Rattle.table.specs.Looks.{comparison_end, place_below, look_from, look}
use Rattle.table.proofs.Comparisons.{none_alike, some_unlike}
use Rattle.table.proofs.Laws.{slots_width, slots_fit}
use Rattle.table.proofs.Looks.{found_at, missing, look_here, look_next, look_over}
use Rattle.table.proofs.Slots.find.Invariants.{LookingOn}
use Rattle.table.proofs.Slots.find.Goals as goal

module _ {t : List ℕ} {w n : ℕ} {v : List ℕ} {end : ℕ} {u : List ℕ} {size : ℕ} (on : LookingOn t w n v end u size) (fits : w * end ≤ length t) where
  long_left : length u ≡ w * end - w * on.k
  long_left = ap length on.rest ∙ length-drop (w * on.k) (take (w * end) t) ∙ ap (λ m. m - w * on.k) (length-take-le (w * end) t fits)

  -- The record x is taken from the front of the bytes left, and its comparison ends at r.
  module _ (x rest : List ℕ) (split : u ≡ x ++ rest) (long : length x ≡ size) (r : Option ℕ)
      (ended : r ≡ place_below (length x) (comparison_end (length x) x (take w v))) where
    -- There was one,
    before : on.k < end
    before = go (dec_lt on.k end)
      where
        go : Dec (on.k < end) → on.k < end
        go (yes l) = l
        go (no l) = (
            let some : 13 ≤ length u = omega (arith, on.least, on.width, ap length split, length-append x rest) in
            let past : end ≤ on.k = omega arith in
            absurd (omega (arith, long_left, mul-le-mul_left w past))
            )

    step : w * (on.k + 1) ≤ w * end
    step = let next : on.k + 1 ≤ end = omega (arith, before) in mul-le-mul_left w next

    taken : x ≡ slot_at w t on.k
    taken =
        let b = w * end in
        let at = w * on.k in
        let room : at + w ≤ b = omega (arith, step, mul-suc w on.k, ap (λ m. w * m) (add-one on.k)) in
        let whole : at + (b - at) ≡ b = omega arith in
        let part : drop at (take b t) ≡ take (b - at) (drop at t) = ap (λ m. drop at (take m t)) (sym whole) ∙ drop-take at (b - at) t in
        sym (take_at x rest w (long ∙ on.width)) ∙ ap (take w) (sym split ∙ on.rest ∙ part) ∙ take-take w (b - at) (drop at t) (omega arith)

    compared : r ≡ place_below w (comparison_end w (slot_at w t on.k) (take w v))
    compared = ended ∙ ap₂ (λ m y. place_below m (comparison_end m y (take w v))) (long ∙ on.width) taken

    -- how many are left after it,
    after : (size' : ℕ) → size' ≡ size → length rest / size' ≡ end - (on.k + 1)
    after size' same =
        let m = end - (on.k + 1) in
        let all : w * end ≡ w * (on.k + 1) + w * m = (let e : end ≡ on.k + 1 + m = omega (arith, before) in ap (λ i. w * i) e ∙ mul-add w (on.k + 1) m) in
        let bytes : length rest ≡ w * m = omega (arith, all, long_left, ap length split, length-append x rest, long, on.width, mul-suc w on.k, ap (λ i. w * i) (add-one on.k)) in
        ap₂ ◌/◌ bytes (same ∙ on.width) ∙ mul-div_cancel_left m {n = w} (omega (arith, on.least))

    -- It has the standing,
    here : is_some r ≡ false → found_at on.k ≡ look w t (min n (slot_count w (length t))) (take w v)
    here f =
        let at : end - on.k ≡ suc (end - (on.k + 1)) = omega (arith, before) in
        let alike = none_alike w on.least (slot_at w t on.k) (take w v) r compared f in
        sym (ap (λ m. look_from w t (take w v) m on.k) at ∙ look_here w t (take w v) (end - (on.k + 1)) on.k alike) ∙ on.left

    -- or the look goes on.
    goes_on : is_some r ≡ true → (size' : ℕ) → size' ≡ size → LookingOn t w n v end rest size'
    goes_on f size' same = record {
      k = on.k + 1;
      inside = omega (arith, before);
      rest = (
          let at : w * on.k + w ≡ w * (on.k + 1) = rw add-one (omega (arith, mul-suc w on.k)) in
          sym (drop_at x rest w (long ∙ on.width)) ∙ ap (drop w) (sym split ∙ on.rest) ∙ drop-drop w (w * on.k) (take (w * end) t) ∙ ap (λ i. drop i (take (w * end) t)) at
          );
      width = same ∙ on.width;
      least = on.least;
      left = (
          let at : end - on.k ≡ suc (end - (on.k + 1)) = omega (arith, before) in
          let unlike = some_unlike w on.least (slot_at w t on.k) (take w v) r compared f in
          ap (look_from w t (take w v) (end - (on.k + 1))) (add-one on.k) ∙ sym (ap (λ m. look_from w t (take w v) m on.k) at ∙ look_next w t (take w v) (end - (on.k + 1)) on.k unlike) ∙ on.left
          );
    }

  -- No record is left.
  over : length u < size → missing end ≡ look w t (min n (slot_count w (length t))) (take w v)
  over none = go (dec_lt on.k end)
    where
      go : Dec (on.k < end) → missing end ≡ look w t (min n (slot_count w (length t))) (take w v)
      go (yes l) = (let next : suc on.k ≤ end = omega arith in absurd (omega (arith, none, on.width, long_left, mul-suc w on.k, mul-le-mul_left w next)))
      go (no l) = (
          let all : on.k ≡ end = omega (arith, on.inside) in
          let last : end - on.k ≡ 0 = omega arith in
          ap missing (sym all) ∙ sym (ap (λ m. look_from w t (take w v) m on.k) last ∙ look_over w t (take w v) on.k) ∙ on.left
          )

-- What is left tells what is passed.
passed : (end left k : ℕ) → left ≡ end - (k + 1) → k < end → (end - left - 1 ≡ k) × (end - left ≡ k + 1)
passed end left k e h = (omega arith, omega arith)

pub returns-then-end-eq0 : goal.returns-then-end-eq0
returns-then-end-eq0 c =
    let a = c.args in
    let none : 0 ≡ min a.n (slot_count a.self.width (length a.self.bytes.now)) = omega (arith, c.min-end.ensures, c.count.ensures.slots) in
    record { looked = sym (look_over a.self.width a.self.bytes.now (take a.self.width a.v.now) 0) ∙ ap (λ m. look a.self.width a.self.bytes.now m (take a.self.width a.v.now)) none }

-- The records to look through are in the table.
fit : (w len n end : ℕ) → end ≡ min n (slot_count w len) → w * end ≤ len
fit w len n end e = slots_fit w len end (omega arith)

pub loop-record-preserved : goal.loop-record-preserved
loop-record-preserved c =
    let a = c.args in
    let inside = fit a.self.width _ a.n _ (c.min-end.ensures ∙ ap (min a.n) c.count.ensures.slots) in
    let (same, (split, long), rem) = c.in-Some.ensures.steps in
    goes_on c.loop-record.invariant inside _ _ split long _ c.comparison_end.ensures c.if-is_none.ensures _ same

pub returns-then-is_none : goal.returns-then-is_none
returns-then-is_none c =
    let a = c.args in
    let on = c.loop-record.invariant in
    let inside = fit a.self.width _ a.n _ (c.min-end.ensures ∙ ap (min a.n) c.count.ensures.slots) in
    let (same, (split, long), rem) = c.in-Some.ensures.steps in
    let left = c.len-left.ensures.value ∙ after on inside _ _ split long _ c.comparison_end.ensures _ same in
    let number = passed _ _ _ left (before on inside _ _ split long _ c.comparison_end.ensures) in
    record { looked = ap₂ (λ i j. record { number = Ok i; compared = j }) number.0 number.1 ∙ here on inside _ _ split long _ c.comparison_end.ensures c.if-is_none.ensures }

pub returns : goal.returns
returns c =
    let a = c.args in
    let inside = fit a.self.width _ a.n _ (c.min-end.ensures ∙ ap (min a.n) c.count.ensures.slots) in
    record { looked = over c.loop-record.invariant inside c.in_default.ensures.steps.1.0 }
