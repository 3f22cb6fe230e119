-- The greedy span and its fields, from the leftmost start and the way that is preferred there.
-- Assumes nothing.
use mathlib.Core.Path.{◌≡◌, sym, ap, ap₂, ◌∙◌, subst}
use mathlib.Core.Bool.{cond}
use mathlib.Core.List.{List}
use mathlib.Core.Option.{Option, none, some}
use Prim.Native.Nat.{ℕ, zero, suc, ◌+◌, ◌*◌, ◌-◌, ◌≤◌, ◌<◌}
use native.Mathlib.Omega.{arith}
use lib.ListN.{get_or, take, drop}
use borrow.Author.Tests.{lt-ltb, le-ltb}
use Rattle.std.specs.Prelude.{Some, None}
use Rattle.std.specs.Prelude as Std
use Rattle.std.specs.Option.{unwrap_or}
use Rattle.theory.specs.Pattern.{Re, count}
use Rattle.theory.specs.Standing.{once}
use Rattle.theory.specs.Spans.{nowhere, span, span_or, greedy, posix}
use Rattle.theory.specs.Code.Passes.{farthest}
use Rattle.theory.proofs.Demand.{both_none}
use Rattle.traces.specs.Fields.{field_from}
use Rattle.traces.specs.Code.Pass.{Values, items, first_row, row, field_by}
use Rattle.traces.specs.Code.Marks.{row_sets, Marks}
use Rattle.traces.proofs.Firsts.{items_firsts, row_items, first_row_items}
use Rattle.traces.proofs.Pass.{values_of}
use Rattle.traces.proofs.Fields.{greedy_way, pass_end, pass_field, no_span}
use Rattle.words.specs.Sets.{has_bit}
use Rattle.facts.specs.Moves.{Bytes}
use Rattle.blocks.proofs.Greedy.{greedy_upto}
use Rattle.starts.specs.declared.Span as Starts
use Rattle.starts.specs.Spans.{Found}
use Rattle.matchers.specs.Tables.{Tables, Ready}
use Rattle.threads.specs.declared.Way.{Way}
use Rattle.threads.specs.Ways.{Given, IsWay, Led}
use Rattle.fields.specs.declared.Piece.{Piece}
use Rattle.fields.specs.Cuts.{Cuts}

-- What is lent for spans and for masks is what the pass needs.
row_listed : (r : Re) (t : Tables) → Ready r t → (k : ℕ) → k ≤ count r → take (get_or t.arrays.lens k 0) (drop (65 * k) t.arrays.rows) ≡ once (items (row_sets k r))
unfolding first_row row
row_listed r t own zero h = own.lent.follows.start ∙ sym (first_row_items r) ∙ items_firsts (row_sets 0 r)
row_listed r t own (suc p) h = own.lent.follows.after p (omega arith) ∙ sym (row_items r p) ∙ items_firsts (row_sets (suc p) r)

given : {r : Re} {t : Tables} {marks : List ℕ} → Ready r t → Marks r marks → Given r t.arrays.masks t.arrays.rows t.arrays.lens marks
given {r} {t} own marked = record {
  numbered = own.lent.numbered;
  most = own.lent.most;
  masked = own.lent.masked;
  listed = row_listed r t own;
  marked = marked;
}

no_place : {i j : ℕ} → span i j ≡ nowhere → ⊥
no_place e = let z : ◌≡◌ {A = ℕ} 0 1 = cc in omega arith

-- The values of the way are the fields.
module _ (x : Way) (k : ℕ) (v : Values) (is : IsWay (Some x) (some (k, v))) where
  opened : (f : ℕ) → f < 8 → v.starts (suc f) ≡ cond (has_bit x.known f) (some (get_or x.places f 0)) none
  opened f h = sym (ap (λ c. cond c (v.starts (suc f)) (v.ends (suc (f - 8)))) (lt-ltb f 8 h)) ∙ is.1 f (omega arith)

  closed : (f : ℕ) → f < 8 → v.ends (suc f) ≡ cond (has_bit x.known (8 + f)) (some (get_or x.places (8 + f) 0)) none
  closed f h =
      let e : f ≡ 8 + f - 8 = omega arith in
      ap (λ i. v.ends (suc i)) e ∙ sym (ap (λ c. cond c (v.starts (suc (8 + f))) (v.ends (suc (8 + f - 8)))) (le-ltb (8 + f) 8 (omega arith))) ∙ is.1 (8 + f) (omega arith)

module _ {t : Tables} {marks w : List ℕ} (bytes : Bytes w) where
  -- No POSIX span, and so none at all,
  pub cut_none : Found t.arrays.masks t.arrays.sets t.arrays.ends t.facts w None → Cuts t marks w None
  cut_none found = record {
    cut = λ {r} own marked.
        let p : nowhere ≡ posix r w = found.posix_is own.lent own.known bytes in
        let g : greedy r w ≡ nowhere = (both_none r w).1 (sym p) in
        record { greedily = sym g; fields = λ f h. sym (no_span r w g (suc f)) };
  }

  module _ {b : Starts.Span} (found : Found t.arrays.masks t.arrays.sets t.arrays.ends t.facts w (Some b)) {x : Std.Option Way} (led : Led t.arrays.masks t.arrays.rows t.arrays.lens marks w b.start x) where
    -- or the way from its start, which there is.
    way : {r : Re} → Ready r t → Marks r marks → (k : ℕ) × (g : greedy r w ≡ span b.start k) × IsWay x (some (k, values_of (greedy_way r w b.start k g).0))
    way {r} own marked = go (farthest r (λ s. s.first) (drop b.start (take b.end w)) b.start) (greedy_upto r own.lent.numbered w b.start b.end (sym p))
      where
        p : span b.start b.end ≡ posix r w
        p = found.posix_is own.lent own.known bytes

        go : (o : Option ℕ) → greedy r w ≡ span_or b.start o nowhere → (k : ℕ) × (g : greedy r w ≡ span b.start k) × IsWay x (some (k, values_of (greedy_way r w b.start k g).0))
        go none g = absurd (no_place (p ∙ (both_none r w).0 g))
        go (some k) g = (k, g, subst (IsWay x) (pass_end r w b.start k g own.lent.numbered) (led.led (given own marked) bytes))

  lost : {b : Starts.Span} {y : Std.Option Piece} → Found t.arrays.masks t.arrays.sets t.arrays.ends t.facts w (Some b) → Led t.arrays.masks t.arrays.rows t.arrays.lens marks w b.start None → Cuts t marks w y
  lost found led = record { cut = λ {r} own marked. let (k, g, is) = way found led own marked in absurd is }

  led_on : {b : Starts.Span} {x : Way} → Found t.arrays.masks t.arrays.sets t.arrays.ends t.facts w (Some b) → Led t.arrays.masks t.arrays.rows t.arrays.lens marks w b.start (Some x)
      → Cuts t marks w (Some (record { start = b.start; end = x.end; known = x.known; places = x.places }))
  led_on {b} {x} found led = record {
    cut = λ {r} own marked.
        let (k, g, is) = way found led own marked in
        let d = own.lent.numbered in
        let v = values_of (greedy_way r w b.start k g).0 in
        record {
          greedily = ap (span b.start) is.0 ∙ sym g;
          fields = λ f h.
              ap₂ field_from (sym (opened x k v is f h)) (sym (closed x k v is f h)) ∙ ap (field_by (suc f)) (sym (pass_end r w b.start k g d)) ∙ pass_field r w b.start k g d (suc f);
        };
  }

  pub cut_some : {b : Starts.Span} (x : Std.Option Way) (z : Way) → Found t.arrays.masks t.arrays.sets t.arrays.ends t.facts w (Some b) → Led t.arrays.masks t.arrays.rows t.arrays.lens marks w b.start x
      → Cuts t marks w (Some (record { start = b.start; end = (unwrap_or x z).end; known = (unwrap_or x z).known; places = (unwrap_or x z).places }))
  cut_some None z found led = lost found led
  cut_some (Some x) z found led = led_on found led
