-- The answer to an order line.
-- Assumes nothing.
use mathlib.Core.Path.{◌≡◌, refl, sym, ap, ap₂, ◌∙◌, subst}
use Prim.Native.Nat.{ℕ, zero, suc, ◌+◌, ◌≤◌, ◌<◌, min}
use mathlib.Core.Bool.{Bool, true, false, ◌&&◌, cond}
use mathlib.Core.List.{List, [], ◌∷◌, ◌++◌, map, map-append}
use mathlib.Core.Option.{none, some}
use native.Mathlib.Omega.{arith}
use lib.ListN.{length, get_or}
use Rattle.std.specs.Prelude.{None, Some}
use Rattle.theory.specs.Pattern.{Re}
use Rattle.theory.specs.Standing.{from}
use Rattle.theory.proofs.Members.{from_snoc}
use Rattle.traces.specs.Fields.{field_from, field_at}
use Rattle.words.specs.Sets.{has_bit}
use Rattle.matchers.specs.declared.Spans.{Spans}
use Rattle.matchers.specs.Cuts.{Cuts}
use Rattle.readings.specs.declared.Tables.{Tables}
use Rattle.readings.specs.Tables.{tables_in}
use Rattle.fields.specs.declared.Piece.{Piece}
use Rattle.fields.specs.declared.Prepared.{Prepared}
use Rattle.fields.specs.Cuts.{place_in, IsCut}
use Rattle.fields.specs.Cuts as Fields
use Rattle.printing.specs.Text.{RefusedLine, SpansLine, FieldsLine, pairs_of, none_line}
use Rattle.orders.specs.declared.Orders.{Orders}
use Rattle.orders.specs.declared.Orders.TheVariants as Asked
use Rattle.orders.specs.Orders.{OrderLine, FieldsOrder, pair_of, OrderAnswer}

module _ {t : Tables} {l : List ℕ} (h : length l ≤ 1024) where
  -- The line has both spans.
  pub answer_cut : {s : Spans} {w : List ℕ} → Cuts (tables_in t) l (Some s) → SpansLine s.start s.greedy s.posix w → OrderAnswer (Asked.Spans t) l w
  answer_cut c is = record { answer = λ r own. let both = c.cut own in OrderLine.cut h (sym both.greedily) (sym both.longest) is }

from_one : (k : ℕ) → from 1 (suc k) ≡ from 1 k ++ (suc k ∷ [])
from_one k = let e : 1 + k ≡ suc k = omega arith in from_snoc 1 k ∙ ap (λ i. from 1 k ++ (i ∷ [])) e

-- The pairs that the code prints are the fields'.
pairs_are : (r : Re) {l : List ℕ} {x : Piece} → IsCut r l (Some x) → (k : ℕ) → k ≤ 8 → pairs_of k x.known x.places ≡ map (λ f. pair_of (field_at r l f)) (from 1 k)
unfolding pairs_of
pairs_are r c zero few = refl
pairs_are r {l} {x} c (suc k) few =
    ap₂ ◌++◌ (pairs_are r c k (omega arith)) (ap (λ p. p ∷ []) (one_pair (has_bit x.known k) (has_bit x.known (8 + k)) ∙ ap pair_of (c.fields k (omega arith))))
    ∙ sym (ap (map (λ f. pair_of (field_at r l f))) (from_one k) ∙ map-append (λ f. pair_of (field_at r l f)) (from 1 k) (suc k ∷ []))
  where
    one_pair : (a b : Bool) → cond (a && b) (some (get_or x.places k 0, get_or x.places (8 + k) 0)) none
        ≡ pair_of (field_from (cond a (some (get_or x.places k 0)) none) (cond b (some (get_or x.places (8 + k) 0)) none))
    one_pair true true = refl
    one_pair true false = refl
    one_pair false b = refl

module _ {p : Prepared} {l : List ℕ} (h : length l ≤ 1024) where
  -- Its greedy span has these fields.
  pub answer_fields : {x : Piece} {w : List ℕ} → Fields.Cuts (tables_in p.tables) p.marks l (Some x) → FieldsLine x.start x.end (pairs_of (min p.count 8) x.known x.places) w → OrderAnswer (Asked.Fields p) l w
  answer_fields {x} {w} c is = record {
    answer = λ r (own, marks, few).
        let cutting = c.cut own marks in
        let least : min p.count 8 ≡ p.count = omega arith in
        FieldsOrder.cut h (sym cutting.greedily) (subst (λ q. FieldsLine x.start x.end q w) (ap (λ i. pairs_of i x.known x.places) least ∙ pairs_are r cutting p.count few) is);
  }
