-- The fields of the greedy span, by definition and by the pass.
-- Assumes nothing.
use mathlib.Core.Path.{◌≡◌, sym, ap, ◌∙◌}
use Prim.Native.Nat.{ℕ, ◌≤◌}
use mathlib.Core.List.{List, [], ◌∷◌}
use mathlib.Core.Option.{Option, none, some, map}
use native.Mathlib.Omega.{arith}
use lib.ListN.{length}
use Rattle.theory.specs.Pattern.{Re, Numbered}
use Rattle.theory.specs.Spans.{nowhere, span, greedy}
use Rattle.theory.specs.Demand.{GreedyTakes}
use Rattle.theory.proofs.Demand.{greedy_takes}
use Rattle.traces.specs.Brackets.{Without, Apart}
use Rattle.traces.specs.Traces.{Trace, traced}
use Rattle.traces.specs.Fields.{first_way, absent, between, field_along, field_in, field_at}
use Rattle.traces.specs.Nest.{Told, Under, Around}
use Rattle.traces.specs.Code.Pass.{pass_from, field_by}
use Rattle.traces.proofs.Forget.{way_end}
use Rattle.traces.proofs.Nest.{told, way_lacks, way_around}
use Rattle.traces.proofs.Pass.{pass_traced, pass_fields, values_of}

way_of : (o : Option (ℕ × Trace)) (k : ℕ) → map (λ way. way.0) o ≡ some k → (t : Trace) × (o ≡ some (k, t))
way_of none k e = absurd (let z : ◌≡◌ {A = ℕ} 0 1 = cc in omega arith)
way_of (some way) k e = let s : way.0 ≡ k = cc in (way.1, λ j. some (s j, way.1))

-- A line with the greedy span from i to k.
module _ (r : Re) (w : List ℕ) (i k : ℕ) (e : greedy r w ≡ span i k) where
  taken : GreedyTakes r w i k
  taken = (greedy_takes r w i k).0 e

  pub start_in : i ≤ length w
  start_in = taken.start.in_line

  -- THE MOST PREFERRED WAY from i ends at k.
  pub greedy_way : (t : Trace) × (first_way (traced r w i) ≡ some (k, t))
  greedy_way = way_of (first_way (traced r w i)) k (way_end (λ m t. m ∷ t) r w i [] ∙ taken.first)

  field_along_lem : (f : ℕ) → field_at r w f ≡ field_along f (first_way (traced r w i))
  unfolding field_at
  field_along_lem f = ap (λ s. field_in r w s f) e

  -- EACH FIELD is its last turn along that way, within the span, or absent if the way never enters it.
  pub field_told : Apart r → (f : ℕ) → Told f greedy_way.0 i k (field_at r w f)
  field_told a f = rw (field_along_lem f, greedy_way.1) (told r a w i k greedy_way.0 greedy_way.1 f)

  -- A FIELD THAT THE WRITTEN-OUT PATTERN HAS NOT, as under `{0}`, is absent.
  pub field_absent : Apart r → (f : ℕ) → Without f r → field_at r w f ≡ absent
  field_absent a f h = rw (field_along_lem f, greedy_way.1, (way_lacks r a w i k greedy_way.0 greedy_way.1 f h).0)

  -- THE LAST TURN OF AN INNER FIELD lies in some turn of the outer one. (Not always in its last: of `(a|(b))*` on ba field 1 is 1 2 and field 2 is 0 1.)
  pub inner_turn : Apart r → (f g : ℕ) → Under f g r → (a b : ℕ) → field_at r w g ≡ between a b → Around f greedy_way.0 a b
  inner_turn h f g u a b c =
      way_around r h w i k greedy_way.0 greedy_way.1 f g u a b (ap (field_along g) (sym greedy_way.1) ∙ sym (field_along_lem g) ∙ c)

  -- THE PASS ends at k, and its fields are the fields.
  pub pass_end : Numbered 0 r → pass_from r w i ≡ some (k, values_of greedy_way.0)
  pass_end d = pass_traced r d w i start_in ∙ ap (map (λ way. (way.0, values_of way.1))) greedy_way.1

  pub pass_field : Numbered 0 r → (f : ℕ) → field_by f (pass_from r w i) ≡ field_at r w f
  pass_field d f = pass_fields r d w i start_in f ∙ sym (field_along_lem f)

-- A line without a span has no field.
pub no_span : (r : Re) (w : List ℕ) → greedy r w ≡ nowhere → (f : ℕ) → field_at r w f ≡ absent
unfolding field_at
no_span r w e f = ap (λ s. field_in r w s f) e
