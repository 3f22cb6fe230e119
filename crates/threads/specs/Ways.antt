-- The way that the code hands over: where it ends, and where it last opened and closed each of the eight fields.
-- Assumes nothing.
use Rattle.std.specs.Prelude.{◌≡◌, ℕ, suc, ◌+◌, ◌*◌, ◌-◌, ◌≤◌, ◌<◌, cond, List, get_or, take, drop, ltb, None, Some}
use Rattle.std.specs.Prelude as Std
use Rattle.std.proofs.Math.Option.{Option, none, some}
use Rattle.theory.specs.Pattern.{Re, count, has, Numbered}
use Rattle.theory.specs.Standing.{once}
use Rattle.words.specs.Sets.{has_bit}
use Rattle.traces.specs.Code.Pass.{Values, Thread, items, pass_from}
use Rattle.traces.specs.Code.Marks.{row_sets, Marks}
use Rattle.threads.specs.declared.Way.{Way}

-- What is lent is the pattern's: bit p of the mask of a byte for the leaf p, the rows of outcomes, and the masks of fields.
pub record Given (r : Re) (masks rows lens marks : List ℕ) : Type 0 where
  pub numbered : Numbered 0 r
  pub most : count r ≤ 64
  pub masked : (b p : ℕ) → b < 256 → p < count r → has_bit (get_or masks b 0) p ≡ has r p b
  pub listed : (k : ℕ) → k ≤ count r → take (get_or lens k 0) (drop (65 * k) rows) ≡ once (items (row_sets k r))
  pub marked : Marks r marks

-- The sixteen values of a thread: number f is where the field f + 1 was last opened, number 8 + f where it was last closed.
abbrev pub value_at : Values → ℕ → Option ℕ
value_at v j = cond (ltb j 8) (v.starts (suc j)) (v.ends (suc (j - 8)))

-- They are the places, each if its bit in `known` is set.
abbrev pub HoldsValues : List ℕ → ℕ → Values → Type 0
HoldsValues places known v = (j : ℕ) → j < 16 → value_at v j ≡ cond (has_bit known j) (some (get_or places j 0)) none

-- The thread that a `Way` of the code is.
abbrev pub IsWay : Std.Option Way → Option Thread → Type 0
IsWay None none = Unit {0}
IsWay None (some t) = ⊥
IsWay (Some x) none = ⊥
IsWay (Some x) (some t) = (x.end ≡ t.0) × HoldsValues x.places x.known t.1

-- The pass over the line w from the start i.
pub record Led (masks rows lens marks w : List ℕ) (i : ℕ) (x : Std.Option Way) : Type 0 where
  pub led : {r : Re} → Given r masks rows lens marks → ((k : ℕ) → get_or w k 0 < 256) → IsWay x (pass_from r w i)
