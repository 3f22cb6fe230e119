-- What is collected from a part of the arrays: what it can begin with, and what can follow a leaf of it.
-- Assumes nothing.
use Rattle.std.specs.Prelude.{◌≡◌, ℕ, ◌+◌, ◌≤◌, ◌<◌, Bool, true, false, not, cond, List, ◌++◌, get_or, eqb}
use Rattle.std.specs.List.{list_any, between}
use Rattle.theory.specs.Pattern.{Re}
use Rattle.traces.specs.Traces.{Carried}
use Rattle.traces.specs.Code.Pass.{Sets}
use Rattle.traces.specs.Code.Sets.{into, after}
use Rattle.traces.specs.Code.Marks.{Shows}
use Rattle.grammar.specs.Code.Codes.{alternation_kind, star_kind, lazy_star_kind, first_field}
use Rattle.arrays.specs.Decoded.{middle, part}
use Rattle.follow.specs.declared.outcomes.Outcomes.{Outcomes}
use Rattle.follow.specs.declared.Part.{Part}
use Rattle.follow.specs.Outcomes.{Lists}

-- The part of x at other places.
abbrev pub within : Part → ℕ → ℕ → Part
within x low end = record { kinds = x.kinds; sizes = x.sizes; low = low; end = end }

-- r is the list of `out`, and then what `collect` makes of the part x, its ends replaced by `rest`, whatever its leaves' sets are.
abbrev pub Collects : (List (Carried Sets) → Re → List (Carried Sets)) → Part → Outcomes → Outcomes → Outcomes → Type 0
Collects collect x rest out r =
    (m l : List (Carried Sets)) → Lists rest m → Lists out l → (masks : List ℕ) (f : ℕ) → x.end ≤ x.low + f
    → Lists r (l ++ collect m (part f x.kinds.now x.sizes.now masks x.low x.end))

-- What the part can begin with, after the fields that the mask b has.
pub record Begins (x : Part) (b : ℕ) (rest out r : Outcomes) : Type 0 where
  pub collects : (s : Sets) → Shows b s → Collects (λ m y. into m s y) x rest out r

-- What can follow its leaf p.
pub record Nexts (p : ℕ) (x : Part) (rest out r : Outcomes) : Type 0 where
  pub collects : Collects (λ m y. after m y p) x rest out r

-- Whether the part goes one way or another: an alternation, or a repeat.
pub record Chooses (kind : ℕ) (r : Bool) : Type 0 where
  pub does : r ≡ true → (alternation_kind ≤ kind) × (kind < first_field)
  pub does_not : r ≡ false → alternation_kind ≤ kind → first_field ≤ kind

-- Where the second of its two ways begins, which together stand from `low` to `last`: a star's turn has all places and leaving has none, a lazy star leaves first.
abbrev pub parting : ℕ → List ℕ → ℕ → ℕ → ℕ
parting kind sizes low last = cond (eqb kind star_kind) last (cond (eqb kind lazy_star_kind) low (middle sizes low last))

-- One of the places from `low` to `end` has that kind.
abbrev pub Stands : List ℕ → ℕ → ℕ → ℕ → Type 0
Stands kinds low end kind = (i : ℕ) × (low ≤ i) × (i < end) × (get_or kinds i 0 ≡ kind)

-- Whether none has.
abbrev pub lacks : List ℕ → ℕ → ℕ → ℕ → Bool
lacks kinds low end kind = not (list_any (λ k. eqb k kind) (between low end kinds))
