-- The list that an `Outcomes` of the code is, and what is added to it.
-- Assumes nothing.
use Rattle.std.specs.Prelude.{◌≡◌, ℕ, List, [], ◌∷◌, ◌++◌, get_or, take, T}
use Rattle.theory.specs.Standing.{member, once}
use Rattle.traces.specs.Traces.{Carried}
use Rattle.traces.specs.Code.Pass.{Sets, item, items}
use Rattle.traces.specs.Code.Sets.{joined}
use Rattle.traces.specs.Code.Marks.{Shows, carried_by, sets_of}
use Rattle.follow.specs.declared.outcomes.Outcomes.{Outcomes}

-- The numbers of the list.
abbrev pub listed : Outcomes → List ℕ
listed x = take x.len x.items

-- x is the list l, each outcome the first time it comes, with what it carries then.
pub record Lists (x : Outcomes) (l : List (Carried Sets)) : Type 0 where
  pub are : listed x ≡ once (items l)
  pub marked : (q : ℕ) → T (member q (listed x)) → Shows (get_or x.fields q 0) (sets_of q l)

-- r is the list of x, and then the outcome p with the fields that the mask b has.
pub record Added (x : Outcomes) (p b : ℕ) (r : Outcomes) : Type 0 where
  pub lists : (l : List (Carried Sets)) (o : Carried Sets) → Lists x l → item o ≡ p → Shows b (carried_by o) → Lists r (l ++ (o ∷ []))

-- r is the list of x, and then that of y after the fields that the mask b has.
pub record Joined (x y : Outcomes) (b : ℕ) (r : Outcomes) : Type 0 where
  pub lists : (l m : List (Carried Sets)) (s : Sets) → Lists x l → Lists y m → Shows b s → Lists r (l ++ joined s m)
