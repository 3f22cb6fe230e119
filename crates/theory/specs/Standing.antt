-- "The standing of a line is read off its list from place 0", and witnesses (paper 01, "Standings and their records").
-- Assumes nothing.
use Rattle.std.specs.Prelude.{ℕ, zero, suc, Bool, false, not, ◌&&◌, ◌||◌, cond, List, [], ◌∷◌, ◌++◌, length, eqb}
use Rattle.theory.specs.Pattern.{Re, count}
use Rattle.theory.specs.Outcomes.{Outcome, ends_at, wants, Lists, outcomes}

-- "The wanted leaves before the first end (all of them if there is no end)."
abbrev pub fronts : {K : Type 0} → List (Outcome K) → List ℕ
fronts [] = []
fronts (ends_at k ∷ l) = []
fronts (wants p ∷ l) = p ∷ fronts l

-- "All wanted leaves."
abbrev pub wanted : {K : Type 0} → List (Outcome K) → List ℕ
wanted [] = []
wanted (ends_at k ∷ l) = wanted l
wanted (wants p ∷ l) = p ∷ wanted l

-- "Whether the first end is" n. Without an end it is not.
abbrev pub first_is : ℕ → List (Outcome ℕ) → Bool
first_is n [] = false
first_is n (ends_at k ∷ l) = eqb k n
first_is n (wants p ∷ l) = first_is n l

-- "Whether some end is" n.
abbrev pub some_is : ℕ → List (Outcome ℕ) → Bool
some_is n [] = false
some_is n (ends_at k ∷ l) = eqb k n || some_is n l
some_is n (wants p ∷ l) = some_is n l

abbrev pub member : ℕ → List ℕ → Bool
member p [] = false
member p (q ∷ l) = eqb p q || member p l

-- `seen`, and then each other number of the list.
abbrev pub gather : List ℕ → List ℕ → List ℕ
gather seen [] = seen
gather seen (p ∷ l) = gather (cond (member p seen) seen (seen ++ (p ∷ []))) l

-- "Each once, in order of first appearance."
abbrev pub once : List ℕ → List ℕ
once l = gather [] l

-- The numbers from n on, d of them.
abbrev pub from : ℕ → ℕ → List ℕ
from n zero = []
from n (suc d) = n ∷ from (suc n) d

abbrev pub filter : (ℕ → Bool) → List ℕ → List ℕ
filter f [] = []
filter f (p ∷ l) = cond (f p) (p ∷ filter f l) (filter f l)

-- "The set of" the leaves in a list: the leaf numbers that are in it, upwards.
abbrev pub set_of : Re → List ℕ → List ℕ
set_of r l = filter (λ p. member p l) (from 0 (count r))

pub record Standing : Type 0 where
  pub order : List ℕ  -- (a)
  pub first : Bool  -- (b)
  pub all : List ℕ  -- (c)
  pub some : Bool  -- (d)

-- "The standing of a line", judged by the lists l,
abbrev pub standing_by : Lists → Re → List ℕ → Standing
standing_by l r w =
    record {
      order = once (fronts (l r w 0));
      first = first_is (length w) (l r w 0);
      all = set_of r (wanted (l r w 0));
      some = some_is (length w) (l r w 0);
    }

-- and by the order of preference.
unfoldable pub standing : Re → List ℕ → Standing
standing r w = standing_by outcomes r w

-- "A line with (d) and without (b) is a witness."
abbrev pub is_witness : Standing → Bool
is_witness s = s.some && not s.first
