-- The list of outcomes of a part at a place of a line, as theory's `outcomes`, with a trace on each: which fields the way to it opened and closed, and where.
-- Assumes nothing.
use Rattle.std.specs.Prelude.{ℕ, zero, suc, cond, List, [], ◌∷◌, ◌++◌, length, drop, ltb}
use Rattle.theory.specs.Pattern.{Manner, eager, lazy, Re, empty, leaf, seq, alt, star, field}
use Rattle.theory.specs.Outcomes.{Outcome, empty_turn, leaf_outcomes}

-- A mark of a trace: the field f opened at i, or closed at i.
pub data Mark : Type 0 where
  opened : ℕ → ℕ → Mark
  closed : ℕ → ℕ → Mark

-- The marks of a way, the latest first.
abbrev pub Trace : Type 0
Trace = List Mark

-- An outcome with what its way carries. C is `Trace` here; `Code` has lists that carry starts and ends, or sets of fields.
pub data Carried (C : Type 0) : Type 0 where
  ends_at : ℕ → C → Carried C
  wants : ℕ → C → Carried C

-- A list with each "ends at k" that carries v replaced by the list f k v, and each "wants p" by the list g p v.
abbrev pub replace : {C D : Type 0} → (ℕ → C → List (Carried D)) → (ℕ → C → List (Carried D)) → List (Carried C) → List (Carried D)
replace f g [] = []
replace f g (ends_at k v ∷ l) = f k v ++ replace f g l
replace f g (wants p v ∷ l) = g p v ++ replace f g l

abbrev pub end : {C : Type 0} → ℕ → C → List (Carried C)
end k v = ends_at k v ∷ []

abbrev pub want : {C : Type 0} → ℕ → C → List (Carried C)
want p v = wants p v ∷ []

abbrev pub and_then : {C : Type 0} → List (Carried C) → (ℕ → C → List (Carried C)) → List (Carried C)
and_then l f = replace f want l

-- Each outcome of theory's list, carrying v.
abbrev pub carry : {C : Type 0} → C → List (Outcome ℕ) → List (Carried C)
carry v [] = []
carry v (Outcome.ends_at k ∷ l) = ends_at k v ∷ carry v l
carry v (Outcome.wants p ∷ l) = wants p v ∷ carry v l

-- A list without what its outcomes carry.
abbrev pub plain : {C : Type 0} → List (Carried C) → List (Outcome ℕ)
plain [] = []
plain (ends_at k v ∷ l) = Outcome.ends_at k ∷ plain l
plain (wants p v ∷ l) = Outcome.wants p ∷ plain l

-- r*, a turn of r from i that ends at k: theory's `after_turn`. "An empty turn counts as a turn": what theory keeps of it keeps its trace.
abbrev pub after_turn : {C : Type 0} → ℕ → ℕ → C → List (Carried C) → List (Carried C)
after_turn i k v goes_on = cond (ltb i k) goes_on (carry v (empty_turn i))

-- r*, its turns, "then 'ends at i'"; r*? has "the leaving end first": theory's `then_leave`. A way without a turn carries what it carried.
unfoldable pub then_leave : {C : Type 0} → Manner → List (Carried C) → ℕ → C → List (Carried C)
then_leave eager turns i v = turns ++ (ends_at i v ∷ [])
then_leave lazy turns i v = ends_at i v ∷ turns

unfoldable pub star_outcomes : {C : Type 0} → Manner → (ℕ → C → List (Carried C)) → ℕ → ℕ → C → List (Carried C)
star_outcomes how f zero i v = []
star_outcomes how f (suc n) i v = then_leave how (and_then (f i v) (λ k u. after_turn i k u (star_outcomes how f n k u))) i v

-- A bracket puts a mark where the way enters it, and one where the way leaves it.
module _ {C : Type 0} (mark : Mark → C → C) where
  abbrev pub close : ℕ → ℕ → C → List (Carried C)
  close f k v = end k (mark (closed f k) v)

  unfoldable pub carried : Re → List ℕ → ℕ → C → List (Carried C)
  carried empty w i v = end i v
  carried (leaf p s) w i v = carry v (leaf_outcomes p s i (drop i w))
  carried (seq x y) w i v = and_then (carried x w i v) (carried y w)
  carried (alt x y) w i v = carried x w i v ++ carried y w i v
  carried (star how x) w i v = star_outcomes how (carried x w) (suc (length w)) i v
  carried (field f x) w i v = and_then (carried x w i (mark (opened f i) v)) (close f)

-- The list of outcomes with their traces.
abbrev pub traced : Re → List ℕ → ℕ → List (Carried Trace)
traced r w i = carried (λ m t. m ∷ t) r w i []
