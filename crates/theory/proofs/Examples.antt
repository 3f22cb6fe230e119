-- Source 000's examples 2 and 3: the ends from each place, in its order of preference; and a pattern whose greedy span is not by that order.
-- Assumes nothing.
use mathlib.Core.Path.{◌≡◌, refl}
use mathlib.Core.Logic.{◌↔◌}
use Prim.Native.Nat.{ℕ, suc}
use mathlib.Core.Bool.{true}
use mathlib.Core.List.{List, [], ◌∷◌, map}
use lib.ListN.{length}
use lib.Dec.{eqb}
use Rattle.theory.specs.Pattern.{eager, Re, empty, leaf, seq, alt, star}
use Rattle.theory.specs.Outcomes.{empty_turn, then_leave, star_outcomes, outcomes}
use Rattle.theory.specs.Spans.{Span, span, greedy}
use Rattle.theory.specs.Base.{base_star, list_by}
use Rattle.theory.specs.Preference.{MatchSet, Greedy, Denotes}
use Rattle.theory.specs.Standing.{from}
use Rattle.theory.proofs.Preference.{places}
use Rattle.theory.proofs.Denotation.{base_denotation}

abbrev byte : ℕ → ℕ → Re
byte p b = leaf p (eqb b)

abbrev any : ℕ → Re
any p = leaf p (λ _. true)

abbrev listed : Re → List ℕ → List (List ℕ)
listed r w = map (places w r) (from 0 (suc (length w)))

-- b⁺ on abbbabb.
pub two : listed (seq (byte 0 98) (star eager (byte 1 98))) (97 ∷ 98 ∷ 98 ∷ 98 ∷ 97 ∷ 98 ∷ 98 ∷ [])
    ≡ [] ∷ (4 ∷ 3 ∷ 2 ∷ []) ∷ (4 ∷ 3 ∷ []) ∷ (4 ∷ []) ∷ [] ∷ (7 ∷ 6 ∷ []) ∷ (7 ∷ []) ∷ [] ∷ []
unfolding list_by base_star then_leave
two = refl

-- aΣ*b | aΣ*c on baacaabc.
pub three : listed (alt (seq (byte 0 97) (seq (star eager (any 1)) (byte 2 98))) (seq (byte 3 97) (seq (star eager (any 4)) (byte 5 99)))) (98 ∷ 97 ∷ 97 ∷ 99 ∷ 97 ∷ 97 ∷ 98 ∷ 99 ∷ [])
    ≡ [] ∷ (7 ∷ 8 ∷ 4 ∷ []) ∷ (7 ∷ 8 ∷ 4 ∷ []) ∷ [] ∷ (7 ∷ 8 ∷ []) ∷ (7 ∷ 8 ∷ []) ∷ [] ∷ [] ∷ [] ∷ []
unfolding list_by base_star then_leave
three = refl

abbrev empty_or_a : Re
empty_or_a = star eager (alt empty (byte 0 97))

-- SOURCE 000'S ORDER IS NOT THE GREEDY ONE where a repeat stands over a part that matches empty: its greedy denotation of `(|a)*` on aa is 0 2 and no other, the
-- greedy span is 0 0.
pub source_otherwise : ((s : Span) → Denotes (MatchSet (97 ∷ 97 ∷ []) empty_or_a) (Greedy (97 ∷ 97 ∷ []) empty_or_a) s ↔ (s ≡ span 0 2))
    × (greedy empty_or_a (97 ∷ 97 ∷ []) ≡ span 0 0)
unfolding list_by base_star greedy outcomes star_outcomes empty_turn then_leave
source_otherwise = (λ s. base_denotation empty_or_a (97 ∷ 97 ∷ []) s, refl)
