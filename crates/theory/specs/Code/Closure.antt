-- Outcomes at the line's end as numbers, each once: what a program can keep in an array of one more place than the pattern has leaves.
-- `here` is 0 and `wants p` is one more than p.
-- Assumes nothing.
use Rattle.std.specs.Prelude.{ℕ, zero, suc, cond, List, [], ◌∷◌, ◌++◌, eqb}
use Rattle.theory.specs.Pattern.{Manner, eager, lazy, Re, empty, leaf, seq, alt, star, field, has}
use Rattle.theory.specs.Outcomes.{ends_at, wants}
use Rattle.theory.specs.Standing.{once}
use Rattle.theory.specs.Code.Follow.{Next}

-- The lists as numbers.
abbrev pub item : Next → ℕ
item (ends_at u) = 0
item (wants p) = suc p

abbrev pub items : List Next → List ℕ
items [] = []
items (o ∷ l) = item o ∷ items l

-- The lists f p, p from l, joined.
abbrev pub flat : (ℕ → List ℕ) → List ℕ → List ℕ
flat f [] = []
flat f (p ∷ l) = f p ++ flat f l

-- The list m for each 0 of l.
abbrev pub at0 : List ℕ → ℕ → List ℕ
at0 m zero = m
at0 m (suc p) = suc p ∷ []

abbrev pub splice : List ℕ → List ℕ → List ℕ
splice m l = flat (at0 m) l

-- A repeat's turns, and where it is left.
abbrev pub leaving : Manner → List ℕ → List ℕ
leaving eager l = l ++ (0 ∷ [])
leaving lazy l = 0 ∷ l

-- THE CLOSURE OF A PART, with each outcome once, from those of its parts.
unfoldable pub closure : Re → List ℕ
closure empty = 0 ∷ []
closure (leaf p s) = suc p ∷ []
closure (seq x y) = once (splice (closure y) (closure x))
closure (alt x y) = once (closure x ++ closure y)
closure (star how x) = once (leaving how (closure x))
closure (field f x) = closure x

-- The same right after the leaf p took a byte.
unfoldable pub closure_after : Re → ℕ → List ℕ
closure_after empty p = []
closure_after (leaf q s) p = cond (eqb p q) (0 ∷ []) []
closure_after (seq x y) p = once (splice (closure y) (closure_after x p) ++ closure_after y p)
closure_after (alt x y) p = once (closure_after x p ++ closure_after y p)
closure_after (star how x) p = once (splice (closure (star how x)) (closure_after x p))
closure_after (field f x) p = closure_after x p

-- What a byte makes of a list of leaves.
abbrev pub takes : Re → ℕ → ℕ → List ℕ
takes r b p = cond (has r p b) (closure_after r p) []

unfoldable pub moves : Re → ℕ → List ℕ → List ℕ
moves r b l = once (flat (takes r b) l)

-- (a) is what stands before the 0, and (b) is that there is one.
abbrev pub front : List ℕ → List ℕ
front [] = []
front (zero ∷ l) = []
front (suc p ∷ l) = p ∷ front l
