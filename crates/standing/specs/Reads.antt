-- The leaves before the first end, as the code gathers them: what reading outcomes adds to them.
-- Assumes nothing.
use Rattle.std.specs.Prelude.{◌≡◌, ℕ, zero, suc, ◌≤◌, ◌<◌, ◌&&◌, ◌||◌, cond, List, [], ◌∷◌, length, take, T, ltb}
use Rattle.theory.specs.Standing.{member, gather, once}
use Rattle.theory.specs.Code.Members.{Once}
use Rattle.words.specs.Sets.{has_bit}
use Rattle.follow.specs.declared.Tables.{Tables}
use Rattle.follow.specs.Rows.{row}
use Rattle.standing.specs.declared.Front.{Front}

-- The leaves that are gathered.
abbrev pub order : Front → List ℕ
order f = take f.n f.list

-- They are below 64, each there once, and the bits are the same leaves.
pub record Sound (f : Front) : Type 0 where
  pub long : length f.list ≡ 64
  pub size : f.n ≤ 64
  pub marked : (p : ℕ) → has_bit f.seen p ≡ member p (order f)
  pub below : (p : ℕ) → T (member p (order f)) → p < 64
  pub apart : Once (order f)

-- The wanted leaves before the first end. A number above 64 is no outcome.
abbrev pub leaves : List ℕ → List ℕ
leaves [] = []
leaves (zero ∷ l) = []
leaves (suc p ∷ l) = cond (ltb p 64) (p ∷ leaves l) (leaves l)

-- The outcomes l read after those of f: nothing counts after an end.
pub record Read (f : Front) (l : List ℕ) (g : Front) : Type 0 where
  pub sound : Sound g
  pub order : order g ≡ cond f.ends (order f) (gather (order f) (leaves l))
  pub ended : g.ends ≡ (f.ends || member 0 l)

-- The outcomes l read, and no others.
pub record Fronts (l : List ℕ) (f : Front) : Type 0 where
  pub sound : Sound f
  pub order : order f ≡ once (leaves l)
  pub ended : f.ends ≡ member 0 l

-- The outcomes after the leaf p took a byte: none if the byte's mask is without it.
abbrev pub outcomes_after : ℕ → Tables → ℕ → List ℕ
outcomes_after mask t p = cond (ltb p 64 && has_bit mask p) (row t (suc p)) []
