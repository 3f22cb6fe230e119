-- What depends on no line: the outcomes of a part at a line's end, and those right after a leaf took the line's last byte, with the marks that are put there.
-- Assumes nothing.
use Rattle.std.specs.Prelude.{ℕ, suc, eqb}
use mathlib.Core.List.{List, [], ◌∷◌, ◌++◌}
use Rattle.theory.specs.Pattern.{Re, empty, leaf, seq, alt, star, field, has}
use Rattle.theory.specs.Outcomes.{empty_turn, when}
use Rattle.traces.specs.Traces.{Mark, opened, Carried, end, want, replace, and_then, carry, then_leave, close}

module _ {C : Type 0} (mark : Mark → C → C) where
  -- theory's `start` and `follow`, at the place n, from what the way carries there.
  unfoldable pub start : Re → ℕ → C → List (Carried C)
  start empty n v = end n v
  start (leaf p s) n v = want p v
  start (seq x y) n v = and_then (start x n v) (start y)
  start (alt x y) n v = start x n v ++ start y n v
  start (star how x) n v = then_leave how (and_then (start x n v) (λ k u. carry u (empty_turn k))) n v
  start (field f x) n v = and_then (start x n (mark (opened f n) v)) (close mark f)

  unfoldable pub follow : Re → ℕ → ℕ → C → List (Carried C)
  unfolding start
  follow empty p n v = []
  follow (leaf q s) p n v = when (eqb p q) (end n v)
  follow (seq x y) p n v = and_then (follow x p n v) (start y) ++ follow y p n v
  follow (alt x y) p n v = follow x p n v ++ follow y p n v
  follow (star how x) p n v = and_then (follow x p n v) (start (star how x))
  follow (field f x) p n v = and_then (follow x p n v) (close mark f)

  -- What becomes of `wants p` when the line grows by b to the length n.
  abbrev pub after : Re → ℕ → ℕ → ℕ → C → List (Carried C)
  after r b p n v = when (has r p b) (follow r p n v)

  -- A list run over the rest of the line from the place i: theory's `runs`.
  unfoldable pub runs : Re → List (Carried C) → List ℕ → ℕ → List (Carried C)
  runs r l [] i = l
  runs r l (b ∷ rest) i = replace end (λ p v. runs r (after r b p (suc i) v) rest (suc i)) l
