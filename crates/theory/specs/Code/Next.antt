-- The standing that a byte carries a standing to: (a) and (b) from (a) alone, (c) and (d) from (c) alone (`step`).
-- Assumes nothing.
use Rattle.std.specs.Prelude.{ℕ, List, [], ◌∷◌, ◌++◌}
use Rattle.theory.specs.Pattern.{Re}
use Rattle.theory.specs.Standing.{Standing, fronts, wanted, once, set_of}
use Rattle.theory.specs.Code.Follow.{Next, after, has_end}

-- The outcomes after the byte b of the wanted leaves of a list, in its order.
abbrev pub afters : Re → ℕ → List ℕ → List Next
afters r b [] = []
afters r b (p ∷ l) = after r b p ++ afters r b l

unfoldable pub next : Re → Standing → ℕ → Standing
next r s b =
    record {
      order = once (fronts (afters r b s.order));
      first = has_end (afters r b s.order);
      all = set_of r (wanted (afters r b s.all));
      some = has_end (afters r b s.all);
    }
