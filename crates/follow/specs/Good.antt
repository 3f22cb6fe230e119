-- What holds of each list of outcomes.
-- Assumes nothing.
use Rattle.std.specs.Prelude.{◌≡◌, ℕ, suc, ◌≤◌, ◌<◌, Bool, List, length, take, T}
use Rattle.theory.specs.Standing.{member, once}
use Rattle.words.specs.Sets.{has_bit}

-- The list has each number once, none above 64; the bits are those of its numbers, and the end is among them where it says so.
pub record Good (items fields : List ℕ) (len bits : ℕ) (ended : Bool) : Type 0 where
  pub long : length items ≡ 65
  pub wide : length fields ≡ 65
  pub room : len ≤ 65
  pub each : once (take len items) ≡ take len items
  pub small : (q : ℕ) → T (member q (take len items)) → q ≤ 64
  pub set : (q : ℕ) → q < 64 → has_bit bits q ≡ member (suc q) (take len items)
  pub end : ended ≡ member 0 (take len items)
