-- What the test works out of a pattern's arrays first: the leaves that share a byte, and the live ones.
-- Assumes nothing.
use Rattle.std.specs.Prelude.{◌≡◌, ◌⊎◌, ◌↔◌, ℕ, suc, ◌≤◌, ◌<◌, ◌&&◌, ◌||◌, List, length, get_or, T}
use Rattle.theory.specs.Standing.{from}
use Rattle.theory.specs.Code.Members.{any}
use Rattle.words.specs.Sets.{has_bit}

-- Each leaf of the mask shares its byte with all of them.
pub record Shared (old : List ℕ) (mask : ℕ) (new : List ℕ) : Type 0 where
  pub size : length new ≡ 64
  pub bits : (p q : ℕ) → p < 64 → has_bit (get_or new p 0) q ≡ (has_bit (get_or old p 0) q || (has_bit mask p && has_bit mask q))

-- Bit q of number p: some byte is in the sets of both.
pub record Shares (masks shares : List ℕ) : Type 0 where
  pub size : length shares ≡ 64
  pub bits : (p q : ℕ) → p < 64 → has_bit (get_or shares p 0) q ≡ any (λ b. has_bit (get_or masks b 0) p && has_bit (get_or masks b 0) q) (from 0 256)

module _ (shares sets : List ℕ) (ending : ℕ) where
  -- The leaf p takes some byte; the leaf q may come right after it; an end stands after it.
  abbrev pub TakesBy : ℕ → Type 0
  TakesBy p = T (has_bit (get_or shares p 0) p)

  abbrev pub FollowsBy : ℕ → ℕ → Type 0
  FollowsBy p q = T (has_bit (get_or sets (suc p) 0) q)

  abbrev pub EndsBy : ℕ → Type 0
  EndsBy p = T (has_bit ending p)

  -- The live leaves by the arrays.
  pub data LiveBy : ℕ → Type 0 where
    last : {p : ℕ} → p < 64 → TakesBy p → EndsBy p → LiveBy p
    onward : {p q : ℕ} → p < 64 → TakesBy p → FollowsBy p q → LiveBy q → LiveBy p

  -- A pass from the leaves of `old` to those of `new`.
  pub record LivePass (old new : ℕ) : Type 0 where
    pub grows : old ≤ new
    pub sound : ((p : ℕ) → T (has_bit old p) → LiveBy p) → (p : ℕ) → T (has_bit new p) → LiveBy p
    pub closed : new ≡ old → (p : ℕ) → p < 64 → TakesBy p → EndsBy p ⊎ ((q : ℕ) × FollowsBy p q × T (has_bit old q)) → T (has_bit old p)

  -- x has the live leaves, and no others.
  abbrev pub LiveLeaves : ℕ → Type 0
  LiveLeaves x = (p : ℕ) → T (has_bit x p) ↔ LiveBy p
