-- "The carrier's own named sets" (request 9 of paper 02): when a table of named sets passes its checks, and what is accepted and refused with it.
-- Assumes nothing.
use Rattle.std.specs.Prelude.{◌≡◌, ◌≢◌, ℕ, ◌<◌, Bool, true, false, not, ◌&&◌, ◌||◌, List, length, get_or}
use Rattle.grammar.specs.Grammar.{Alternation, alpha, digit, alnum, upper, lower, xdigit, space, punct}
use Rattle.grammar.specs.Limits.{Reads}
use Rattle.grammar.specs.Sets.{has_set}
use Rattle.grammar.specs.Refusals.{Fault, Answer, accepted, refused}

-- "A lent table of 256 bytes."
abbrev pub entries : ℕ
entries = 256

-- Of a byte: one set is two others together, it lies in one set only if in another, it lies in one of two at most.
abbrev pub is_either : Bool → Bool → Bool → Bool
is_either c a b = (not c || a || b) && (not (a || b) || c)

abbrev pub within : Bool → Bool → Bool
within a b = not a || b

abbrev pub apart : Bool → Bool → Bool
apart a b = not (a && b)

-- The checks of an entry: "alnum is alpha or digit; upper and lower lie within alpha; digit lies within xdigit; alpha and digit share no byte; punct shares none with alnum
-- or space".
abbrev pub passes : ℕ → Bool
passes e =
    is_either (has_set e alnum) (has_set e alpha) (has_set e digit)
    && (within (has_set e upper) (has_set e alpha)
    && (within (has_set e lower) (has_set e alpha)
    && (within (has_set e digit) (has_set e xdigit)
    && (apart (has_set e alpha) (has_set e digit)
    && (apart (has_set e punct) (has_set e alnum)
    && apart (has_set e punct) (has_set e space))))))

-- A table that passes.
pub record Passes (loaded : List ℕ) : Type 0 where
  pub long : length loaded ≡ entries
  pub each : (b : ℕ) → b < entries → passes (get_or loaded b 0) ≡ true

-- A table that fails, and its place: "the lowest failing entry .., or 256 if its length is not 256".
pub data Fails (loaded : List ℕ) : ℕ → Type 0 where
  unfit : length loaded ≢ entries → Fails loaded entries
  at_entry : {q : ℕ} → length loaded ≡ entries → q < entries → passes (get_or loaded q 0) ≡ false → ((b : ℕ) → b < q → passes (get_or loaded b 0) ≡ true) → Fails loaded q

-- "It is checked before use": the pattern p is accepted with the tree t,
pub record Accepts (loaded p : List ℕ) (t : Alternation) : Type 0 where
  pub sets : Passes loaded
  pub reads : Reads p t

-- or refused with the number n at the place q. "A table that fails is 14 ..; it comes ahead of every refusal of the pattern."
pub data Refuses (loaded p : List ℕ) : ℕ → ℕ → Type 0 where
  by_sets : {q : ℕ} → Fails loaded q → Refuses loaded p 14 q
  by_pattern : {n q : ℕ} → Passes loaded → Fault p n q → Refuses loaded p n q

-- The answer that is right for the pattern p with the table that is loaded.
abbrev pub Answers : List ℕ → List ℕ → Answer → Type 0
Answers loaded p (accepted t) = Accepts loaded p t
Answers loaded p (refused n q) = Refuses loaded p n q
