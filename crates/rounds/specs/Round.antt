-- Request 10 of paper 02: "Turns go round in the file's order from the first pattern on, decided ones passed over." There are k patterns, and `due` says how many turns each of
-- them gets in all.
-- Assumes nothing.
use Rattle.std.specs.Prelude.{ℕ, zero, suc, ◌+◌, Bool, cond, eqb, ltb}
use Rattle.std.proofs.Math.Option.{Option, none, some}

-- The pattern after pattern i "in the file's order": after the last comes the first.
unfoldable pub after : ℕ → ℕ → ℕ
after k i = cond (ltb (suc i) k) (suc i) 0

-- Of the d patterns from i on, the first that is undecided: "decided ones passed over".
unfoldable pub first_of : ℕ → (ℕ → Bool) → ℕ → ℕ → Option ℕ
first_of k undecided zero i = none
first_of k undecided (suc d) i = cond (undecided i) (some i) (first_of k undecided d (after k i))

-- The pattern that the next turn looks at first, and how many turns each has had.
pub record Round : Type 0 where
  pub place : ℕ
  pub had : ℕ → ℕ

-- "From the first pattern on."
abbrev pub begin : Round
begin = record { place = 0; had = λ i. 0 }

-- A pattern is undecided until it has had its turns.
abbrev pub undecided : (ℕ → ℕ) → Round → ℕ → Bool
undecided due x i = ltb (x.had i) (due i)

-- The pattern that the next turn serves.
abbrev pub served : ℕ → (ℕ → ℕ) → Round → Option ℕ
served k due x = first_of k (undecided due x) k x.place

-- What follows its turn: "a step with nothing undecided names no pattern and changes nothing".
abbrev pub after_turn : ℕ → Round → Option ℕ → Round
after_turn k x none = x
after_turn k x (some i) = record { place = after k i; had = λ j. cond (eqb i j) (suc (x.had j)) (x.had j) }

unfoldable pub turn : ℕ → (ℕ → ℕ) → Round → Round
turn k due x = after_turn k x (served k due x)

-- "This step repeated": n times, from the first pattern on.
unfoldable pub turns : ℕ → (ℕ → ℕ) → ℕ → Round
turns k due zero = begin
turns k due (suc n) = turn k due (turns k due n)

-- "Summed over the patterns."
unfoldable pub total : (ℕ → ℕ) → ℕ → ℕ
total f zero = 0
total f (suc k) = total f k + f k
