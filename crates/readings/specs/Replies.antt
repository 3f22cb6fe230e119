-- The reply to a pattern and a line: the refusal, or both spans.
-- Assumes nothing.
use Rattle.std.specs.Prelude.{◌≡◌, ℕ, List, Option, Result, Ok, Err}
use Rattle.theory.specs.Spans.{Span, greedy, posix}
use Rattle.grammar.specs.WriteOut.{write_out}
use Rattle.grammar.specs.Loaded.{Answers}
use Rattle.grammar.specs.Refusals as Due
use Rattle.reader.specs.declared.refusal.Refusal.{Refusal}
use Rattle.reader.specs.Numbers.{number_of}
use Rattle.matchers.specs.declared.Spans.{Spans}
use Rattle.matchers.specs.Cuts.{greedy_of, posix_of}

-- The refusal's number and place, or the greedy and the POSIX span.
pub data Told : Type 0 where
  refused : ℕ → ℕ → Told
  cut : Span → Span → Told

-- What a reply says.
abbrev pub meaning : Result (Option Spans) Refusal → Told
meaning (Ok s) = cut (greedy_of s) (posix_of s)
meaning (Err e) = refused (number_of e.fault) e.place

-- What is due for the line w by the grammar's answer, with the named sets that are loaded.
abbrev pub due : List ℕ → Due.Answer → List ℕ → Told
due loaded (Due.accepted t) w = cut (greedy (write_out loaded t) w) (posix (write_out loaded t) w)
due loaded (Due.refused n k) w = refused n k

-- The reply is the one of the right answer.
pub record Replied (loaded p w : List ℕ) (r : Result (Option Spans) Refusal) : Type 0 where
  pub answer : Due.Answer
  pub right : Answers loaded p answer
  pub means : meaning r ≡ due loaded answer w

-- It is the refusal with this number and place.
abbrev pub RefusedWith : ℕ → ℕ → Result (Option Spans) Refusal → Type 0
RefusedWith n k (Ok s) = ⊥
RefusedWith n k (Err e) = (number_of e.fault ≡ n) × (e.place ≡ k)
