-- What the layers above use of the readings: the reply is the one computed from the definitions, and its spans are those of the pattern.
-- Assumes nothing.
use mathlib.Core.Path.{◌≡◌, ap, ◌∙◌}
use Prim.Native.Nat.{ℕ}
use mathlib.Core.List.{List}
use Rattle.std.specs.Prelude.{Option, Result, Ok}
use Rattle.grammar.specs.Grammar.{Alternation}
use Rattle.grammar.specs.Loaded.{Accepts, Answers}
use Rattle.grammar.specs.WriteOut.{write_out}
use Rattle.grammar.specs.Refusals as Due
use Rattle.grammar.proofs.Loaded.{one_answer}
use Rattle.reader.specs.declared.refusal.Refusal.{Refusal}
use Rattle.matchers.specs.declared.Spans.{Spans}
use Rattle.matchers.specs.Cuts.{Cut}
use Rattle.readings.specs.Replies.{meaning, due, Replied}

module _ {loaded p w : List ℕ} where
  -- THE REPLY IS THE ONE OF THE DEFINITIONS: one equation, for every table of named sets, every pattern and every line.
  pub reply_is : {r : Result (Option Spans) Refusal} → Replied loaded p w r → (d : Due.Answer) → Answers loaded p d → meaning r ≡ due loaded d w
  reply_is h d k = h.means ∙ ap (λ a. due loaded a w) (one_answer loaded p h.answer d h.right k)

  -- The spans are those of the pattern, if it is one.
  pub spans_of : {s : Option Spans} → Replied loaded p w (Ok s) → (a : Alternation) → Accepts loaded p a → Cut (write_out loaded a) w s
  spans_of h a reads = let e = reply_is h (Due.accepted a) reads in record { greedily = cc; longest = cc }
