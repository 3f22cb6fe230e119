-- The theorems of the request, from a pattern's bytes: what a reply says, where a field lies, and that the greedy span is as without fields.
-- Assumes nothing.
use mathlib.Core.Path.{◌≡◌, ap, ◌∙◌}
use Prim.Native.Nat.{ℕ, ◌≤◌, ◌<◌}
use mathlib.Core.List.{List}
use native.Mathlib.Omega.{arith}
use Rattle.theory.specs.Spans.{span, greedy}
use Rattle.grammar.specs.Grammar.{Alternation}
use Rattle.grammar.specs.Loaded.{Answers}
use Rattle.grammar.specs.Brackets.{brackets}
use Rattle.grammar.specs.WriteOut.{write_out}
use Rattle.grammar.specs.Refusals as Due
use Rattle.grammar.proofs.Loaded.{one_answer}
use Rattle.traces.specs.Fields.{absent, between, field_at}
use Rattle.traces.specs.Nest.{Told, never, last, Around}
use Rattle.traces.proofs.Fields.{greedy_way, field_told, field_absent, inner_turn}
use Rattle.std.specs.Prelude.{Result}
use Rattle.reader.specs.declared.refusal.Refusal.{Refusal}
use Rattle.fields.specs.declared.Reply.{Reply}
use Rattle.fields.specs.Answer.{due}
use Rattle.fields.specs.Cuts.{says, Replied}
use Rattle.fields.specs.Inner.{Inner}
use Rattle.fields.proofs.Written.{write_out_apart, write_out_without, write_out_under}

-- THE REPLY IS THE ONE OF THE DEFINITIONS: one equation, for every table of named sets, every pattern and every line.
pub reply_is : {loaded p w : List ℕ} {r : Result Reply Refusal} → Replied loaded p w r → (d : Due.Answer) → Answers loaded p d → says r ≡ due loaded d w
reply_is {loaded} {p} {w} h d k = h.is ∙ ap (λ a. due loaded a w) (one_answer loaded p h.answer d h.right k)

module _ (loaded : List ℕ) (t : Alternation) (w : List ℕ) (i k : ℕ) (e : greedy (write_out loaded t) w ≡ span i k) where
  -- EACH FIELD is its last turn along the most preferred way, or absent if the way never enters it.
  pub field_is : (f : ℕ) → Told f (greedy_way (write_out loaded t) w i k e).0 i k (field_at (write_out loaded t) w f)
  field_is f = field_told (write_out loaded t) w i k e (write_out_apart loaded t) f

  -- EVERY FIELD LIES WITHIN THE SPAN.
  pub field_within : (f a b : ℕ) → field_at (write_out loaded t) w f ≡ between a b → (i ≤ a) × (a ≤ b) × (b ≤ k)
  field_within f a b c = go (field_is f) c
    where
      go : {x : _} → Told f (greedy_way (write_out loaded t) w i k e).0 i k x → x ≡ between a b → (i ≤ a) × (a ≤ b) × (b ≤ k)
      go (never l) c = absurd (let z : ◌≡◌ {A = ℕ} 0 1 = cc in omega arith)
      go (last {a = u} {b = v} l x y z) c = let p : u ≡ a = cc in let q : v ≡ b = cc in (omega arith, omega arith, omega arith)

  -- AN INNER FIELD'S LAST TURN LIES IN SOME TURN OF THE OUTER ONE.
  pub inner_within : (f g a b : ℕ) → Inner f g t 0 → field_at (write_out loaded t) w g ≡ between a b → Around f (greedy_way (write_out loaded t) w i k e).0 a b
  inner_within f g a b n c = inner_turn (write_out loaded t) w i k e (write_out_apart loaded t) f g (write_out_under loaded t f g n) a b c

  -- A field that the text has not is absent.
  pub field_beyond : (f : ℕ) → brackets t < f → field_at (write_out loaded t) w f ≡ absent
  field_beyond f h = field_absent (write_out loaded t) w i k e (write_out_apart loaded t) f (write_out_without loaded t f h)
