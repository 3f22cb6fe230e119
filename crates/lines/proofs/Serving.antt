-- The answers to the lines of a chunk, while they are given.
-- Assumes nothing.
use mathlib.Core.Path.{◌≡◌, refl, sym, ap, ◌∙◌}
use mathlib.Core.Logic.{◌⊎◌}
use mathlib.Core.Bool.{true, false}
use mathlib.Core.List.{List, [], ◌++◌, append_assoc, append-nil}
use Prim.Native.Nat.{ℕ, ◌+◌, ◌<◌}
use native.Mathlib.Omega.{arith}
use lib.Dec.{leb}
use borrow.Author.Tests.{leb-true}
use lib.ListN.{length, take, length-append}
use Rattle.std.specs.Prelude.{None, Some}
use Rattle.printing.specs.Text.{Prints}
use Rattle.printing.proofs.Laws.{fits}
use Rattle.printing.specs.declared.Output.{Output}
use Rattle.lines.specs.declared.Place.{Place}
use Rattle.lines.specs.declared.Input.{Input}
use Rattle.lines.specs.Lines.{up_to, ended, past, kept, rest, held, begun, NextLine}
use Rattle.lines.specs.Steps.{text_at, PassLine}
use Rattle.lines.specs.Answers.{Answers, none, next, part, Served}
use Rattle.lines.proofs.Laws.{not_ended}

-- From the input s to the input r some lines are answered.
pub record Serving {S : Type 0} (A : S → List ℕ → List ℕ → S → Type 0) (s : Input) (o : Output) (x : S) (r : Input) (o' : Output) (y : S) : Type 0 where
  pub text : List ℕ
  pub answers : Answers A x (begun s.line) (rest s.chunk) text y (begun r.line) (rest r.chunk)
  pub waits : take o'.used o'.bytes ≡ take o.used o.bytes ++ text
  pub used : o'.used ≡ o.used + length text
  pub chunk : r.chunk.bytes ≡ s.chunk.bytes
  pub source : r.source ≡ s.source

module _ {S : Type 0} {A : S → List ℕ → List ℕ → S → Type 0} {s : Input} {o : Output} {x : S} where
  -- None yet.
  pub serving_first : Serving A s o x s o x
  serving_first = record { text = []; answers = none; waits = sym (append-nil (take o.used o.bytes)); used = omega arith; chunk = refl; source = refl }

  module _ {r t : Input} {p : Output} {y : S} (g : Serving A s o x r p y) where
    -- A line is whole, and its answer joins what waits.
    serving_whole : {l : List ℕ} {q : Output} {k : ℕ} {z : S} → ended (rest r.chunk) ≡ true → l ≡ kept (begun r.line ++ up_to (rest r.chunk)) → t.line.whole ≡ true
        → rest t.chunk ≡ past (rest r.chunk) → t.chunk.bytes ≡ r.chunk.bytes → t.source ≡ r.source
        → Prints k (λ w. A y l w z) p q → true ≡ leb (p.used + k) 65536 → Serving A s o x t q z
    serving_whole {q = q} {k} ends bytes e left chunk source (w, a, size, added) h =
        let room = leb-true (p.used + k) 65536 (sym h) in
        let (m, text) = fits added (omega arith) in
        record {
          text = g.text ++ w;
          answers = rw (e, left) (next g.answers ends (rw bytes at a));
          waits = text ∙ ap (λ l. l ++ w) g.waits ∙ append_assoc (take o.used o.bytes) g.text w;
          used = omega (arith, g.used, length-append g.text w);
          chunk = chunk ∙ g.chunk;
          source = source ∙ g.source;
        }

    -- The chunk ends before the line does.
    serving_begun : ended (rest r.chunk) ≡ false → held t.line ≡ kept (begun r.line ++ up_to (rest r.chunk)) → t.line.whole ≡ false
        → rest t.chunk ≡ past (rest r.chunk) → t.chunk.bytes ≡ r.chunk.bytes → t.source ≡ r.source → Serving A s o x t p y
    serving_begun ends bytes e left chunk source =
        let (u, v) = not_ended (rest r.chunk) ends in
        record {
          text = g.text;
          answers = rw (e, bytes, left, u, v) (part g.answers ends);
          waits = g.waits;
          used = g.used;
          chunk = chunk ∙ g.chunk;
          source = source ∙ g.source;
        }

    -- The same of a line that is passed,
    pub serving_passed : {b : Place} {q : Output} {k : ℕ} {z : S} → PassLine r (Some b) t → Prints k (λ w. A y (text_at t b) w z) p q → true ≡ leb (p.used + k) 65536
        → Serving A s o x t q z
    serving_passed n a h = let (ends, bytes) = n.stands in serving_whole ends bytes (n.whole ∙ ends) n.left n.chunk n.source a h

    pub serving_goes_on : PassLine r None t → Serving A s o x t p y
    serving_goes_on n = let (ends, bytes) = n.stands in serving_begun ends bytes (n.whole ∙ ends) n.left n.chunk n.source

    -- and of one that is kept.
    module _ (n : NextLine r t) where
      pub serving_next : {q : Output} {k : ℕ} {z : S} → t.line.whole ≡ true → Prints k (λ w. A y (held t.line) w z) p q → true ≡ leb (p.used + k) 65536
          → Serving A s o x t q z
      serving_next e a h = serving_whole (sym n.whole ∙ e) n.bytes e n.left n.chunk n.source a h

      pub serving_part : t.line.whole ≡ false → Serving A s o x t p y
      serving_part e = serving_begun (sym n.whole ∙ e) n.bytes e n.left n.chunk n.source

  -- Nothing is left of the chunk, or there is no room.
  pub served : {r : Input} {p : Output} {y : S} {longest : ℕ} → Serving A s o x r p y → (rest r.chunk ≡ []) ⊎ (65536 < p.used + longest) → Served A longest s o x r p y
  served g e = record { text = g.text; answers = g.answers; waits = g.waits; used = g.used; chunk = g.chunk; source = g.source; all = e }

-- The same answers in other words: where P holds of x, B says of what g makes of it what A says of x.
module _ {S T : Type 0} {A : S → List ℕ → List ℕ → S → Type 0} {B : T → List ℕ → List ℕ → T → Type 0} (P : S → Type 0) (g : S → T)
    (h : (x y : S) (l w : List ℕ) → P x → A x l w y → B (g x) l w (g y) × P y) where
  answers_map : {x : S} {first bytes text : List ℕ} {y : S} {f b : List ℕ} → P x → Answers A x first bytes text y f b → Answers B (g x) first bytes text (g y) f b × P y
  answers_map p none = (none, p)
  answers_map p (next a e w) = let (m, q) = answers_map p a in let (n, r) = h _ _ _ _ q w in (next m e n, r)
  answers_map p (part a e) = let (m, q) = answers_map p a in (part m e, q)

  pub served_map : {s r : Input} {o o' : Output} {x y : S} {longest : ℕ} → P x → Served A longest s o x r o' y → Served B longest s o (g x) r o' (g y)
  served_map p v = record { text = v.text; answers = (answers_map p v.answers).0; waits = v.waits; used = v.used; chunk = v.chunk; source = v.source; all = v.all }
