-- The spans of a reply are those of the pattern, and a witness has both.
-- Assumes nothing.
use mathlib.Core.Path.{◌≡◌, sym, ap, ◌∙◌, subst}
use Prim.Native.Nat.{ℕ}
use mathlib.Core.List.{List}
use native.Mathlib.Omega.{arith}
use lib.ListN.{take}
use Rattle.theory.specs.Spans.{greedy, posix}
use Rattle.theory.proofs.Tests.{either}
use Rattle.grammar.specs.Grammar.{Alternation}
use Rattle.grammar.specs.Loaded.{Accepts}
use Rattle.grammar.specs.WriteOut.{write_out}
use Rattle.grammar.proofs.Loaded.{accepts_or_refuses}
use Rattle.verdict.specs.Tabled.{unlike, whole}
use Rattle.verdict.specs.Checked.{Checked, by_fault}
use Rattle.verdict.proofs.One.{result}
use Rattle.verdict.proofs.Checked.{checked_one}
use Rattle.verdict.proofs.Demand.{unlike_means}
use Rattle.std.specs.Prelude.{Option, Some, None, Ok, Err}
use Rattle.grammar.specs.Refusals as Due
use Rattle.grammar.specs.Loaded.{Answers}
use Rattle.reader.specs.declared.refusal.Refusal.{Refusal}
use Rattle.matchers.specs.declared.Spans.{Spans}
use Rattle.matchers.specs.Cuts.{greedy_of, posix_of}
use Rattle.readings.specs.Replies.{due, Replied}
use Rattle.readings.specs.Replies as Replies
use Rattle.readings.proofs.Laws.{reply_is, spans_of}
use Rattle.screen.proofs.Laws.{rewrites_accepted}
use Rattle.printing.specs.Text.{ExplainedLine}
use Rattle.answers.specs.Line.{CutLine}
use Rattle.answers.specs.Cutting.{MadeReadable, Shown}
use Rattle.answers.specs.Cutting as Shows

-- A reply that is no refusal is an accepted pattern's.
reads_of : {loaded p w : List ℕ} {s : Option Spans} → Replied loaded p w (Ok s) → (a : Alternation) × Accepts loaded p a
reads_of {loaded} {p} {w} {s} h = go h.answer h.right h.means
  where
    go : (d : Due.Answer) → Answers loaded p d → Replies.cut (greedy_of s) (posix_of s) ≡ due loaded d w → (a : Alternation) × Accepts loaded p a
    go (Due.accepted t) r e = (t, r)
    go (Due.refused n k) r e = absurd (let z : ◌≡◌ {A = ℕ} 0 1 = cc in omega arith)

module _ {loaded p w : List ℕ} where
  -- The pattern is refused, or neither span is there,
  pub refused_spans : {e : Refusal} → Replied loaded p w (Err e) → (a : Alternation) → Accepts loaded p a → greedy (write_out loaded a) w ≡ posix (write_out loaded a) w
  refused_spans h a i = absurd (let z = reply_is h (Due.accepted a) i in let y : ◌≡◌ {A = ℕ} 0 1 = cc in omega arith)

  pub no_spans : Replied loaded p w (Ok None) → (a : Alternation) → Accepts loaded p a → greedy (write_out loaded a) w ≡ posix (write_out loaded a) w
  no_spans h a i = let c = spans_of h a i in sym c.greedily ∙ c.longest

  -- or both, from one start.
  pub both_spans : {s : Spans} {n : ℕ} {v text : List ℕ} → Replied loaded p w (Ok (Some s)) → MadeReadable loaded p w v → ExplainedLine n w s.start s.greedy s.posix v text → CutLine loaded p n w text
  both_spans {s} {n} {v} {text} h f l =
      let (a, reads) = reads_of h in
      let c = spans_of h a reads in
      record {
        tree = a;
        reads = reads;
        start = s.start;
        short = s.greedy;
        long = s.posix;
        greedily = sym c.greedily;
        longest = sym c.longest;
        line = subst (λ u. ExplainedLine n w s.start s.greedy s.posix u text) (rewrites_accepted f.1 a reads) l;
      }

-- A witness is cut differently, so it is shown with its spans.
pub witness_cut : {loaded p t u s t' v s' text : List ℕ} {n k : ℕ} → Checked loaded p t u s (whole (unlike n k) t' v) s' → Shown loaded p n (take k v) text → CutLine loaded p n (take k v) text
witness_cut c (Shows.cut l) = l
witness_cut {loaded} {p} {t} {u} {s} {t'} {v} {s'} {text} {n} {k} c (Shows.uncut same l) =
    either
    (λ (a, reads). absurd ((unlike_means a reads c).0.cut (same a reads)))
    (λ (m, q, f). let e = ap result (checked_one c (by_fault f)).0 in absurd (let z : ◌≡◌ {A = ℕ} 0 1 = cc in omega arith))
    (accepts_or_refuses loaded p)
