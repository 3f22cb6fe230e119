-- Demand 2 in its words, about the reply of `cut_line`, what demand 1 says of its refusal, what request 5 leaves as it was, and what request 6 says of every span.
-- Assumes nothing.
use mathlib.Core.Path.{◌≡◌, refl, sym, ap, ◌∙◌, subst}
use mathlib.Core.Logic.{◌↔◌}
use Prim.Native.Nat.{ℕ}
use mathlib.Core.List.{List, []}
use native.Mathlib.Omega.{arith}
use Rattle.std.specs.Prelude.{Option, Some, None, Result, Ok, Err}
use Rattle.theory.specs.Spans.{Span, nowhere, greedy_by, posix_by}
use Rattle.theory.specs.Base.{turns_first}
use Rattle.theory.specs.Demand.{GreedyTakes, PosixTakes, NoMatch}
use Rattle.theory.proofs.Demand.{greedy_takes, posix_takes, greedy_none}
use Rattle.theory.proofs.Unmoved.{eager_greedy, eager_posix}
use Rattle.grammar.specs.Grammar.{Alternation, alternation}
use Rattle.grammar.specs.Eager.{eagerly}
use Rattle.grammar.specs.Loaded.{Accepts, Refuses, Answers}
use Rattle.grammar.specs.Refusals as Due
use Rattle.grammar.specs.WriteOut.{write_out}
use Rattle.grammar.proofs.Loaded.{accepts_not_refuses}
use Rattle.grammar.proofs.Eager.{eagerly_posix, unsigned_eager}
use Rattle.grammar.proofs.Unsigned.{eagerly_reads}
use Rattle.lengths.specs.Lengths.{LengthBetween}
use Rattle.lengths.specs.Code as Lengths
use Rattle.lengths.proofs.Accepted.{greedy_length, posix_length}
use Rattle.reader.specs.declared.Reading.{Reading}
use Rattle.reader.specs.declared.refusal.Refusal.{Refusal}
use Rattle.reader.specs.Reading.{ReadRight}
use Rattle.reader.specs.Numbers.{number_of}
use Rattle.reader.proofs.Laws.{accepted_tree}
use Rattle.matchers.specs.declared.Spans.{Spans}
use Rattle.matchers.specs.Cuts.{greedy_of, posix_of}
use Rattle.readings.specs.Replies.{refused, meaning, due, Replied, RefusedWith}
use Rattle.readings.proofs.Laws.{reply_is, spans_of}

-- A refusal is said by an error of the code, and due by one of the grammar's answers.
refused_case : {n k : ℕ} (r : Result (Option Spans) Refusal) → meaning r ≡ refused n k → RefusedWith n k r
refused_case (Ok s) e = absurd (let z : ◌≡◌ {A = ℕ} 0 1 = cc in omega arith)
refused_case (Err x) e = (cc, cc)

refused_due : (loaded w : List ℕ) {n k : ℕ} (d : Due.Answer) → refused n k ≡ due loaded d w → d ≡ Due.refused n k
refused_due loaded w (Due.accepted t) e = absurd (let z : ◌≡◌ {A = ℕ} 0 1 = cc in omega arith)
refused_due loaded w {n} {k} (Due.refused m j) e = let a : m ≡ n = cc in let b : j ≡ k = cc in rw (a, b)

nowhere_case : (s : Option Spans) → greedy_of s ≡ nowhere → s ≡ None
nowhere_case None e = refl
nowhere_case (Some s) e = absurd (let z : ◌≡◌ {A = ℕ} 0 1 = cc in omega arith)

module _ {loaded p w : List ℕ} where
  -- REFUSED exactly with the number and the place of the pattern's fault, or of the table's: with a table that passes, exactly the patterns outside the grammar or above
  -- its limits are.
  pub cut_refused : {r : Result (Option Spans) Refusal} {n k : ℕ} → Replied loaded p w r → RefusedWith n k r ↔ Refuses loaded p n k
  cut_refused {r} {n} {k} h = (
    λ e. subst (Answers loaded p) (refused_due loaded w h.answer (said r e ∙ h.means)) h.right,
    λ f. refused_case r (reply_is h (Due.refused n k) f),
  )
    where
      said : (r : Result (Option Spans) Refusal) → RefusedWith n k r → refused n k ≡ meaning r
      said (Ok s) e = absurd e
      said (Err x) e = rw (e.0, e.1)

  module _ (a : Alternation) (reads : Accepts loaded p a) where
    -- ACCEPTED: every pattern of the grammar within its limits.
    pub cut_accepted : (r : Result (Option Spans) Refusal) → Replied loaded p w r → (s : Option Spans) × (r ≡ Ok s)
    cut_accepted (Ok s) h = (s, refl)
    cut_accepted (Err e) h = absurd (accepts_not_refuses loaded p a (number_of e.fault) e.place reads ((cut_refused h).0 (refl, refl)))

    module _ {i j k : ℕ} (h : Replied loaded p w (Ok (Some (record { start = i; greedy = j; posix = k })))) where
      -- GREEDY: from the leftmost start at which the pattern matches to the first end in the order of preference.
      pub cut_greedy : GreedyTakes (write_out loaded a) w i j
      cut_greedy = (greedy_takes (write_out loaded a) w i j).0 (sym (spans_of h a reads).greedily)

      -- POSIX: from the same start to the greatest end there.
      pub cut_posix : PosixTakes (write_out loaded a) w i k
      cut_posix = (posix_takes (write_out loaded a) w i k).0 (sym (spans_of h a reads).longest)

    module _ {s : Option Spans} (h : Replied loaded p w (Ok s)) where
      -- NONE exactly if no part of the line matches.
      pub cut_none : (s ≡ None) ↔ NoMatch (write_out loaded a) w
      cut_none = (
        λ e. (greedy_none (write_out loaded a) w).0 (sym (spans_of h a reads).greedily ∙ ap greedy_of e),
        λ n. nowhere_case s ((spans_of h a reads).greedily ∙ (greedy_none (write_out loaded a) w).1 n),
      )

      -- OF A PATTERN WITHOUT LAZY REPEATS both spans are those of the list in which every repeat takes its turns first.
      pub cut_eager : eagerly a ≡ a → (greedy_of s ≡ greedy_by turns_first (write_out loaded a) w) × (posix_of s ≡ posix_by turns_first (write_out loaded a) w)
      cut_eager u =
          let e = unsigned_eager loaded a u in
          ((spans_of h a reads).greedily ∙ eager_greedy (write_out loaded a) e w, (spans_of h a reads).longest ∙ eager_posix (write_out loaded a) e w)

-- THE POSIX READING DOES NOT LOOK AT THE SIGNS: the same text without the `?` of its lazy repeats is accepted, and the span is the one handed over for it.
pub cut_unsigned : {loaded p w : List ℕ} (a : Alternation) → Accepts loaded p a → {s : Option Spans} → Replied loaded p w (Ok s) → (q : Result (Option Spans) Refusal)
    → Replied loaded (alternation (eagerly a) []) w q → (u : Option Spans) × (q ≡ Ok u) × (posix_of s ≡ posix_of u)
cut_unsigned {loaded} {p} {w} a reads h q k =
    let plain : Accepts loaded (alternation (eagerly a) []) (eagerly a) = record { sets = reads.sets; reads = eagerly_reads p a reads.reads } in
    let (u, e) = cut_accepted (eagerly a) plain q k in
    (u, e, (spans_of h a reads).longest ∙ sym (eagerly_posix loaded a w) ∙ sym (spans_of (subst (Replied loaded (alternation (eagerly a) []) w) e k) (eagerly a) plain).longest)

module _ {loaded p w : List ℕ} {s : Option Spans} (h : Replied loaded p w (Ok s)) {x : Reading} (read : ReadRight loaded p (Ok x)) where
  abbrev Within : Span → Type 0
  Within v = LengthBetween (Lengths.meaning x.lengths) v

  -- THE LENGTHS THAT THE READER HANDS BACK bound both spans that are handed over, of every line.
  pub cut_between : Within (greedy_of s) × Within (posix_of s)
  cut_between =
      let (t, reads, brackets, long, is) = accepted_tree read in
      let both = spans_of h t reads in
      rw (both.greedily, both.longest, long) (greedy_length loaded p t reads.reads w, posix_length loaded p t reads.reads w)
