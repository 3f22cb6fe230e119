-- The numbers that the library hands over are the lengths of the reader, the bytes of a record, the spans of the matchers, and the fields.
-- Assumes nothing.
use mathlib.Core.Path.{◌≡◌, sym, ap, ap₂, ◌∙◌, subst}
use Prim.Native.Nat.{ℕ, ◌+◌, min}
use mathlib.Core.Bool.{cond}
use mathlib.Core.List.{List, [], ◌∷◌}
use native.Mathlib.Nat.{min-eq_left}
use Rattle.std.proofs.Common.{Some, None, Ok, Err}
use Rattle.theory.specs.Pattern.{count}
use Rattle.grammar.specs.Refusals as Due
use Rattle.grammar.specs.WriteOut.{write_out}
use Rattle.verdict.specs.Record.{narrow}
use Rattle.lengths.specs.Lengths.{lengths}
use Rattle.lengths.specs.Code.{is_limited, bytes_of}
use Rattle.reader.specs.declared.refusal.Refusal.{Refusal as Refused}
use Rattle.reader.specs.declared.Reading.{Reading}
use Rattle.reader.specs.Reading.{ReadRight}
use Rattle.reader.proofs.Laws.{accepted_reads, accepted_leaves, accepted_holds, accepted_lengths, refused_fault}
use Rattle.fields.specs.declared.Piece.{Piece}
use Rattle.fields.specs.Cuts as Fields
use Rattle.matchers.specs.Tables.{Tables}
use Rattle.matchers.specs.declared.Spans.{Spans}
use Rattle.matchers.specs.Cuts as Matchers
use Rattle.yindorka.specs.declared.Refusal.{Refusal}
use Rattle.yindorka.specs.declared.Counted.{Counted}
use Rattle.yindorka.specs.declared.Lengths.{Lengths}
use Rattle.yindorka.specs.Calls.{refusal_of, counted, counted_refusal, sizes_of, lengths_of, Measures, Sizes, located, none, Cuts, spanned, nothing, CutsFields}

module _ {loaded p : List ℕ} where
  -- The lengths of an accepted pattern,
  pub measures_accepted : {x : Reading} {y : Lengths} → ReadRight loaded p (Ok x) → y ≡ sizes_of x.lengths → Measures loaded p y
  measures_accepted {x} read e =
      let (t, reads, least, most) = accepted_lengths read in
      let is : sizes_of x.lengths ≡ lengths_of (Due.accepted t) = λ i. record { number = 0; place = 0; least = least i; limited = cond (is_limited (most i)) 1 0; greatest = bytes_of (most i) } in
      record { answer = Due.accepted t; right = reads; is = e ∙ is }

  -- and of a refused one none.
  pub measures_refused : {e : Refused} {x : Refusal} → ReadRight loaded p (Err e) → x ≡ refusal_of e
      → Measures loaded p (record { number = x.number; place = x.place; least = 0; limited = 0; greatest = 0 })
  measures_refused {e} read f =
      record { answer = Due.refused _ _; right = refused_fault read; is = λ i. record { number = (f i).number; place = (f i).place; least = 0; limited = 0; greatest = 0 } }

  -- The bytes of an accepted pattern's records,
  pub sizes_accepted : {x : Reading} {n : ℕ} {y : Counted} → ReadRight loaded p (Ok x) → n ≡ (narrow (min x.pattern.leaves 64)).bytes → y ≡ counted n → Sizes loaded p y
  sizes_accepted {x} read f g =
      let (t, reads, d) = accepted_reads read in
      let leaves : min x.pattern.leaves 64 ≡ count (write_out loaded t) = ap (λ n. min n 64) (accepted_holds read).leaves ∙ min-eq_left (accepted_leaves read).1 ∙ ap count d in
      record { answer = Due.accepted t; right = reads; is = g ∙ ap counted (f ∙ ap (λ n. (narrow n).bytes) leaves) }

  -- and of a refused one's none.
  pub sizes_refused : {e : Refused} {y : Counted} → ReadRight loaded p (Err e) → y ≡ counted_refusal e → Sizes loaded p y
  sizes_refused {e} read g = record { answer = Due.refused _ _; right = refused_fault read; is = g }

-- The tables that are lent are seen as such.
module _ {t u : Tables} {w old : List ℕ} (same : u ≡ t) where
  -- No span,
  pub cuts_none : Matchers.Cuts u w None → Cuts t w old 0 old
  cuts_none cut = subst (λ t. Cuts t w old 0 old) same (record { cut = λ l. let both = cut.cut l in none (sym both.greedily) (sym both.longest) })

  -- or both, from one start.
  pub cuts_both : {s : Spans} → Matchers.Cuts u w (Some s) → Cuts t w old 1 (s.start ∷ s.greedy ∷ s.posix ∷ [])
  cuts_both {s} cut = subst (λ t. Cuts t w old 1 (s.start ∷ s.greedy ∷ s.posix ∷ [])) same (record { cut = λ l. let both = cut.cut l in located (sym both.greedily) (sym both.longest) })

module _ {t u : Tables} {marks w : List ℕ} (same : u ≡ t) where
  -- No greedy span,
  pub fields_none : {old : List ℕ} → Fields.Cuts u marks w None → CutsFields (record { tables = t; marks = marks }) w old (record { found = 0; start = 0; end = 0; known = 0 }) old
  fields_none {old} cut =
      subst (λ t. CutsFields (record { tables = t; marks = marks }) w old (record { found = 0; start = 0; end = 0; known = 0 }) old) same
      (record { cut = λ own m. nothing (sym (cut.cut own m).greedily) })

  -- or one, with its fields.
  pub fields_some : {old : List ℕ} {x : Piece} {m : ℕ} → Fields.Cuts u marks w (Some x) → m ≡ x.known
      → CutsFields (record { tables = t; marks = marks }) w old (record { found = 1; start = x.start; end = x.end; known = m }) x.places
  fields_some {old} {x} {m} cut k =
      subst (λ t. CutsFields (record { tables = t; marks = marks }) w old (record { found = 1; start = x.start; end = x.end; known = m }) x.places) same
      (record {
        cut = λ own n.
            let is = cut.cut own n in
            rw k (spanned (sym is.greedily) is.fields);
      })
