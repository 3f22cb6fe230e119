-- Request 6 for an accepted pattern p, whose tree is t, with any table of named sets: each leaf counts as 1 "whatever its set".
-- Assumes nothing.
use mathlib.Core.Path.{◌≡◌, refl, ap, ◌∙◌, subst}
use Prim.Native.Nat.{ℕ, ◌≤◌, ◌<◌}
use mathlib.Core.List.{List, []}
use native.Mathlib.Omega.{arith}
use lib.ListN.{length}
use Rattle.theory.specs.Lines.{Below}
use Rattle.theory.specs.Matching.{Matches}
use Rattle.theory.specs.Spans.{Span, span, greedy, posix}
use Rattle.grammar.specs.Grammar.{Alternation}
use Rattle.grammar.specs.Limits.{Reads}
use Rattle.grammar.specs.WriteOut.{write_out}
use Rattle.grammar.proofs.Size.{leaves_64}
use Rattle.lengths.specs.Lengths.{Longest, limit, no_limit, lengths, LengthBetween}
use Rattle.lengths.specs.Code.{cap_longest, capped}
use Rattle.lengths.specs.Written.{extent, any_byte, Filled, Matched, Reached}
use Rattle.lengths.proofs.Sums.{extents}
use Rattle.lengths.proofs.Written.{lengths_written}
use Rattle.lengths.proofs.Bounds.{match_between, greedy_between, posix_between, least_count, greatest_count}
use Rattle.lengths.proofs.Reached.{least_reached, greatest_reached, least_could, greatest_could, posix_whole, greedy_whole}

module _ (loaded p : List ℕ) (t : Alternation) (a : Reads p t) where
  written : extent (write_out loaded t) ≡ lengths t
  written = lengths_written loaded t a.formed

  between : (s : Span) → LengthBetween (extent (write_out loaded t)) s → LengthBetween (lengths t) s
  between s h = subst (λ x. LengthBetween x s) written h

  -- EVERY MATCH OF FIG. 1 HAS A LENGTH BETWEEN THE TWO,
  pub match_length : (w : List ℕ) (i j : ℕ) → Matches w (write_out loaded t) i j → LengthBetween (lengths t) (span i j)
  match_length w i j m = between (span i j) (match_between m)

  -- "EVERY SPAN OF EITHER READING HAS A LENGTH BETWEEN THE TWO."
  pub greedy_length : (w : List ℕ) → LengthBetween (lengths t) (greedy (write_out loaded t) w)
  greedy_length w = between (greedy (write_out loaded t) w) (greedy_between (write_out loaded t) w)

  pub posix_length : (w : List ℕ) → LengthBetween (lengths t) (posix (write_out loaded t) w)
  posix_length w = between (posix (write_out loaded t) w) (posix_between (write_out loaded t) w)

  -- BOTH ARE REACHED: by the pattern with every byte in the set of each leaf,
  pub least_could_match : Matched (any_byte (write_out loaded t)) (λ n. n ≡ (lengths t).least)
  least_could_match = subst (λ x. Matched (any_byte (write_out loaded t)) (λ n. n ≡ x.least)) written (least_could (write_out loaded t))

  pub greatest_could_match : Reached (lengths t).greatest (any_byte (write_out loaded t))
  greatest_could_match = subst (λ x. Reached x.greatest (any_byte (write_out loaded t))) written (greatest_could (write_out loaded t))

  -- and by its own spans, if each leaf's set holds some byte.
  module _ (f : Filled (write_out loaded t)) where
    pub least_line : (w : List ℕ) × Below 256 w × (greedy (write_out loaded t) w ≡ span 0 (lengths t).least) × (posix (write_out loaded t) w ≡ span 0 (lengths t).least)
    least_line =
        let m = least_reached (write_out loaded t) f in
        let e : length m.line ≡ (lengths t).least = m.size ∙ ap (λ x. x.least) written in
        (m.line, m.bytes, greedy_whole (write_out loaded t) m.line m.whole m.size ∙ ap (span 0) e, posix_whole (write_out loaded t) m.line m.whole ∙ ap (span 0) e)

    reached : {g : Longest} → (lengths t).greatest ≡ g → Reached g (write_out loaded t)
    reached e = subst (λ g. Reached g (write_out loaded t)) (ap (λ x. x.greatest) written ∙ e) (greatest_reached (write_out loaded t) f)

    pub greatest_line : (M : ℕ) → (lengths t).greatest ≡ limit M → (w : List ℕ) × Below 256 w × (posix (write_out loaded t) w ≡ span 0 M)
    greatest_line M e = let m = reached e in (m.line, m.bytes, posix_whole (write_out loaded t) m.line m.whole ∙ ap (span 0) m.size)

    pub longer_lines : (lengths t).greatest ≡ no_limit → (k : ℕ) → (w : List ℕ) × (j : ℕ) × Below 256 w × (k < j) × (posix (write_out loaded t) w ≡ span 0 j)
    longer_lines e k = let m = reached e k in (m.line, length m.line, m.bytes, m.size, posix_whole (write_out loaded t) m.line m.whole)

-- No number is above the weight's limit. That does not depend on the table, so any will do.
module _ (p : List ℕ) (t : Alternation) (a : Reads p t) where
  pub least_64 : (lengths t).least ≤ 64
  least_64 = omega (arith, ap (λ x. x.least) (written [] p t a), least_count (write_out [] t), leaves_64 [] p t a)

  pub greatest_64 : (M : ℕ) → (lengths t).greatest ≡ limit M → M ≤ 64
  greatest_64 M e = omega (arith, greatest_count (write_out [] t) M (ap (λ x. x.greatest) (written [] p t a) ∙ e), leaves_64 [] p t a)

  -- So they are what the code counts.
  pub counted_whole : capped (lengths t) ≡ lengths t
  counted_whole = extents (omega (arith, least_64)) (go (lengths t).greatest refl)
    where
      go : (g : Longest) → (lengths t).greatest ≡ g → cap_longest g ≡ g
      go no_limit e = refl
      go (limit M) e = ap limit (omega (arith, greatest_64 M e))
