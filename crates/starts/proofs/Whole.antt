-- The POSIX span from what the passes find.
-- Assumes nothing.
use mathlib.Core.Path.{◌≡◌, sym, ap, ◌∙◌}
use mathlib.Core.List.{List}
use mathlib.Core.Option.{Option, none, some}
use Prim.Native.Nat.{ℕ, suc, ◌<◌}
use native.Mathlib.Omega.{arith}
use native.Mathlib.Decide.{dec_lt}
use lib.ListN.{length, get_or, drop}
use borrow.Author.Tests.{eq-eqb, ne_eqb}
use Rattle.theory.specs.Pattern.{Re, count}
use Rattle.theory.specs.Spans.{nowhere, span, span_or, posix}
use Rattle.standing.specs.Stands.{arrays, Lent}
use Rattle.facts.specs.Sets.{leaves_in}
use Rattle.facts.specs.Moves.{Bytes}
use Rattle.facts.specs.Known.{Lists, Known, ending_in, how_at}
use Rattle.facts.proofs.Rows.{empty_line, moves}
use Rattle.blocks.specs.Blocks.{firsts}
use Rattle.blocks.specs.Answer.{or_else, last_end, later}
use Rattle.blocks.proofs.Posix.{or_none_lem, posix_empty, posix_later}
use Rattle.blocks.proofs.Opening.{later_next, last_over}
use Rattle.ends.specs.Ends.{place_of, Last}
use Rattle.starts.specs.declared.Span as Code
use Rattle.std.specs.Prelude as Std
use Rattle.std.specs.Prelude.{Some, None}
use Rattle.std.specs.Option.{unwrap_or}
use Rattle.starts.specs.Spans.{Found}
use Rattle.starts.specs.Opens.{later_from, Opened}
use Rattle.starts.specs.Blocks.{Searched}

-- A match that begins at the place itself.
pub searched_here : {masks sets next w : List ℕ} {from end : ℕ} {e : Std.Option ℕ} → Last masks sets w (get_or next 256 0) from (get_or sets 0 0) None e → e ≡ Some end
    → Searched masks sets next w from (Some (record { start = from; end = end }))
searched_here {sets = sets} {w = w} {from = i} {end} {e = e} last s = record {
  finds = λ {r} moves nexts bytes.
      begins r (dec_lt i (length w))
      (ap (λ l. last_end r l (drop i w) i) (sym moves.first) ∙ sym (last.last moves bytes ∙ or_none_lem r (last_end r (leaves_in (count r) (get_or sets 0 0)) (drop i w) i)) ∙ ap place_of s);
}
  where
    begins : (r : Re) → Dec (i < length w) → last_end r (firsts r) (drop i w) i ≡ some end → later r (drop i w) i ≡ span i end
    begins r (yes l) h = later_next r w i l ∙ ap (λ p. span_or i p (later r (drop (suc i) w) (suc i))) h
    begins r (no l) h = absurd (let z : ◌≡◌ {A = Option ℕ} none (some end) = sym (last_over r w i (firsts r) (omega arith)) ∙ h in let n : ◌≡◌ {A = ℕ} 0 1 = cc in omega arith)

module _ {masks sets ends : List ℕ} {f : Lists} {w : List ℕ} where
  -- A PATTERN THAT MATCHES THE EMPTY LINE begins at the first place.
  pub found_empty : {e : Std.Option ℕ} → get_or ends 0 0 ≡ 1 → Last masks sets w (ending_in f) 0 (get_or sets 0 0) (Some 0) e → Found masks sets ends f w (Some (record { start = 0; end = unwrap_or e 0 }))
  found_empty {e} one last = record {
    posix_is = λ {r} lent known bytes.
        let m = moves lent known.endings in
        let place : place_of e ≡ or_else (last_end r (firsts r) w 0) (some 0) = last.last m bytes ∙ ap (λ l. or_else (last_end r l w 0) (some 0)) m.first in
        here e (last_end r (firsts r) w 0) place ∙ posix_empty r lent.numbered w (sym (empty_line lent) ∙ eq-eqb (get_or ends 0 0) 1 one);
  }
    where
      here : (e : Std.Option ℕ) (o : Option ℕ) → place_of e ≡ or_else o (some 0) → span 0 (unwrap_or e 0) ≡ span_or 0 (or_else o (some 0)) nowhere
      here None none h = cc
      here None (some k) h = cc
      here (Some i) none h = cc
      here (Some i) (some k) h = cc

  -- Any other: from the place before which no match begins,
  module _ {o : Std.Option ℕ} (two : get_or ends 0 0 ≡ 1 → ⊥) (open' : Opened masks sets f.next (how_at f.hows 0) (how_at f.hows 5) w o) where
    whole : {r : Re} {rows lens : List ℕ} → Lent r (arrays masks rows lens sets ends) → Known masks sets ends f → Bytes w → later_from r w o ≡ posix r w
    whole {r} lent known bytes = open'.opens (moves lent known.endings) known.nexts known.begins known.closes bytes ∙ posix_later r lent.numbered w (sym (empty_line lent) ∙ ne_eqb (get_or ends 0 0) 1 two)

    -- if there is none,
    pub found_none : o ≡ None → Found masks sets ends f w None
    found_none n = record { posix_is = λ {r} lent known bytes. ap (later_from r w) (sym n) ∙ whole lent known bytes }

    -- and if there is.
    pub found_by : {from : ℕ} → o ≡ Some from → {b : Std.Option Code.Span} → Searched masks sets f.next w from b → Found masks sets ends f w b
    found_by y searched = record { posix_is = λ {r} lent known bytes. sym (searched.finds (moves lent known.endings) known.nexts bytes) ∙ ap (later_from r w) (sym y) ∙ whole lent known bytes }
