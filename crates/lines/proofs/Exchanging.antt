-- What an exchange leaves, and the first line, which may take several.
-- Assumes nothing.
use mathlib.Core.Path.{◌≡◌, refl, sym, ap, ◌∙◌}
use mathlib.Core.Bool.{Bool, true, false, not, true≢false}
use mathlib.Core.List.{List, [], ◌∷◌, ◌++◌, append-nil}
use Prim.Native.Nat.{ℕ, ◌≤◌, ◌<◌}
use lib.Dec.{ltb}
use borrow.Author.Tests.{ltb-true}
use lib.ListN.{length, get_or, take, set}
use lib.Seq.{take-suc-set, take-take}
use native.Mathlib.Omega.{arith}
use Rattle.std.specs.Prelude.{Option}
use Rattle.std.specs.List.{list_all}
use Rattle.std.specs.Str.{IsUtf8}
use Rattle.std.proofs.lemmas.Str.{IsUtf8-from_ascii}
use Rattle.std.proofs.lemmas.Str.Ascii.{IsAscii-from_all}
use Rattle.std.proofs.lemmas.List.Sums.{AllPass-from_list_all}
use denote.Enum.Bare.{sameb}
use Rattle.lines.specs.contracts.Source.{the_type}
use Rattle.printing.specs.declared.Output.{Output}
use Rattle.lines.specs.declared.Source.{Source}
use Rattle.lines.specs.declared.Source.TheVariants.{Open, Over, Unread, Unwritten}
use Rattle.lines.specs.declared.Input.{Input}
use Rattle.lines.specs.Lines.{up_to, kept, rest, held, begun, goes_on, Line, here, later, NextLine, fresh, FirstLine}
use Rattle.lines.specs.Exchange.{Written, done, failed, Took, ReadMore, more, over, unread, Exchanged, unwritten, closed, waits, read, of_source, finished, Finished, fault_line}
use Rattle.lines.specs.Steps.{wants_line}
use Rattle.lines.proofs.Laws.{not_ended}

-- What the comparison with an open source says.
pub is_open : (x : Source) → false ≡ not (sameb the_type x Open) → x ≡ Open
is_open Open e = refl
is_open Over e = absurd (true≢false (sym e))
is_open Unread e = absurd (true≢false (sym e))
is_open Unwritten e = absurd (true≢false (sym e))

-- A newline at the start of the chunk.
pub newline_first : (chunk : List ℕ) → 0 < length chunk → take 1 (set chunk 0 10) ≡ 10 ∷ []
newline_first chunk h = take-suc-set chunk 0 10 h

-- What a read changes besides is the bytes of the chunk.
pub took_other : {s r : Input} {got : Option ℕ} (b : List ℕ) → Took (record { chunk = record { bytes = b; at = s.chunk.at; end = s.chunk.end }; line = s.line; source = s.source }) got r → Took s got r
took_other b (more e h f) = more e h f
took_other b (over e t f) = over e t f
took_other b (unread e f) = unread e f

module _ {s r : Input} {o o' : Output} where
  pub exchanged_closed : Written s o r o' → (r.source ≡ Open → ⊥) → Exchanged s o r o'
  exchanged_closed (done e f) n = closed (λ q. n (ap (λ x. x.source) e ∙ q)) e f
  exchanged_closed (failed e f) n = unwritten e f

  pub exchanged_waits : Written s o r o' → r.chunk.at < r.chunk.end → Exchanged s o r o'
  exchanged_waits (done e f) h = waits (rw e at h) e f
  exchanged_waits (failed e f) h = unwritten e f

  pub exchanged_read : {t : Input} → Written s o r o' → r.source ≡ Open → r.chunk.end ≤ r.chunk.at → ReadMore r t → Exchanged s o t o'
  exchanged_read (done e f) q h m = read (ap (λ x. x.source) (sym e) ∙ q) (rw e at h) (rw e at m) f
  exchanged_read (failed e f) q h m = absurd (no_source (sym (ap (λ x. x.source) e) ∙ q))
    where
      no_source : Unwritten ≡ Open → ⊥
      no_source e = cc

  -- A line that has begun has begun still.
  pub same_line : Exchanged s o r o' → r.line ≡ s.line
  same_line (unwritten e f) = ap (λ x. x.line) e
  same_line (closed n e f) = ap (λ x. x.line) e
  same_line (waits h e f) = ap (λ x. x.line) e
  same_line (read q h (g, more a b e) f) = ap (λ x. x.line) e
  same_line (read q h (g, over a b e) f) = ap (λ x. x.line) e
  same_line (read q h (g, unread a e) f) = ap (λ x. x.line) e

  -- Nothing waits after an exchange, and so at a program's end.
  pub nothing_waits : Exchanged s o r o' → o'.used ≡ 0
  nothing_waits (unwritten e f) = ap (λ x. x.used) f
  nothing_waits (closed n e f) = ap (λ x. x.used) f
  nothing_waits (waits h e f) = ap (λ x. x.used) f
  nothing_waits (read q h m f) = ap (λ x. x.used) f

  pub nothing_written : Written s o r o' → o'.used ≡ 0
  nothing_written (done e f) = ap (λ x. x.used) f
  nothing_written (failed e f) = ap (λ x. x.used) f

-- The first line is whole; or what is kept of it is its beginning, and nothing is left of the chunk.
pub record Sought (s : Input) : Type 0 where
  pub found : s.line.whole ≡ true → Line [] [] (held s.line) (rest s.chunk)
  pub none_left : s.line.whole ≡ false → rest s.chunk ≡ []
  pub short : s.line.whole ≡ false → kept (held s.line) ≡ held s.line
  pub goes : s.line.whole ≡ false → {l left : List ℕ} → Line (held s.line) [] l left → Line [] [] l left

pub sought_first : {s : Input} → s ≡ fresh → Sought s
sought_first {s} u = rw u (record { found = λ w. absurd (true≢false (sym w)); none_left = λ w. refl; short = λ w. refl; goes = λ w {l} {left} h. h })

pub sought_more : {s r t : Input} {o o' : Output} → s.line.whole ≡ false → Sought s → Exchanged s o r o' → NextLine r t → Sought t
sought_more {s} {r} {t} w h x n =
    record {
      found = λ e. rw (n.bytes ∙ ap (λ b. kept (b ++ up_to more)) first, n.left) (h.goes w (later more refl (rw short (here (sym n.whole ∙ e)))));
      none_left = λ e. n.left ∙ (not_ended more (sym n.whole ∙ e)).1;
      short = λ e. rw n.bytes (take-take 1025 1025 (begun r.line ++ up_to more) (omega arith));
      goes = λ e {l} {left} q.
          let u = (not_ended more (sym n.whole ∙ e)).0 in
          h.goes w (later more refl (rw short (later [] (sym n.whole ∙ e) (rw (n.bytes ∙ ap (λ b. kept (b ++ up_to more)) first ∙ ap (λ b. kept (held s.line ++ b)) u) at q))));
    }
  where
    more : List ℕ
    more = rest r.chunk

    first : begun r.line ≡ held s.line
    first = rw (same_line x, w) refl

    short : kept (held s.line ++ []) ≡ held s.line
    short = ap kept (append-nil (held s.line)) ∙ h.short w

pub wants_open : (s : Input) → wants_line s ≡ true → s.line.whole ≡ false
wants_open s e = go s.line.whole refl
  where
    go : (b : Bool) → s.line.whole ≡ b → s.line.whole ≡ false
    go true p = absurd (true≢false (sym (rw p at e)))
    go false p = p

-- A line is found; or there is none, since the source is not open.
pub sought_last : {s : Input} → wants_line s ≡ false → Sought s → FirstLine s
sought_last {s = s} e h = record { found = h.found; none = λ w. rw w at e }

pub sought_lost : (s : Input) → wants_line s ≡ true → FirstLine (of_source s Unread)
sought_lost s e = record { found = λ w. absurd (true≢false (sym w ∙ wants_open s e)); none = λ w. refl }

-- The line that tells a failure is ASCII, and so it is text.
ascii : (l : List ℕ) → list_all (λ b. ltb b 128) l ≡ true → IsUtf8 l
ascii l h =
    let p = AllPass-from_list_all (λ b. ltb b 128) l h in
    IsUtf8-from_ascii l (IsAscii-from_all l (λ k d lt. ltb-true (get_or l k d) 128 (p k d lt)))

pub fault_text : (x : Source) → IsUtf8 (fault_line x)
fault_text Open = ascii [] refl
fault_text Over = ascii [] refl
fault_text Unread = ascii (fault_line Unread) refl
fault_text Unwritten = ascii (fault_line Unwritten) refl

-- There is no further line at a program's end.
pub at_the_end : (s : Input) {r : Input} {o : Output} → o.used ≡ 0 → r ≡ finished s → Finished r o
at_the_end s {r} {o} u e = go (goes_on s) refl
  where
    go : (b : Bool) → goes_on s ≡ b → Finished r o
    go true p = rw (e, p) (record { used = u; none = refl })
    go false p = rw (e, p) (record { used = u; none = p })
