-- A line while it is read from a chunk: what is kept of it goes on.
-- Assumes nothing.
use mathlib.Core.Path.{◌≡◌, refl, sym, ap, ◌∙◌}
use mathlib.Core.Bool.{Bool, true, false}
use mathlib.Core.List.{List, [], ◌++◌}
use Prim.Native.Nat.{ℕ, ◌+◌, ◌-◌, ◌≤◌, min}
use native.Mathlib.Omega.{arith}
use lib.ListN.{length, take, drop, length-take, drop_of_length-le}
use lib.Dec.{eqb, ltb}
use borrow.Rule.Slice.PartMut.{put_mid}
use Rattle.std.specs.Prelude.{Option, None, Some}
use Rattle.std.specs.List.{position}
use Rattle.std.proofs.lemmas.Bool.{ltb-false}
use Rattle.std.proofs.lemmas.List.{drop-drop}
use Rattle.std.proofs.lemmas.Option.{none-some}
use Rattle.std.proofs.lemmas.Slice.{take-put_mid}
use Rattle.lines.specs.declared.Place.{Place}
use Rattle.lines.specs.declared.Input.{Input}
use Rattle.lines.specs.Lines.{kept, rest, begun, NextLine}
use Rattle.lines.specs.Steps.{newline_in, Kept, end_here, Stands, PassLine}
use Rattle.lines.proofs.Laws.{take_room, at_newline, no_newline, not_ended}

-- What there is room for joins the first n bytes.
pub kept_more : (b s v : List ℕ) (n k : ℕ) → length b ≡ 1025 → n ≤ 1025 → k ≡ min (length s) (1025 - n) → v ≡ take k s
    → take (n + k) (put_mid n (n + k - n) b v) ≡ kept (take n b ++ s)
kept_more b s v n k h m e f =
    let size : length (take n b) ≡ n = omega (arith, length-take n b) in
    let long : length v ≡ k = ap length f ∙ omega (arith, length-take k s) in
    take-put_mid n (n + k - n) b v (n + k) (omega arith) (omega arith)
    ∙ ap (λ x. take n b ++ x) (f ∙ ap (λ i. take i s) (e ∙ ap (λ i. min (length s) (1025 - i)) (sym size)))
    ∙ take_room 1025 (take n b) s (omega arith)

-- Nothing is left of a chunk that is read to its end.
pub at_its_end : (b : List ℕ) (i e : ℕ) → e ≤ i → drop i (take e b) ≡ []
at_its_end b i e h = let l : length (take e b) ≤ i = omega (arith, length-take e b) in drop_of_length-le (take e b) l

module _ {s r : Input} where
  -- The newline stands at the place i of what is left,
  pub next_whole : {i : ℕ} → position (λ b. eqb b 10) (rest s.chunk) ≡ Some i → Kept s.line (take i (rest s.chunk)) true r.line
      → r.chunk ≡ record { bytes = s.chunk.bytes; at = s.chunk.at + (i + 1); end = s.chunk.end } → r.source ≡ s.source → NextLine s r
  next_whole {i} e k f g =
      let (h, u, v, w) = at_newline (rest s.chunk) i e in
      record {
        bytes = k.bytes ∙ ap (λ x. kept (begun s.line ++ x)) (sym u);
        whole = k.whole ∙ sym v;
        left = ap rest f ∙ sym (w ∙ drop-drop (i + 1) s.chunk.at (take s.chunk.end s.chunk.bytes));
        onward = λ j. rw f (omega arith);
        end = ap (λ c. c.end) f;
        chunk = ap (λ c. c.bytes) f;
        source = g;
      }

  -- or the chunk ends before it.
  pub next_part : position (λ b. eqb b 10) (rest s.chunk) ≡ None → Kept s.line (rest s.chunk) false r.line
      → r.chunk ≡ record { bytes = s.chunk.bytes; at = s.chunk.end; end = s.chunk.end } → r.source ≡ s.source → NextLine s r
  next_part e k f g =
      let n = no_newline (rest s.chunk) e in
      let (u, v) = not_ended (rest s.chunk) n in
      record {
        bytes = k.bytes ∙ ap (λ x. kept (begun s.line ++ x)) (sym u);
        whole = k.whole ∙ sym n;
        left = ap rest f ∙ at_its_end s.chunk.bytes s.chunk.end s.chunk.end (omega arith) ∙ sym v;
        onward = λ j. rw f j;
        end = ap (λ c. c.end) f;
        chunk = ap (λ c. c.bytes) f;
        source = g;
      }

-- Where a chunk is read up to a place, behind a line of which nothing is kept.
abbrev passed : Input → ℕ → Input
passed s i = record { chunk = record { bytes = s.chunk.bytes; at = i; end = s.chunk.end }; line = record { bytes = s.line.bytes; n = s.line.n; whole = true }; source = s.source }

-- Where all of the next line stands in the chunk, no line has begun, and a newline is there.
stands_here : (s : Input) {i : ℕ} → end_here s ≡ Some i → (begun s.line ≡ []) × (newline_in (rest s.chunk) ≡ Some i)
stands_here s {i} e = go s.line.whole refl (ltb 0 s.line.n) refl
  where
    nothing : s.line.n ≤ 0 → s.line.n ≡ 0
    nothing h = omega arith

    go : (w : Bool) → s.line.whole ≡ w → (b : Bool) → ltb 0 s.line.n ≡ b → (begun s.line ≡ []) × (newline_in (rest s.chunk) ≡ Some i)
    go true p b q = (rw p refl, rw p at e)
    go false p true q = absurd (none-some i (rw (p, q) at e))
    go false p false q = (rw (p, nothing (ltb-false 0 s.line.n q)) refl, rw (p, q) at e)

-- The line stands in the chunk,
pub passed_here : (s : Input) {i : ℕ} → end_here s ≡ Some i → PassLine s (Some (Place.Chunk s.chunk.at i)) (passed s (s.chunk.at + i + 1))
passed_here s {i} e =
    let (b, n) = stands_here s e in
    let (_, u, v, w) = at_newline (rest s.chunk) i n in
    let far : s.chunk.at + (i + 1) ≡ s.chunk.at + i + 1 = omega arith in
    record {
      stands = (v, rw (b, u) refl);
      whole = sym v;
      left = ap (λ k. drop k (take s.chunk.end s.chunk.bytes)) (sym far) ∙ sym (w ∙ drop-drop (i + 1) s.chunk.at (take s.chunk.end s.chunk.bytes));
      onward = λ j. omega arith;
      end = refl;
      chunk = refl;
      source = refl;
    }

module _ {s r : Input} (n : NextLine s r) where
  -- or it is kept.
  passed_to : {p : Option Place} → Stands s p r → PassLine s p r
  passed_to h = record { stands = h; whole = n.whole; left = n.left; onward = n.onward; end = n.end; chunk = n.chunk; source = n.source }

  pub passed_kept : r.line.whole ≡ true → PassLine s (Some Place.Kept) r
  passed_kept h = passed_to (sym n.whole ∙ h, n.bytes)

  pub passed_part : r.line.whole ≡ false → PassLine s None r
  passed_part h = passed_to (sym n.whole ∙ h, n.bytes)
