-- An item of a class, part by part.
-- Assumes nothing.
use mathlib.Core.Path.{◌≡◌, refl, ◌∙◌}
use Prim.Native.Nat.{ℕ, ◌+◌}
use mathlib.Core.Bool.{true, false}
use mathlib.Core.List.{List, [], ◌∷◌}
use native.Mathlib.Omega.{arith}
use lib.ListN.{drop}
use lib.Dec.{leb}
use Rattle.grammar.specs.Grammar.{Byte, plain, escaped, value, single, range, Inside, usual, backslash, closing, opening, caret, dash, inside, marked}
use Rattle.grammar.specs.Sets.{names}
use Rattle.grammar.specs.Code.Reader.{found, missing, and_then, only, read_escaped, inner_by, read_inner, read_named, range_by, read_range, item_by, read_item}
use Rattle.grammar.specs.Code.Codes.{first_holds}
use Rattle.grammar.proofs.Texts.{InsideOk, inside_ok}
use Rattle.std.specs.Prelude.{Option, Some, None}
use Rattle.scanner.specs.Scanned.{Onward, ItemIs}
use Rattle.scanner.specs.Parts.{InnerIs, InnerFound}
use Rattle.scanner.specs.declared.Read.{Read}
use Rattle.scanner.specs.declared.Item.TheVariants.{Range}
use Rattle.scanner.proofs.Places.{Here, onward_next, onward_from, first_other}

-- A byte of a class.
module _ {p : List ℕ} {at b : ℕ} (h : Here p at b) where
  pub escaped_marked : marked (inside b) ≡ true → InnerIs (read_escaped (drop at p)) p at b (at + 1)
  escaped_marked e = (escaped b, rw (h.rest, e) refl, refl, onward_next h)

  pub inner_marked : (b ≡ 92 → ⊥) → marked (inside b) ≡ true → read_inner (drop at p) ≡ missing
  inner_marked n e = rw h.rest (go (inside b) (inside_ok b) e)
    where
      go : (k : Inside) → InsideOk b k → marked k ≡ true → inner_by k b (drop (at + 1) p) ≡ missing
      go usual o e = let z : ◌≡◌ {A = ℕ} 0 1 = cc in absurd (omega arith)
      go backslash o e = absurd (n o)
      go closing o e = refl
      go opening o e = refl
      go caret o e = refl
      go dash o e = refl

  pub inner_plain : marked (inside b) ≡ false → InnerIs (read_inner (drop at p)) p at b (at + 1)
  inner_plain e = (plain b, rw h.rest (go (inside b) e), refl, onward_next h)
    where
      go : (k : Inside) → marked k ≡ false → inner_by k b (drop (at + 1) p) ≡ found (plain b) (drop (at + 1) p)
      go usual e = refl
      go backslash e = let z : ◌≡◌ {A = ℕ} 0 1 = cc in absurd (omega arith)
      go closing e = let z : ◌≡◌ {A = ℕ} 0 1 = cc in absurd (omega arith)
      go opening e = let z : ◌≡◌ {A = ℕ} 0 1 = cc in absurd (omega arith)
      go caret e = let z : ◌≡◌ {A = ℕ} 0 1 = cc in absurd (omega arith)
      go dash e = let z : ◌≡◌ {A = ℕ} 0 1 = cc in absurd (omega arith)

pub inner_escape : {p : List ℕ} {at : ℕ} → Here p at 92 → (r : Option (Read ℕ)) → InnerFound (read_escaped (drop (at + 1) p)) p (at + 1) r → InnerFound (read_inner (drop at p)) p at r
unfolding inside
inner_escape h (Some r) (x, f, v, o) = (x, rw h.rest f, v, onward_from (omega arith) o)
inner_escape h None f = rw h.rest f

-- A range.
pub range_single : (x : Byte) (s : List ℕ) → first_holds s 45 ≡ false → read_range x s ≡ found (single x) s
range_single x [] e = refl
range_single x (b ∷ s) e = go (inside b) (inside_ok b)
  where
    go : (k : Inside) → InsideOk b k → range_by k x (b ∷ s) s ≡ found (single x) (b ∷ s)
    go usual o = refl
    go backslash o = refl
    go closing o = refl
    go opening o = refl
    go caret o = refl
    go dash o = absurd (first_other 45 b e o)

dashed : {p : List ℕ} {at : ℕ} (x : Byte) → Here p at 45 → read_range x (drop at p) ≡ and_then (read_inner (drop (at + 1) p)) (λ y r. only (leb (value x) (value y)) (found (range x y) r))
unfolding inside
dashed x h = rw h.rest refl

pub range_none : {p : List ℕ} {at : ℕ} (x : Byte) → Here p at 45 → read_inner (drop (at + 1) p) ≡ missing → read_range x (drop at p) ≡ missing
range_none x h e = dashed x h ∙ rw e refl

pub range_swapped : {p : List ℕ} {at low high e : ℕ} (x : Byte) → Here p at 45 → InnerIs (read_inner (drop (at + 1) p)) p (at + 1) high e → value x ≡ low → leb low high ≡ false → read_range x (drop at p) ≡ missing
range_swapped x h (y, f, w, o) v l = dashed x h ∙ rw (f, v, w, l) refl

pub range_found : {p : List ℕ} {at low high e : ℕ} (from : ℕ) (x : Byte) → Here p at 45 → InnerIs (read_inner (drop (at + 1) p)) p (at + 1) high e → value x ≡ low → Onward p from at → leb low high ≡ true → read_item (drop from p) ≡ read_range x (drop at p) → ItemIs p from (Range low high) e
range_found from x h (y, f, w, o) v k l q = (x, y, q ∙ dashed x h ∙ rw (f, v, w, l) refl, v, w, onward_from (omega arith) o)

-- An item.
pub item_named : {p : List ℕ} {at : ℕ} → Here p at 91 → read_item (drop at p) ≡ read_named names (drop (at + 1) p)
unfolding inside
item_named h = rw h.rest refl

item_inner : (s : List ℕ) → first_holds s 91 ≡ false → read_item s ≡ and_then (read_inner s) read_range
item_inner [] e = refl
item_inner (b ∷ s) e = go (inside b) (inside_ok b)
  where
    go : (k : Inside) → InsideOk b k → item_by k b s ≡ and_then (inner_by k b s) read_range
    go usual o = refl
    go backslash o = refl
    go closing o = refl
    go opening o = absurd (first_other 91 b e o)
    go caret o = refl
    go dash o = refl

pub item_none : (s : List ℕ) → first_holds s 91 ≡ false → read_inner s ≡ missing → read_item s ≡ missing
item_none s e f = item_inner s e ∙ rw f refl
