-- The brackets of a text: there are as many openings as are counted, and the ninth stands at its place.
-- Assumes nothing.
use mathlib.Core.Path.{◌≡◌, refl, sym, ap, ◌∙◌}
use Prim.Native.Nat.{ℕ, zero, suc, ◌<◌}
use mathlib.Core.List.{List, [], ◌∷◌, ◌++◌, append_assoc}
use native.Mathlib.Omega.{arith}
use lib.ListN.{length, get_or, length-append}
use Rattle.grammar.specs.Grammar.{repeat_text, Alternation, last, or, Sequence, nothing, part, Atom, byte, dot, class, group, alternation, sequence, atom}
use Rattle.grammar.specs.Brackets.{brackets, brackets_within, brackets_atom, openings, openings_within, openings_atom, max_fields, ninth}
use Rattle.grammar.proofs.Place.{sequence_leads, atom_leads, repeat_leads}

mutual
  pub openings_count : (t : Alternation) (s : List ℕ) → length (openings t s) ≡ brackets t
  openings_count (last q) s = within_count q s
  openings_count (or q t) s =
      omega (arith, length-append (openings_within q (124 ∷ alternation t s)) (openings t s), within_count q (124 ∷ alternation t s), openings_count t s)

  pub within_count : (q : Sequence) (s : List ℕ) → length (openings_within q s) ≡ brackets_within q
  within_count nothing s = refl
  within_count (part a r q) s =
      omega (arith, length-append (openings_atom a (repeat_text r (sequence q s))) (openings_within q s), atom_count a (repeat_text r (sequence q s)), within_count q s)

  pub atom_count : (a : Atom) (s : List ℕ) → length (openings_atom a s) ≡ brackets_atom a
  atom_count (byte x) s = refl
  atom_count dot s = refl
  atom_count (class c x l) s = refl
  atom_count (group t) s = ap suc (openings_count t (41 ∷ s))

-- Each of them is the text from a `(` on: what stands before it, and what comes after.
pub record Stands (text s : List ℕ) : Type 0 where
  pub before : List ℕ
  pub after : List ℕ
  pub opens : s ≡ 40 ∷ after
  pub splits : text ≡ before ++ s

-- All of a list, by place.
data Each (text : List ℕ) : List (List ℕ) → Type 0 where
  none : Each text []
  more : {s : List ℕ} {l : List (List ℕ)} → Stands text s → Each text l → Each text (s ∷ l)

each_append : {text : List ℕ} {l m : List (List ℕ)} → Each text l → Each text m → Each text (l ++ m)
each_append none e = e
each_append (more h r) e = more h (each_append r e)

-- They stand in a longer text as well.
each_in : (u : List ℕ) {text whole : List ℕ} {l : List (List ℕ)} → whole ≡ u ++ text → Each text l → Each whole l
each_in u e none = none
each_in u e (more h r) =
    more (record { before = u ++ h.before; after = h.after; opens = h.opens; splits = e ∙ ap (λ t. u ++ t) h.splits ∙ sym (append_assoc u h.before _) }) (each_in u e r)

-- What comes before a part moves nothing inside it.
mutual
  openings_stand : (t : Alternation) (s : List ℕ) → Each (alternation t s) (openings t s)
  openings_stand (last q) s = within_stand q s
  openings_stand (or q t) s =
      each_append (within_stand q (124 ∷ alternation t s))
      (each_in (sequence q [] ++ (124 ∷ [])) (sequence_leads q (124 ∷ alternation t s) ∙ sym (append_assoc (sequence q []) (124 ∷ []) (alternation t s))) (openings_stand t s))

  within_stand : (q : Sequence) (s : List ℕ) → Each (sequence q s) (openings_within q s)
  within_stand nothing s = none
  within_stand (part a r q) s =
      each_append (atom_stand a (repeat_text r (sequence q s)))
      (each_in (atom a [] ++ repeat_text r []) (atom_leads a (repeat_text r (sequence q s)) ∙ ap (λ t. atom a [] ++ t) (repeat_leads r (sequence q s)) ∙ sym (append_assoc (atom a []) (repeat_text r []) (sequence q s))) (within_stand q s))

  atom_stand : (a : Atom) (s : List ℕ) → Each (atom a s) (openings_atom a s)
  atom_stand (byte x) s = none
  atom_stand dot s = none
  atom_stand (class c x l) s = none
  atom_stand (group t) s = more (record { before = []; after = alternation t (41 ∷ s); opens = refl; splits = refl }) (each_in (40 ∷ []) refl (openings_stand t (41 ∷ s)))

each_at : {text : List ℕ} {l : List (List ℕ)} → Each text l → (k : ℕ) → k < length l → Stands text (get_or l k [])
each_at (more h r) zero m = h
each_at (more h r) (suc k) m = each_at r k (omega arith)
each_at none k m = absurd (omega arith)

-- THE NINTH STANDS AT ITS PLACE: the text from there on is that from the ninth opening bracket on.
pub ninth_stands : (t : Alternation) → max_fields < brackets t → (s : Stands (alternation t []) (get_or (openings t []) max_fields [])) × (length s.before ≡ ninth t)
unfolding ninth
ninth_stands t h =
    let s = each_at (openings_stand t []) max_fields (omega (arith, openings_count t [])) in
    (s, omega (arith, ap length s.splits, length-append s.before (get_or (openings t []) max_fields [])))
