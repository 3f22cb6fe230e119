-- The last end that leaves lead to: what is left to do over the rest of the line is the whole.
-- Assumes nothing.
use mathlib.Core.Path.{◌≡◌, refl, sym, ap, ap₂, ◌∙◌, subst}
use mathlib.Core.Bool.{Bool, true, false, not, cond}
use mathlib.Core.List.{List}
use mathlib.Core.Option.{Option, none, some}
use Prim.Native.Nat.{ℕ, zero, suc, ◌+◌, ◌-◌, ◌≤◌, ◌<◌}
use native.Mathlib.Omega.{arith}
use lib.ListN.{length, get_or, drop}
use lib.Dec.{eqb}
use lib.Bits.{bit_and}
use borrow.Author.Tests.{eqb-true}
use Rattle.theory.specs.Pattern.{Re, count}
use Rattle.theory.specs.Standing.{wanted, set_of, from}
use Rattle.theory.specs.Code.Follow.{has_end}
use Rattle.theory.specs.Code.Next.{afters}
use Rattle.seeking.specs.Places.{Passed}
use Rattle.facts.specs.Sets.{leaves_in, Wants, Takes}
use Rattle.facts.specs.Moves.{Bytes, Moves}
use Rattle.facts.proofs.Bits.{none_in}
use Rattle.facts.proofs.Rows.{carried_leaves}
use Rattle.blocks.specs.Answer.{or_else, last_end}
use Rattle.blocks.proofs.Answer.{no_leaves}
use Rattle.blocks.proofs.Opening.{last_next, last_over}
use Rattle.std.specs.Prelude as Code
use Rattle.ends.specs.Ends.{place_of, Last}

-- An end found on the way comes after what was found before.
or_cond : (o : Option ℕ) (c : Bool) (k : ℕ) (p : Option ℕ) → or_else (or_else o (cond c (some k) none)) p ≡ or_else o (cond c (some k) p)
or_cond none true k p = refl
or_cond none false k p = refl
or_cond (some m) c k p = refl

twice : (c : Bool) (m k : ℕ) (p : Option ℕ) → cond c (some k) (cond c (some m) p) ≡ cond c (some k) p
twice true m k p = refl
twice false m k p = refl

module _ (r : Re) (w : List ℕ) where
  -- One byte.
  last_byte : (i : ℕ) (l m : List ℕ) (c : Bool) (p : Option ℕ) → i < length w → set_of r (wanted (afters r (get_or w i 0) l)) ≡ m → has_end (afters r (get_or w i 0) l) ≡ c
      → or_else (last_end r l (drop i w) i) p ≡ or_else (last_end r m (drop (suc i) w) (suc i)) (cond c (some (suc i)) p)
  last_byte i l m c p h e f =
      ap (λ o. or_else o p) (last_next r w i l h ∙ ap₂ (λ n d. or_else (last_end r n (drop (suc i) w) (suc i)) (cond d (some (suc i)) none)) e f)
      ∙ or_cond (last_end r m (drop (suc i) w) (suc i)) c (suc i) p

  -- d bytes that keep the leaves, and give an end or do not as the byte before them did.
  last_kept : (d i : ℕ) (l : List ℕ) (c : Bool) (p : Option ℕ) → i + d ≤ length w
      → ((k : ℕ) → i ≤ k → k < i + d → (set_of r (wanted (afters r (get_or w k 0) l)) ≡ l) × (has_end (afters r (get_or w k 0) l) ≡ c))
      → or_else (last_end r l (drop i w) i) (cond c (some i) p) ≡ or_else (last_end r l (drop (i + d) w) (i + d)) (cond c (some (i + d)) p)
  last_kept zero i l c p h keeps = let e : i + 0 ≡ i = omega arith in rw e
  last_kept (suc d) i l c p h keeps =
      let (e, f) = keeps i (omega arith) (omega arith) in
      let q : suc i + d ≡ i + suc d = omega arith in
      last_byte i l l c (cond c (some i) p) (omega arith) e f
      ∙ ap (or_else (last_end r l (drop (suc i) w) (suc i))) (twice c i (suc i) p)
      ∙ subst (λ k. or_else (last_end r l (drop (suc i) w) (suc i)) (cond c (some (suc i)) p) ≡ or_else (last_end r l (drop k w) k) (cond c (some k) p)) q
      (last_kept d (suc i) l c p (omega arith) (λ k a b. keeps k (omega arith) (omega arith)))

-- What is left to do at the place i is the whole.
pub record Lasting (masks sets w : List ℕ) (ending origin x : ℕ) (found : Code.Option ℕ) (i set : ℕ) (last : Code.Option ℕ) : Type 0 where
  pub whole : {r : Re} → Moves r masks sets ending → Bytes w
      → or_else (last_end r (leaves_in (count r) x) (drop origin w) origin) (place_of found) ≡ or_else (last_end r (leaves_in (count r) set) (drop i w) i) (place_of last)

module _ {masks sets w : List ℕ} {ending origin x : ℕ} {found : Code.Option ℕ} where
  pub lasting_begin : Lasting masks sets w ending origin x found origin x found
  lasting_begin = record { whole = λ moves bytes. refl }

  pub lasting_turn : {i j set to : ℕ} {last last' : Code.Option ℕ} → i < length w → Lasting masks sets w ending origin x found i set last → Wants sets (bit_and set (get_or masks (get_or w i 0) 0)) to
      → Passed (eqb set to) masks w set (bit_and set (get_or masks (get_or w i 0) 0)) (i + 1) j
      → place_of last' ≡ cond (not (eqb (bit_and (bit_and set (get_or masks (get_or w i 0) 0)) ending) 0)) (some j) (place_of last) → Lasting masks sets w ending origin x found j to last'
  lasting_turn {i} {j} {set} {to} {last} {last'} l before wants passed is = record { whole = λ {r} moves bytes. before.whole moves bytes ∙ turned r moves bytes }
    where
      took : ℕ
      took = bit_and set (get_or masks (get_or w i 0) 0)

      turned : (r : Re) → Moves r masks sets ending → Bytes w → or_else (last_end r (leaves_in (count r) set) (drop i w) i) (place_of last) ≡ or_else (last_end r (leaves_in (count r) to) (drop j w) j) (place_of last')
      turned r moves bytes =
          last_byte r w i (leaves_in (count r) set) (leaves_in (count r) to) end (place_of last) l (sym (carried_leaves here)) (sym here.ends)
          ∙ subst (λ n. or_else (last_end r (leaves_in (count r) to) (drop (suc i) w) (suc i)) (cond end (some (suc i)) (place_of last)) ≡ or_else (last_end r (leaves_in (count r) to) (drop n w) n) (cond end (some n) (place_of last))) at_j
          (last_kept r w (j - suc i) (suc i) (leaves_in (count r) to) end (place_of last) (omega (arith, within)) keeps)
          ∙ ap (or_else (last_end r (leaves_in (count r) to) (drop j w) j)) (sym is)
        where
          end : Bool
          end = not (eqb (bit_and took ending) 0)

          here : Takes r (get_or w i 0) (leaves_in (count r) set) took to ending
          here = moves.takes (get_or w i 0) (bytes i) set to wants

          within : j ≤ length w
          within = passed.within (omega arith)

          at_j : suc i + (j - suc i) ≡ j
          at_j = omega (arith, passed.more)

          keeps : (k : ℕ) → suc i ≤ k → k < suc i + (j - suc i) → (set_of r (wanted (afters r (get_or w k 0) (leaves_in (count r) to))) ≡ leaves_in (count r) to) × (has_end (afters r (get_or w k 0) (leaves_in (count r) to)) ≡ end)
          keeps k g h =
              let (equal, kind) = passed.alike k (omega arith) (omega arith) in
              let same : set ≡ to = eqb-true set to equal in
              let there = moves.takes (get_or w k 0) (bytes k) set to (rw kind wants) in
              let at-to : Takes r (get_or w k 0) (leaves_in (count r) to) took to ending = subst (λ y. Takes r (get_or w k 0) (leaves_in (count r) y) took to ending) same (rw kind at there) in
              (sym (carried_leaves at-to), sym at-to.ends)

  pub lasting_end : {i set : ℕ} {last : Code.Option ℕ} → length w ≤ i → Lasting masks sets w ending origin x found i set last → Last masks sets w ending origin x found last
  lasting_end {i} {set} {last} l before = record { last = λ {r} moves bytes. sym (before.whole moves bytes ∙ ap (λ o. or_else o (place_of last)) (last_over r w i (leaves_in (count r) set) l)) }

  pub lasting_over : {i set : ℕ} {last : Code.Option ℕ} → set ≡ 0 → Lasting masks sets w ending origin x found i set last → Last masks sets w ending origin x found last
  lasting_over {i} {set} {last} z before = record {
    last = λ {r} moves bytes. sym (before.whole moves bytes ∙ ap (λ o. or_else o (place_of last)) (ap (λ l. last_end r l (drop i w) i) (none_in set (from 0 (count r)) z) ∙ no_leaves r (drop i w) i));
  }
