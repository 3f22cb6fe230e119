-- What a byte makes of a set of leaves, by the follow tables and by the definition: a test of the leaves that a number has and a byte takes is the same on both sides.
-- Assumes nothing.
use mathlib.Core.Path.{◌≡◌, refl, sym, ap, ◌∙◌}
use mathlib.Core.Bool.{Bool, true, false, not, ◌&&◌}
use mathlib.Core.List.{List, []}
use Prim.Native.Nat.{ℕ, suc, ◌≤◌, ◌<◌}
use native.Mathlib.Omega.{arith}
use native.Mathlib.Decide.{dec_lt, ℕ_discrete}
use lib.ListN.{get_or}
use lib.Dec.{T, eqb, eqb→eq, eqb_refl}
use lib.Bits.{bit_and}
use borrow.Author.Tests.{eq-eqb, ne_eqb}
use Rattle.theory.specs.Pattern.{Re, has, count}
use Rattle.theory.specs.Outcomes.{when}
use Rattle.theory.specs.Standing.{member, wanted, once, from, set_of}
use Rattle.theory.specs.Code.Follow.{Next, start, follow, after, has_end}
use Rattle.theory.specs.Code.Closure.{items}
use Rattle.theory.specs.Code.Next.{afters}
use Rattle.theory.specs.Code.Members.{any}
use Rattle.theory.proofs.Tests.{T_true, not_true, and_false}
use Rattle.theory.proofs.Members.{gather_member, any_found, any_of, filter_passes, from_range}
use Rattle.theory.proofs.Equations.{all_when}
use Rattle.theory.proofs.Extend.{leaf_range}
use Rattle.theory.proofs.Nexts.{follow_all}
use Rattle.theory.proofs.Step.{wanted_in, afters_member, afters_end}
use Rattle.theory.proofs.Closure.{closure_right, closure_after_right, member_zero, member_wants}
use Rattle.words.specs.Sets.{has_bit}
use Rattle.words.proofs.Bits.{and_bit}
use Rattle.follow.specs.declared.Tables.{Tables}
use Rattle.follow.specs.Rows.{row, Summed}
use Rattle.standing.specs.Stands.{Arrays, Lent}
use Rattle.standing.proofs.Sets.{any_cut, any_filter, any_ext, filter_cut}
use Rattle.facts.specs.Moves.{Moves}
use Rattle.facts.specs.Sets.{leaves_in, Wants, Endings, Takes}
use Rattle.facts.proofs.Bits.{some_bit}

second : (a c : Bool) → T (a && c) → T c
second true c t = t
second false c t = absurd t

pub leaf_in : (c x p : ℕ) → T (member p (leaves_in c x)) → (p < c) × (has_bit x p ≡ true)
leaf_in c x p m = (below, T_true (has_bit x p) (filter_passes (has_bit x) (from 0 c) p m))
  where
    below : p < c
    below =
        let (q, i, t) = any_found (λ q. has_bit x q && eqb p q) (from 0 c) (rw any_filter at (any_of (eqb p) (leaves_in c x) p m (eqb_refl p))) in
        omega (arith, from_range q 0 c i, eqb→eq p q (second (has_bit x q) (eqb p q) t))

pub carried_leaves : {r : Re} {b : ℕ} {l : List ℕ} {took to ending : ℕ} → Takes r b l took to ending → leaves_in (count r) to ≡ set_of r (wanted (afters r b l))
carried_leaves {r} {b} {l} {to = to} t = filter_cut (has_bit to) (λ p. member p (wanted (afters r b l))) 0 (count r) λ p h. t.leaves p (omega arith)

-- A row of the tables that is the list l.
module _ {t : Tables} {k : ℕ} (summed : Summed t k) (l : List Next) (is : row t k ≡ once (items l)) where
  row_member : (q : ℕ) → member q (row t k) ≡ member q (items l)
  row_member q = ap (member q) is ∙ gather_member q [] (items l)

  row_wants : (q : ℕ) → q < 64 → has_bit (get_or t.sets k 0) q ≡ member q (wanted l)
  row_wants q m = summed.set q m ∙ row_member (suc q) ∙ member_wants q l

  row_end : eqb (get_or t.ends k 0) 1 ≡ has_end l
  row_end = go (ℕ_discrete (get_or t.ends k 0) 1) ∙ row_member 0 ∙ member_zero l
    where
      go : Dec (get_or t.ends k 0 ≡ 1) → eqb (get_or t.ends k 0) 1 ≡ member 0 (row t k)
      go (yes e) = eq-eqb (get_or t.ends k 0) 1 e ∙ sym (summed.end e)
      go (no n) = ne_eqb (get_or t.ends k 0) 1 n ∙ sym (summed.no_end (omega (arith, summed.flag)))

module _ {r : Re} {a : Arrays} (lent : Lent r a) where
  pub leaf_wants : (p q : ℕ) → p < count r → q < 64 → has_bit (get_or a.sets (suc p) 0) q ≡ member q (wanted (follow r p))
  leaf_wants p q h k = row_wants (lent.follows.summed (suc p) h) (follow r p) (lent.follows.after p h ∙ closure_after_right r p) q k

  pub leaf_end : (p : ℕ) → p < count r → eqb (get_or a.ends (suc p) 0) 1 ≡ has_end (follow r p)
  leaf_end p h = row_end (lent.follows.summed (suc p) h) (follow r p) (lent.follows.after p h ∙ closure_after_right r p)

  -- The first leaves, and whether the pattern matches the empty line.
  pub first_wants : (q : ℕ) → q < 64 → has_bit (get_or a.sets 0 0) q ≡ member q (wanted (start r))
  first_wants q h = row_wants (lent.follows.summed 0 (omega arith)) (start r) (lent.follows.start ∙ closure_right r) q h

  pub first_leaves : leaves_in (count r) (get_or a.sets 0 0) ≡ set_of r (wanted (start r))
  first_leaves = filter_cut _ _ 0 (count r) λ p h. first_wants p (omega (arith, lent.most))

  pub empty_line : eqb (get_or a.ends 0 0) 1 ≡ has_end (start r)
  empty_line = row_end (lent.follows.summed 0 (omega arith)) (start r) (lent.follows.start ∙ closure_right r)

  module _ (b : ℕ) (byte : b < 256) (x : ℕ) where
    abbrev took : ℕ
    took = bit_and x (get_or a.masks b 0)

    -- No leaf beyond the pattern's takes a byte.
    took_fine : (p : ℕ) → count r ≤ p → has_bit took p ≡ false
    took_fine p h = and_bit x (get_or a.masks b 0) p ∙ rw (lent.spare b p byte h) (and_false (has_bit x p))

    -- A test of the leaves that take the byte, by their rows and by their follow lists.
    each : (f : ℕ → Bool) (g : List Next → Bool) → g [] ≡ false → ((p : ℕ) → p < count r → f p ≡ g (follow r p))
        → any (λ p. has_bit took p && f p) (from 0 64) ≡ any (λ p. g (after r b p)) (leaves_in (count r) x)
    each f g nil h =
        any_cut (λ p. has_bit took p && f p) (λ p. has_bit x p && g (after r b p)) (count r) 64 lent.most
        (λ p k. rw (and_bit x (get_or a.masks b 0) p, lent.masked b p byte k, h p k) (go p (has_bit x p) (has r p b)))
        (λ p k. rw (took_fine p k))
        ∙ sym (any_filter (has_bit x) (λ p. g (after r b p)) (from 0 (count r)))
      where
        go : (p : ℕ) (a c : Bool) → (a && c) && g (follow r p) ≡ a && g (when c (follow r p))
        go p true true = refl
        go p true false = sym nil
        go p false c = refl

    -- WHAT A BYTE MAKES OF A SET OF LEAVES.
    pub takes : (to ending : ℕ) → Wants a.sets took to → Endings a.ends ending → Takes r b (leaves_in (count r) x) took to ending
    takes to ending w e = record { leaves = λ p h. wants p (omega (arith, lent.most)); fine = λ p h. beyond p h (dec_lt p 64); ends = ends_code }
      where
        wants : (q : ℕ) → q < 64 → has_bit to q ≡ member q (wanted (afters r b (leaves_in (count r) x)))
        wants q h = w.all q ∙ each _ (λ l. member q (wanted l)) refl (λ p k. leaf_wants p q k h) ∙ sym (afters_member r b q (leaves_in (count r) x))

        beyond : (q : ℕ) → count r ≤ q → Dec (q < 64) → has_bit to q ≡ false
        beyond q h (no k) = w.small q (omega arith)
        beyond q h (yes k) = wants q k ∙ afters_member r b q (leaves_in (count r) x) ∙ not_true _ λ t.
            let (p, m, u) = any_found _ (leaves_in (count r) x) t in
            let c = leaf_range 0 lent.numbered (wanted_in (all_when (has r p b) (λ _. follow_all r p)) q u) in
            omega arith

        ends_code : not (eqb (bit_and took ending) 0) ≡ has_end (afters r b (leaves_in (count r) x))
        ends_code =
            some_bit (bit_and took ending) 64 (λ q h. and_bit took ending q ∙ rw (took_fine q (omega (arith, lent.most))))
            ∙ any_ext (has_bit (bit_and took ending)) (λ p. has_bit took p && has_bit ending p) (from 0 64) (and_bit took ending)
            ∙ each (has_bit ending) has_end refl (λ p k. e.bits p (omega (arith, lent.most)) ∙ leaf_end p k)
            ∙ sym (afters_end r b (leaves_in (count r) x))

-- WHAT THE PASSES NEED of the tables that are lent.
pub moves : {r : Re} {a : Arrays} {ending : ℕ} → Lent r a → Endings a.ends ending → Moves r a.masks a.sets ending
moves {ending = ending} lent e = record {
  numbered = lent.numbered;
  most = lent.most;
  first = first_leaves lent;
  masked = lent.masked;
  ended = λ p h. e.bits p (omega (arith, lent.most)) ∙ leaf_end lent p h;
  takes = λ b h x to w. takes lent b h x to ending w e;
}
