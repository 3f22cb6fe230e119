-- What is read is the theory's standing: of the empty line, and after a byte.
-- Assumes nothing.
use mathlib.Core.Path.{◌≡◌, refl, sym, ap, ◌∙◌}
use Prim.Native.Nat.{ℕ, zero, suc, ◌≤◌, ◌<◌, min}
use mathlib.Core.Bool.{Bool, true, false, ◌&&◌, cond}
use mathlib.Core.List.{List, [], ◌∷◌}
use native.Mathlib.Omega.{arith}
use native.Mathlib.Decide.{dec_lt}
use lib.ListN.{get_or, take}
use lib.Dec.{T, eqb, eqb_refl}
use borrow.Author.Tests.{lt-ltb}
use Rattle.theory.specs.Pattern.{Re, count, has}
use Rattle.theory.specs.Standing.{member, once, from, filter, standing, fronts, wanted}
use Rattle.theory.specs.Standing as Theory
use Rattle.theory.specs.Code.Follow.{start, has_end}
use Rattle.theory.specs.Code.Closure.{items, closure, closure_after, flat, front, takes, moves}
use Rattle.theory.specs.Code.Next.{next}
use Rattle.theory.proofs.Tests.{not_true, or_left, or_right}
use Rattle.theory.specs.Code.Members.{any}
use Rattle.theory.proofs.Members.{gather_member, filter_same}
use Rattle.theory.proofs.Step.{step_start}
use Rattle.theory.proofs.Closure.{closure_right, gather_once, next_moves, member_zero, member_wants}
use Rattle.words.specs.Sets.{has_bit}
use Rattle.standing.specs.declared.Standing.{Standing}
use Rattle.standing.specs.declared.Wants.{Wants}
use Rattle.standing.specs.Stands.{means, Arrays, tables_in, Lent, Fine, Stands}
use Rattle.follow.specs.Rows.{row}
use Rattle.standing.specs.declared.Front.{Front}
use Rattle.standing.specs.Reads.{order, Fronts, outcomes_after}
use Rattle.standing.specs.Sets.{Small, goes, Wanted}
use Rattle.words.proofs.Bits.{no_more}
use Rattle.standing.proofs.Sets.{any_cut, any_filter, filter_cut, member_flat}
use Rattle.standing.proofs.Outcomes.{Within, front_items, closure_within, flat_within, leaves_front, front_member, front_once}

-- The standing as the code puts it together.
abbrev pub made : Front → ℕ → Bool → Standing
made f all some = record { list = f.list; n = f.n; first = f.ends; all = all; some = some }

-- The bits `all` and the flag `some` are the outcomes m.
pub record Shows (m : List ℕ) (all : ℕ) (some : Bool) : Type 0 where
  pub bits : (q : ℕ) → q < 64 → has_bit all q ≡ member (suc q) m
  pub small : Small all
  pub ended : some ≡ member 0 m

-- (a) and (b) read off the outcomes l, (c) and (d) off m.
abbrev shown : ℕ → List ℕ → List ℕ → Theory.Standing
shown c l m = record { order = once (front l); first = member 0 l; all = filter (λ p. member (suc p) m) (from 0 c); some = member 0 m }

module _ (r : Re) (most : count r ≤ 64) (l m : List ℕ) (inner : Within (count r) l) (outer : Within (count r) m) (f : Front) (all : ℕ) (some : Bool) (a : Fronts l f) (b : Shows m all some) where
  gathered : order f ≡ once (front l)
  gathered = a.order ∙ ap once (leaves_front l λ q t. omega (arith, inner q t))

  made_fine : Fine r (made f all some)
  made_fine = record {
    size = a.sound.size;
    leaves = λ p t. inner p (front_member p l (rw (gathered, gather_member p [] (front l)) at t));
    once = a.sound.apart;
    set = λ p h. go p h (dec_lt p 64);
  }
    where
      go : (p : ℕ) → count r ≤ p → Dec (p < 64) → has_bit all p ≡ false
      go p h (yes k) = b.bits p k ∙ not_true (member (suc p) m) (λ t. omega (arith, outer p t))
      go p h (no k) = b.small p (omega arith)

  made_means : means (count r) (made f all some) ≡ shown (count r) l m
  made_means =
      let every : filter (has_bit all) (from 0 (count r)) ≡ filter (λ p. member (suc p) m) (from 0 (count r)) = filter_cut _ _ 0 (count r) λ p h. b.bits p (omega arith) in
      λ i. record { order = gathered i; first = a.ended i; all = every i; some = b.ended i }

  pub made_right : (s : Theory.Standing) → shown (count r) l m ≡ s → Stands r (made f all some) s
  made_right s e = record { fine = made_fine; is = made_means ∙ e }

-- The flag of a row.
flag_is : (x : ℕ) (e : Bool) → x ≤ 1 → (x ≡ 1 → e ≡ true) → (x ≡ 0 → e ≡ false) → eqb x 1 ≡ e
flag_is zero e h a b = sym (b refl)
flag_is (suc zero) e h a b = sym (a refl)
flag_is (suc (suc x)) e h a b = absurd (omega arith)

module _ {a : Arrays} {r : Re} (d : Lent r a) where
  row_end : (k : ℕ) → k ≤ count r → eqb (get_or a.ends k 0) 1 ≡ member 0 (row (tables_in a) k)
  row_end k h = let s = d.follows.summed k h in flag_is _ _ s.flag s.end s.no_end

  -- The first standing.
  start_shown : shown (count r) (closure r) (closure r) ≡ standing r []
  start_shown =
      rw (step_start r)
      (let o : once (front (closure r)) ≡ once (fronts (start r)) = rw (closure_right r, front_once (items (start r)), front_items (start r)) (gather_once [] (fronts (start r))) in
      let e : member 0 (closure r) ≡ has_end (start r) = rw (closure_right r, gather_member 0 [] (items (start r))) (member_zero (start r)) in
      let a : filter (λ p. member (suc p) (closure r)) (from 0 (count r)) ≡ filter (λ p. member p (wanted (start r))) (from 0 (count r)) =
      filter_same _ _ (from 0 (count r)) λ p. rw (closure_right r, gather_member (suc p) [] (items (start r))) (member_wants p (start r)) in
      λ i. record { order = o i; first = e i; all = a i; some = e i })

  start_shows : get_or a.sets 0 0 < 18446744073709551616 → Shows (row (tables_in a) 0) (get_or a.sets 0 0) (eqb (get_or a.ends 0 0) 1)
  start_shows few = record {
    bits = (d.follows.summed 0 (omega arith)).set;
    small = λ q h. no_more (get_or a.sets 0 0) q few h;
    ended = row_end 0 (omega arith);
  }

  pub first_right : (f : Front) → Fronts (row (tables_in a) 0) f → get_or a.sets 0 0 < 18446744073709551616 → Stands r (made f (get_or a.sets 0 0) (eqb (get_or a.ends 0 0) 1)) (standing r [])
  first_right f g few =
      let w : Within (count r) (row (tables_in a) 0) = rw d.follows.start (closure_within r d.numbered) in
      made_right r d.most (row (tables_in a) 0) (row (tables_in a) 0) w w f _ _ g (start_shows few) (standing r []) (rw d.follows.start start_shown)

  -- The next standing.
  module _ (b : ℕ) (byte : b < 256) where
    after_takes : (p : ℕ) → p < count r → outcomes_after (get_or a.masks b 0) (tables_in a) p ≡ takes r b p
    after_takes p h = rw (lt-ltb p 64 (omega (arith, d.most)), d.masked b p byte h, d.follows.after p h)

    flat_takes : (l : List ℕ) → ((p : ℕ) → T (member p l) → p < count r) → flat (outcomes_after (get_or a.masks b 0) (tables_in a)) l ≡ flat (takes r b) l
    flat_takes [] h = refl
    flat_takes (p ∷ l) h = rw (after_takes p (h p (or_left (eqb p p) (member p l) (eqb_refl p))), flat_takes l λ q t. h q (or_right (eqb q p) (member q l) t))

    next_shown : (s : Theory.Standing) → shown (count r) (flat (takes r b) s.order) (flat (takes r b) s.all) ≡ next r s b
    unfolding moves
    next_shown s =
        rw (next_moves r s b)
        (let e : (x : ℕ) (l : List ℕ) → member x l ≡ member x (once l) = λ x l. sym (gather_member x [] l) in
        λ i. record {
          order = sym (front_once (flat (takes r b) s.order)) i;
          first = e 0 (flat (takes r b) s.order) i;
          all = filter_same (λ p. member (suc p) (flat (takes r b) s.all)) (λ p. member (suc p) (once (flat (takes r b) s.all))) (from 0 (count r)) (λ p. e (suc p) (flat (takes r b) s.all)) i;
          some = e 0 (flat (takes r b) s.all) i;
        })

    module _ (set : ℕ) (fine : (p : ℕ) → count r ≤ p → has_bit set p ≡ false) where
      -- A test of the row of each leaf of the set that takes the byte.
      each : (x : ℕ) (g : ℕ → Bool) → ((p : ℕ) → p < count r → g p ≡ member x (row (tables_in a) (suc p)))
          → any (λ p. goes set (get_or a.masks b 0) p && g p) (from 0 64) ≡ member x (flat (takes r b) (filter (has_bit set) (from 0 (count r))))
      each x g h =
          any_cut (λ p. goes set (get_or a.masks b 0) p && g p) (λ p. has_bit set p && member x (takes r b p)) (count r) 64 d.most
          (λ p k. rw (h p k, d.masked b p byte k, d.follows.after p k) (go p (has_bit set p) (has r p b)))
          (λ p k. rw (fine p k))
          ∙ sym (member_flat x (takes r b) (filter (has_bit set) (from 0 (count r))) ∙ any_filter (has_bit set) (λ p. member x (takes r b p)) (from 0 (count r)))
        where
          go : (p : ℕ) (a c : Bool) → (a && c) && member x (closure_after r p) ≡ a && member x (cond c (closure_after r p) [])
          go p false c = refl
          go p true true = refl
          go p true false = refl

      next_shows : (w : Wants) → Wanted (goes set (get_or a.masks b 0)) a.sets a.ends w → Shows (flat (takes r b) (filter (has_bit set) (from 0 (count r)))) w.all w.some
      next_shows w g = record {
        bits = λ q h. g.all q ∙ each (suc q) (λ p. has_bit (get_or a.sets (suc p) 0) q) (λ p k. (d.follows.summed (suc p) (omega arith)).set q h);
        small = g.small;
        ended = g.some ∙ each 0 (λ p. eqb (get_or a.ends (suc p) 0) 1) (λ p k. row_end (suc p) (omega arith));
      }

    pub next_right : (s : Standing) {z : Theory.Standing} → Stands r s z → (f : Front) (w : Wants) → Fronts (flat (outcomes_after (get_or a.masks b 0) (tables_in a)) (take (min s.n 64) s.list)) f
        → Wanted (goes s.all (get_or a.masks b 0)) a.sets a.ends w → Stands r (made f w.all w.some) (next r z b)
    next_right s stands f w g c =
        let fine = stands.fine in
        let e : min s.n 64 ≡ s.n = omega (arith, fine.size) in
        let l = take s.n s.list in
        let m = filter (has_bit s.all) (from 0 (count r)) in
        let o : Fronts (flat (takes r b) l) f = rw (e, flat_takes l fine.leaves) at g in
        made_right r d.most (flat (takes r b) l) (flat (takes r b) m) (flat_within r d.numbered b l) (flat_within r d.numbered b m) f w.all w.some o
        (next_shows s.all fine.set w c) _ (next_shown (means (count r) s) ∙ ap (λ x. next r x b) stands.is)
