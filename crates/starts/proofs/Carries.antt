-- The blocks that a byte carries on: one, all, and with a new start.
-- Assumes nothing.
use mathlib.Core.Path.{◌≡◌, refl, sym, ap, ◌∙◌, subst}
use mathlib.Core.Logic.{inl, inr}
use mathlib.Core.Bool.{Bool, true, false, not, ◌&&◌}
use mathlib.Core.List.{List, [], ◌∷◌, ◌++◌, append-nil}
use Prim.Native.Nat.{ℕ, zero, suc, ◌+◌, ◌-◌, ◌≤◌, ◌<◌}
use native.Mathlib.Omega.{arith}
use native.Mathlib.Numerals.{add-one}
use lib.ListN.{length, get_or, length-append, length-set}
use lib.Seq.{get_or-set_other}
use lib.Dec.{eqb}
use lib.Bits.{bit_and, bit_or}
use Rattle.theory.specs.Pattern.{Re, count}
use Rattle.theory.specs.Spans.{Span, nowhere, span}
use Rattle.theory.specs.Standing.{member, wanted, from}
use Rattle.theory.specs.Code.Follow.{has_end}
use Rattle.theory.specs.Code.Next.{afters}
use Rattle.theory.proofs.Members.{member_append}
use Rattle.words.specs.Sets.{has_bit}
use Rattle.words.proofs.Bits.{or_bit, no_bit}
use Rattle.standing.proofs.Sets.{filter_cut}
use Rattle.facts.specs.Sets.{leaves_in, Wants, Takes}
use Rattle.facts.proofs.Bits.{member_filter, none_in, some_in_set}
use Rattle.blocks.specs.Blocks.{Block, State, carried, keep, onto, carry, opening, step}
use Rattle.blocks.proofs.Loops.{carried_set, carry_end, carry_on, keep_some, store_adds}
use Rattle.blocks.proofs.Bound.{step_apart, apart_size}
use Rattle.starts.specs.declared.Carry.{Carry}
use Rattle.starts.specs.declared.Blocks.{Blocks}
use Rattle.starts.specs.declared.Span as Code
use Rattle.std.specs.Prelude.{Option, Some, None}
use Rattle.std.specs.Option.{is_some}
use Rattle.std.specs.Bool.{then_some}
use Rattle.starts.specs.Blocks.{blocks_of, state_of, Without, Stored, Going, Sized, On, Byte, OnBlock, OnAll, Stepped}

-- Nothing is found.
pub none_found : (o : Option Code.Span) → false ≡ is_some o → o ≡ None
none_found None e = refl
none_found (Some s) e = cc

pub none_left : (o : Option Code.Span) → ((s : Code.Span) → o ≡ Some s → ⊥) → o ≡ None
none_left None h = refl
none_left (Some s) h = absurd (h s refl)

-- Something is.
pub some_found : (o : Option Code.Span) → true ≡ is_some o → o ≡ None → ⊥
some_found None e f = cc
some_found (Some s) e f = cc

blocks_length : (r : Re) (x : Blocks) (q d : ℕ) → length (blocks_of r x q d) ≡ d
blocks_length r x q zero = refl
blocks_length r x q (suc d) = ap suc (blocks_length r x (suc q) d)

-- Blocks of arrays that are the same from there on.
blocks_same : (r : Re) (x x' : Blocks) (q d : ℕ) → ((k : ℕ) → q ≤ k → (get_or x'.sets k 0 ≡ get_or x.sets k 0) × (get_or x'.starts k 0 ≡ get_or x.starts k 0)) → blocks_of r x' q d ≡ blocks_of r x q d
blocks_same r x x' q zero h = refl
blocks_same r x x' q (suc d) h =
    let (e, f) = h q (omega arith) in
    rw (e, f, blocks_same r x x' (suc q) d λ k g. h k (omega arith))

-- A block that is put behind the others.
module _ {start y : ℕ} {x x' : Blocks} (sized : Sized x) (stored : Stored start y x x') where
  abbrev Fits : Type 0
  Fits = Sized x' × (x'.n ≤ 64) × (x'.n ≤ x.n + 1) × ((k : ℕ) → x.n < k → (get_or x'.sets k 0 ≡ get_or x.sets k 0) × (get_or x'.starts k 0 ≡ get_or x.starts k 0))

  fits : x.n ≤ 64 → Fits
  fits small = elim stored.cases [
    | inl (z, e) ↦ unchanged e
    | inr (inl (z, l, e)) ↦
        rw e (
          (length-set x.sets x.n y ∙ sized.0, length-set x.starts x.n start ∙ sized.1),
          omega arith,
          omega arith,
          λ k l. (get_or-set_other x.sets x.n k y 0 (λ e. omega arith), get_or-set_other x.starts x.n k start 0 (λ e. omega arith)),
        )
    | inr (inr (z, l, e)) ↦ unchanged e
  ]
    where
      unchanged : x' ≡ x → Fits
      unchanged e = rw e (sized, small, omega arith, λ k l. (refl, refl))

  -- It is the block of its set, if there is room.
  stored_block : (r : Re) (s : List ℕ) → leaves_in (count r) y ≡ s → ((q : ℕ) → count r ≤ q → has_bit y q ≡ false) → length (blocks_of r x 0 x.n ++ keep start s) ≤ 64
      → blocks_of r x' 0 x'.n ≡ blocks_of r x 0 x.n ++ keep start s
  stored_block r s is fine room = elim stored.cases [
    | inl (z, e) ↦ rw (e, ← is, none_in y (from 0 (count r)) z) (sym (append-nil (blocks_of r x 0 x.n)))
    | inr (inl (z, l, e)) ↦
        rw (e, add-one x.n, one z, ← is) (store_adds (leaves_in (count r)) x.starts x.sets x.n start y (omega arith) (omega arith))
    | inr (inr (z, l, e)) ↦ absurd (omega (arith, rw (length-append, blocks_length, one z) at room))
  ]
    where
      one : (y ≡ 0 → ⊥) → keep start s ≡ record { from = start; leaves = s } ∷ []
      one z = keep_some start s (rw is at (some_in_set y (count r) fine z))

-- One block more, with an end or without one.
abbrev after : Carry → ℕ → ℕ → ℕ → Bool → Carry
after c y start end d = record { taken = bit_or c.taken y; found = then_some d (record { start = start; end = end }) }

pub one_more : {c : Carry} {start end took to ending : ℕ} {x x' : Blocks} {y : ℕ} (d : Bool) → Sized x × (x.n ≤ 64) → Without to c.taken y
    → Stored start y x x' → not (eqb (bit_and took ending) 0) ≡ d → On c start end took to ending x x' (after c y start end d)
one_more {c} {start} {end} {took} {to} {ending} {x} {x'} {y} d (sized, small) without stored h =
    let (whole, few, most, same) = fits sized stored small in
    record {
      sized = whole;
      small = few;
      most = most;
      same = same;
      going = λ r b j best l rest t e k o g. let (taken, bits, is) = g.ahead o in going r b j best l rest t e k g.room taken bits is d (sym k.ends ∙ h);
    }
  where
    going : (r : Re) (b j : ℕ) (best : Span) (l : List ℕ) (rest : List Block) (t : State) → end ≡ suc j → Takes r b l took to ending → length t.blocks ≤ 64
        → (taken : List ℕ) → ((p : ℕ) → p < count r → has_bit c.taken p ≡ member p taken) → onto (blocks_of r x 0 x.n) (carry r b j best taken (record { from = start; leaves = l } ∷ rest)) ≡ t
        → (d : Bool) → has_end (afters r b l) ≡ d → Going r b j best rest t x' (after c y start end d)
    going r b j best l rest t e k room taken bits is = by
      where
        done : List Block
        done = blocks_of r x 0 x.n

        new : List ℕ
        new = carried r b taken l

        new_bits : (p : ℕ) → p < count r → has_bit y p ≡ (member p (wanted (afters r b l)) && not (member p taken))
        new_bits p h = without p ∙ rw (k.leaves p h, bits p h)

        behind : length (done ++ keep start new) ≤ 64 → blocks_of r x' 0 x'.n ≡ done ++ keep start new
        behind =
            stored_block sized stored r new
            (filter_cut (has_bit y) _ 0 (count r) (λ p h. new_bits p (omega arith)) ∙ sym (carried_set r b taken l))
            (λ q h. without q ∙ rw (k.fine q h))

        by : (d : Bool) → has_end (afters r b l) ≡ d → Going r b j best rest t x' (after c y start end d)
        by true h =
            let last = sym (carry_end r b j best done taken (record { from = start; leaves = l }) rest h) ∙ is in
            let whole : state_of r x' (span start end) ≡ t = rw (e, behind (subst (λ (s : State). length s.blocks ≤ 64) (sym last) room)) last in
            record { room = room; ahead = λ f. cc; shut = λ s f. let own : record { start = start; end = end } ≡ s = cc in subst (λ (s : Code.Span). state_of r x' (span s.start s.end) ≡ t) own whole }
        by false h =
            let next = sym (carry_on r b j best done taken (record { from = start; leaves = l }) rest h) ∙ is in
            let few = subst (λ (s : State). length s.blocks ≤ 64) (sym next) room in
            record {
              room = room;
              ahead = λ f. (
                taken ++ new,
                λ p i. or_bit c.taken y p ∙ rw (bits p i, new_bits p i, member_append p taken new, carried_set r b taken l, member_filter _ (count r) p i),
                rw (behind (omega (arith, length-append (done ++ keep start new) (carry r b j best (taken ++ new) rest).blocks))) next,
              );
              shut = λ s f. cc;
            }

-- The block at q.
pub on_block : {sets : List ℕ} {c : Carry} {q end mask ending to : ℕ} {x x' : Blocks} {c' : Carry} → x.n ≤ q → Wants sets (bit_and (get_or x.sets q 0) mask) to
    → On c (get_or x.starts q 0) end (bit_and (get_or x.sets q 0) mask) to ending x x' c' → OnBlock sets c q end mask ending x x' c'
on_block {q = q} {to = to} {x = x} {x' = x'} l w o = record {
  sized = o.sized;
  most = omega (arith, o.most);
  going = λ r b j y best more t d op g.
      let e = y.mask_is in
      let same = blocks_same r x x' (suc q) d (λ k h. o.same k (omega arith)) in
      rw (add-one q, same) (o.going r b j best _ _ t y.end_is (rw e (y.moves.takes b y.byte (get_or x.sets q 0) to (rw e at w))) op g);
}

-- A block with an end closes the others.
closes : {r : Re} {b j : ℕ} {best : Span} {rest rest' : List Block} {t : State} {x : Blocks} {c : Carry} → (c.found ≡ None → ⊥) → Going r b j best rest t x c → Going r b j best rest' t x c
closes shut g = record { room = g.room; ahead = λ f. absurd (shut f); shut = g.shut }

-- All blocks: what the loop over them knows at the block q.
pub record Loop (sets : List ℕ) (end mask ending : ℕ) (x₀ x : Blocks) (c : Carry) (q : ℕ) : Type 0 where
  pub sized : Sized x
  pub few : x₀.n ≤ 64
  pub most : x.n ≤ q
  pub open' : c.found ≡ None
  pub going : (r : Re) (b j : ℕ) → Byte r sets mask ending end b j → (best : Span) (more : List Block) (t : State) → length t.blocks ≤ 64 → carry r b j best [] (blocks_of r x₀ 0 x₀.n ++ more) ≡ t
      → (d : ℕ) → q + d ≡ x₀.n → Going r b j best (blocks_of r x q d ++ more) t x c

module _ {sets : List ℕ} {end mask ending : ℕ} {x₀ : Blocks} where
  pub loop_begin : Sized x₀ × (x₀.n ≤ 64) → Loop sets end mask ending x₀ (record { sets = x₀.sets; starts = x₀.starts; n = 0 }) (record { taken = 0; found = None }) 0
  loop_begin (sized, few) = record {
    sized = sized;
    few = few;
    most = omega arith;
    open' = refl;
    going = λ r b j y best more t room is d e.
        let same : d ≡ x₀.n = omega arith in
        record { room = room; ahead = λ f. ([], λ p h. no_bit p, rw same is); shut = λ s f. cc };
  }

  -- One block more: none has an end,
  pub loop_turn : {x x' : Blocks} {c c' : Carry} {q : ℕ} → q < x₀.n → c'.found ≡ None → Loop sets end mask ending x₀ x c q → OnBlock sets c q end mask ending x x' c' → Loop sets end mask ending x₀ x' c' (q + 1)
  loop_turn l op s o = record {
    sized = o.sized;
    few = s.few;
    most = o.most;
    open' = op;
    going = λ r b j y best more t room is d e. o.going r b j y best more t d s.open' (s.going r b j y best more t room is (suc d) (omega arith));
  }

  -- or it has one.
  pub loop_shut : {x x' : Blocks} {c c' : Carry} {q : ℕ} → q < x₀.n → (c'.found ≡ None → ⊥) → Loop sets end mask ending x₀ x c q → OnBlock sets c q end mask ending x x' c' → OnAll sets end mask ending x₀ x' c'
  loop_shut {q = q} l shut s o = record {
    sized = o.sized;
    most = omega (arith, o.most);
    going = λ r b j y best more t room is. closes shut (o.going r b j y best more t (x₀.n - suc q) s.open' (s.going r b j y best more t room is (suc (x₀.n - suc q)) (omega arith)));
  }

  pub loop_end : {x : Blocks} {c : Carry} {q : ℕ} → q ≡ x₀.n → Loop sets end mask ending x₀ x c q → OnAll sets end mask ending x₀ x c
  loop_end e s = record {
    sized = s.sized;
    most = omega (arith, s.most);
    going = λ r b j y best more t room is. s.going r b j y best more t room is 0 (omega arith);
  }

-- The step.
module _ {sets : List ℕ} {i end mask ending : ℕ} {x x' : Blocks} {c : Carry} (a : OnAll sets end mask ending x x' c) where
  step_all : (r : Re) (b : ℕ) → Byte r sets mask ending end b i → Going r b i nowhere (opening r i nowhere) (step r b i (state_of r x nowhere)) x' c
  unfolding step
  step_all r b y = a.going r b i y nowhere (opening r i nowhere) _ (omega (arith, apart_size r _ (step_apart r b i (state_of r x nowhere)), y.moves.most)) refl

  pub step_shut : {next : ℕ} → x.n ≤ 64 → (c.found ≡ None → ⊥) → Stepped sets i end mask next ending x x' c
  step_shut few shut = record { sized = a.sized; small = omega (arith, a.most); going = λ r b y w. closes shut (step_all r b y) }

  pub step_on : {next : ℕ} {x'' : Blocks} {c' : Carry} → c.found ≡ None → On c i end (bit_and (get_or sets 0 0) mask) next ending x' x'' c' → Stepped sets i end mask next ending x x'' c'
  step_on {next} op o = record {
    sized = o.sized;
    small = o.small;
    going = λ r b y w.
        let e = y.mask_is in
        o.going r b i nowhere _ [] _ y.end_is (rw (e, ← y.moves.first) (y.moves.takes b y.byte (get_or sets 0 0) next (rw e at w))) op (step_all r b y);
  }
