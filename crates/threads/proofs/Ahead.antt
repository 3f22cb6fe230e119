-- The pass over the line: what is left to do from a place on is the whole.
-- Assumes nothing.
use mathlib.Core.Path.{◌≡◌, refl, sym, ap, ◌∙◌}
use Prim.Native.Nat.{ℕ, suc, ◌+◌, ◌-◌, ◌≤◌, ◌<◌}
use mathlib.Core.Bool.{Bool, true, false, cond}
use mathlib.Core.List.{List, [], ◌∷◌}
use mathlib.Core.Option.{Option, none, some}
use native.Mathlib.Omega.{arith}
use native.Mathlib.Numerals.{add-one}
use lib.ListN.{length, get_or, take, drop, drop_of_length-le}
use lib.Seq.{drop-cons}
use lib.Dec.{T, eqb, ltb, eqb-suc-suc}
use Rattle.theory.specs.Pattern.{Re}
use Rattle.theory.specs.Standing.{member}
use Rattle.theory.proofs.Tests.{or_left, or_right, or_cases, either}
use Rattle.theory.proofs.Members.{gather_member}
use Rattle.words.proofs.Bits.{no_bit}
use Rattle.traces.specs.Traces.{Carried, ends_at, wants}
use Rattle.traces.specs.Fields.{first_way}
use Rattle.traces.specs.Code.Pass.{Values, unset, stamp, Thread, items, firsts, first_row, stamped, fronts, moved, or_else, pass, pass_from}
use Rattle.traces.specs.Code.Marks.{row_sets}
use Rattle.traces.proofs.Natural.{mapped_firsts}
use Rattle.traces.proofs.Firsts.{items_firsts, firsts_once}
use Rattle.std.specs.Prelude.{None, Some}
use Rattle.std.specs.Prelude as Std
use Rattle.std.specs.Bool.{then_some}
use Rattle.std.specs.Option.{option_or}
use Rattle.threads.specs.declared.Slot.{Slot}
use Rattle.threads.specs.declared.State.{State}
use Rattle.threads.specs.Ways.{Given, IsWay, Led}
use Rattle.threads.specs.Slots.{slot, Holds, IsBest, handed_over}
use Rattle.threads.specs.Reads.{order, Sound, blank, threads, leaves_of, AreThreads, Found, Outside, Reads}
use Rattle.threads.specs.Steps.{RowRead, Takes, Leaves, Stepped, Passed}
use Rattle.threads.proofs.Entered.{entered_fronts}
use Rattle.threads.proofs.Reading.{leaves_same}
use Rattle.threads.proofs.Leaves.{stamped_below, moved_below}
use Rattle.threads.proofs.Tables.{row_reads}

-- The pass stops where no leaf is wanted.
pass_none : (r : Re) (rest : List ℕ) (i : ℕ) (way : Option Thread) → pass r rest [] i way ≡ way
unfolding pass
pass_none r [] i way = refl
pass_none r (b ∷ rest) i way = pass_none r rest (suc i) way

-- Outcomes read from nothing: their leaves are leaves of the outcomes.
fronts_items : (q : ℕ) (l : List (Carried Values)) → T (member q (leaves_of (fronts l))) → T (member (suc q) (items l))
fronts_items q [] t = t
fronts_items q (ends_at k v ∷ l) t = absurd t
fronts_items q (wants p v ∷ l) t =
    rw (eqb-suc-suc q p) (either (or_left (eqb q p) (member (suc q) (items l))) (λ i. or_right (eqb q p) (member (suc q) (items l)) (fronts_items q l i)) (or_cases (eqb q p) (member q (leaves_of (fronts l))) t))

module _ {side n : ℕ} {list : List ℕ} {x : List Slot} {l : List (Carried Values)} {g : State} (a : Reads side n (blank list x) l g) where
  fresh_threads : AreThreads side g.slots (order g) (fronts (firsts [] l))
  fresh_threads = rw (entered_fronts l) at (a.threads (record { values = λ p. unset; same = refl; held = λ p t. absurd t }))

  fresh_leaves : (q : ℕ) → T (member q (order g)) → T (member (suc q) (items l))
  fresh_leaves q t = rw (items_firsts l, gather_member (suc q) [] (items l)) at (fronts_items q (firsts [] l) (rw (← leaves_same fresh_threads) at t))

  -- The best way is the one that ended, or the one before.
  fresh_best : (b : Std.Option ℕ) {c : Std.Option ℕ} (way : Option Thread) → Outside side 128 → IsBest x b way → c ≡ cond g.ended (Some n) b → IsBest g.slots c (or_else (first_way l) way)
  fresh_best b {c} way o h d = go (first_way l) a.found
    where
      same : g.ended ≡ false → (b : Std.Option ℕ) (way : Option Thread) → IsBest x b way → IsBest g.slots b way
      same e None none h = h
      same e None (some t) h = h
      same e (Some end) none h = h
      same e (Some end) (some t) h = (h.0, a.kept e o h.1)

      go : (o : Option Thread) → Found n g o → IsBest g.slots c (or_else o way)
      go none e = rw (d, e) (same e b way h)
      go (some t) f = let (e, at, holds) = f in rw (d, e) (sym at, holds)

-- The end that the code keeps: n if a way ended, or the one before.
latest : (e : Bool) (n : ℕ) (b : Std.Option ℕ) → option_or (then_some e n) b ≡ cond e (Some n) b
latest true n b = refl
latest false n b = refl

ended_first : (e : Bool) (n : ℕ) → then_some e n ≡ cond e (Some n) None
ended_first true n = refl
ended_first false n = refl

-- What the pass knows at the place i: what is left to do is the whole.
pub record Ahead (r : Re) (w : List ℕ) (i side : ℕ) (g : State) (b : Std.Option ℕ) (whole : Option Thread) : Type 0 where
  pub ts : List Thread
  pub way : Option Thread
  pub are : AreThreads side g.slots (order g) ts
  pub leaves : Leaves r (order g)
  pub best : IsBest g.slots b way
  pub left : pass r (drop i w) ts i way ≡ whole

abbrev Bytes : List ℕ → Type 0
Bytes w = (k : ℕ) → get_or w k 0 < 256

-- It knows that whatever the pattern and its threads at the place `from` are.
pub record Aheads (masks rows lens marks w : List ℕ) (from : ℕ) (f : State) (a : Std.Option ℕ) (i side : ℕ) (g : State) (b : Std.Option ℕ) : Type 0 where
  pub sides : side ≤ 1
  pub sound : Sound g
  pub here : {r : Re} → Given r masks rows lens marks → Bytes w → Leaves r (order f) → {ts : List Thread} → AreThreads 0 f.slots (order f) ts
      → (way : Option Thread) → IsBest f.slots a way → Ahead r w i side g b (pass r (drop from w) ts from way)

-- A byte takes the pass one place on.
left_turn : (r : Re) (w : List ℕ) (i : ℕ) (ts : List Thread) (way : Option Thread) → i < length w
    → pass r (drop (i + 1) w) (fronts (firsts [] (moved r (get_or w i 0) (i + 1) ts))) (i + 1) (or_else (first_way (moved r (get_or w i 0) (i + 1) ts)) way) ≡ pass r (drop i w) ts i way
unfolding pass
left_turn r w i ts way h = rw (drop-cons w i 0 h, add-one i)

module _ {masks rows lens marks w : List ℕ} {from : ℕ} {f : State} {a : Std.Option ℕ} where
  pub ahead_start : Sound f → Aheads masks rows lens marks w from f a from 0 f a
  ahead_start s = record { sides = omega arith; sound = s; here = λ d bytes leaves {ts} are way best. record { ts = ts; way = way; are = are; leaves = leaves; best = best; left = refl } }

  pub ahead_turn : {i side mask : ℕ} {g h : State} {b c o : Std.Option ℕ} → i < length w → mask ≡ get_or masks (get_or w i 0) 0 → Aheads masks rows lens marks w from f a i side g b
      → Stepped rows lens marks mask (1 - side) (i + 1) g h → o ≡ then_some h.ended (i + 1) → c ≡ option_or o b
      → Aheads masks rows lens marks w from f a (i + 1) (1 - side) h c
  ahead_turn {i} {side} {mask} {g} {h} {b} {c} k m inv s ended last = record { sides = omega arith; sound = s.sound; here = λ {r} d bytes leaves are way best. turn r d bytes (inv.here d bytes leaves are way best) }
    where
      turn : (r : Re) → Given r masks rows lens marks → Bytes w → {whole : Option Thread} → Ahead r w i side g b whole → Ahead r w (i + 1) (1 - side) h c whole
      turn r d bytes before =
          let same : 1 - (1 - side) ≡ side = omega (arith, inv.sides) in
          let takes : Takes r mask (get_or w i 0) = λ p x. rw m (d.masked (get_or w i 0) p (bytes i) x) in
          let reads = s.reads d (get_or w i 0) takes before.leaves {ts = before.ts} (rw same before.are) in
          record {
            ts = fronts (firsts [] (moved r (get_or w i 0) (i + 1) before.ts));
            way = or_else (first_way (moved r (get_or w i 0) (i + 1) before.ts)) before.way;
            are = fresh_threads reads;
            leaves = λ p t. moved_below r d.numbered (get_or w i 0) (i + 1) before.ts p (fresh_leaves reads p t);
            best = fresh_best reads b before.way (λ p x e. omega arith) before.best (last ∙ ap (λ o. option_or o b) ended ∙ latest h.ended (i + 1) b);
            left = left_turn r w i before.ts before.way k ∙ before.left;
          }

  -- The end of the line, or no leaf that is wanted.
  module _ {i side : ℕ} {g : State} {b : Std.Option ℕ} (inv : Aheads masks rows lens marks w from f a i side g b) where
    passed_by : ((r : Re) (whole : Option Thread) (x : Ahead r w i side g b whole) → x.way ≡ whole) → Passed masks rows lens marks w from f a g.slots b
    passed_by e = record { passed = λ {r} d bytes leaves are way best. let x = inv.here d bytes leaves are way best in rw (sym (e r _ x)) x.best }

    pub ahead_end : length w ≤ i → Passed masks rows lens marks w from f a g.slots b
    unfolding pass
    ahead_end h = passed_by (λ r whole x. rw (drop_of_length-le w h) at x.left)

    pub ahead_over : g.n ≡ 0 → Passed masks rows lens marks w from f a g.slots b
    ahead_over h =
        passed_by (λ r whole x.
        let e : x.ts ≡ [] = sym x.are.same ∙ ap (λ n. threads x.are.values (take n g.list)) h in
        sym (pass_none r (drop i w) i x.way) ∙ (rw e at x.left))

-- From the start: row 0, from a slot with nothing, and the pass from there.
unset_held : (x : List Slot) → (slot x 128).known ≡ 0 → Holds x 128 unset
unset_held x e = record { at = λ j h. rw (e, no_bit j) (go (ltb j 8)) }
  where
    go : (c : Bool) → ◌≡◌ {A = Option ℕ} (cond c none none) none
    go true = refl
    go false = refl

left_start : (r : Re) (w : List ℕ) (i : ℕ)
    → pass r (drop i w) (fronts (firsts [] (stamped i unset (firsts [] (row_sets 0 r))))) i (or_else (first_way (stamped i unset (firsts [] (row_sets 0 r)))) none) ≡ pass_from r w i
unfolding pass_from first_row
left_start r w i = rw (or_none_lem (first_way (stamped i unset (firsts [] (row_sets 0 r)))), sym (mapped_firsts (λ k. i) (stamp i unset) [] (firsts [] (row_sets 0 r))), firsts_once [] (row_sets 0 r))
  where
    or_none_lem : (o : Option Thread) → or_else o none ≡ o
    or_none_lem none = refl
    or_none_lem (some t) = refl

handed : (x : List Slot) (b : Std.Option ℕ) (way : Option Thread) → IsBest x b way → IsWay (handed_over x b) way
handed x None none e = tt
handed x None (some t) e = e
handed x (Some end) none e = e
handed x (Some end) (some t) e = (e.0, e.1.at)

module _ {masks rows lens marks w : List ℕ} {start : ℕ} where
  pub whole_way : {list : List ℕ} {x y : List Slot} {g : State} {b c : Std.Option ℕ} → (slot x 128).known ≡ 0 → RowRead rows lens marks 0 128 0 start (blank list x) g
      → b ≡ then_some g.ended start → Passed masks rows lens marks w start g b y c → Led masks rows lens marks w start (handed_over y c)
  whole_way {list} {x} {y} {g} {b} {c} z a ended p = record { led = λ {r} d bytes. here r d bytes }
    where
      here : (r : Re) → Given r masks rows lens marks → Bytes w → IsWay (handed_over y c) (pass_from r w start)
      here r d bytes =
          let reads = row_reads d 0 (omega arith) a (λ p h e. omega arith) (unset_held x z) in
          let way = or_else (first_way (stamped start unset (firsts [] (row_sets 0 r)))) none in
          let best = fresh_best reads None none (λ p h e. omega arith) tt (ended ∙ ended_first g.ended start) in
          let leaves : Leaves r (order g) = λ p t. stamped_below r d.numbered 0 start unset p (fresh_leaves reads p t) in
          handed y c (pass_from r w start) (rw (left_start r w start) at (p.passed d bytes leaves (fresh_threads reads) way best))
