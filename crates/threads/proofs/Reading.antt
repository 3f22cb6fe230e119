-- Reading outcomes: two lists one after the other, a leaf that is entered, and an end.
-- Assumes nothing.
use mathlib.Core.Path.{◌≡◌, refl, sym, ap, ◌∙◌}
use mathlib.Core.Option.{Option, none, some}
use Prim.Native.Nat.{ℕ, ◌+◌, ◌*◌, ◌≤◌, ◌<◌}
use mathlib.Core.Bool.{true, false, ◌||◌, cond, true≢false}
use mathlib.Core.List.{List, [], ◌∷◌, ◌++◌}
use native.Mathlib.Omega.{arith}
use native.Mathlib.Numerals.{add-one}
use lib.ListN.{length, set, length-set}
use lib.Seq.{length-take-le, take-suc-set}
use lib.Dec.{T, eqb, eqb→eq, eqb_refl}
use borrow.Author.Tests.{eq-eqb, ne_eqb}
use Rattle.theory.specs.Standing.{member, from}
use Rattle.theory.specs.Code.Members.{nil, cons}
use Rattle.theory.proofs.Tests.{T_true, not_true, or_left, or_right, or_cases, or_false, either}
use Rattle.theory.proofs.Members.{member_append, member_from, length_from, once_gather, once_size}
use Rattle.words.specs.Sets.{has_bit}
use Rattle.words.proofs.Bits.{no_bit}
use Rattle.traces.specs.Traces.{Carried, ends_at, want}
use Rattle.traces.specs.Fields.{first_way}
use Rattle.traces.specs.Code.Pass.{Values, Thread}
use Rattle.threads.specs.declared.Slot.{Slot}
use Rattle.threads.specs.declared.State.{State}
use Rattle.threads.specs.Slots.{Holds, Marked, Moved}
use Rattle.threads.specs.Reads.{order, Sound, blank, threads, leaves_of, AreThreads, entered, Found, Reads, LeafEntered}
use Rattle.traces.proofs.Pass.{way_append}
use Rattle.threads.proofs.Entered.{entered_append}

-- Threads made of leaves.
pub threads_append : (v : ℕ → Values) (l m : List ℕ) → threads v (l ++ m) ≡ threads v l ++ threads v m
threads_append v [] m = refl
threads_append v (p ∷ l) m = ap (λ ts. (p, v p) ∷ ts) (threads_append v l m)

pub leaves_threads : (v : ℕ → Values) (l : List ℕ) → leaves_of (threads v l) ≡ l
leaves_threads v [] = refl
leaves_threads v (p ∷ l) = ap (λ m. p ∷ m) (leaves_threads v l)

threads_same : (v w : ℕ → Values) (l : List ℕ) → ((p : ℕ) → T (member p l) → v p ≡ w p) → threads v l ≡ threads w l
threads_same v w [] e = refl
threads_same v w (p ∷ l) e = rw (e p (or_left (eqb p p) (member p l) (eqb_refl p)), threads_same v w l λ q t. e q (or_right (eqb q p) (member q l) t))

pub leaves_same : {side : ℕ} {x : List Slot} {l : List ℕ} {ts : List Thread} → AreThreads side x l ts → leaves_of ts ≡ l
leaves_same {l = l} w = ap leaves_of (sym w.same) ∙ leaves_threads w.values l

-- Nothing is entered.
pub blank_sound : {list : List ℕ} {x : List Slot} → length list ≡ 64 → length x ≡ 129 → Sound (blank list x)
blank_sound long h = record { long = long; slots = h; size = omega arith; marked = λ p. no_bit p; below = λ p t. absurd t; apart = nil }

-- One list and then another; and any other where a way has ended.
module _ {side n : ℕ} where
  pub reads_none : {f : State} → f.ended ≡ false → Reads side n f [] f
  reads_none e = record { threads = λ s. s; found = e; kept = λ z o h. h }

  found_none : {l : List (Carried Values)} {f g : State} → Reads side n f l g → g.ended ≡ false → first_way l ≡ none
  found_none {l} {f} {g} a e = go (first_way l) a.found
    where
      go : (o : Option Thread) → Found n g o → o ≡ none
      go none h = refl
      go (some t) h = absurd (true≢false (sym h.0 ∙ e))

  pub reads_append : {l m : List (Carried Values)} {f g h : State} → Reads side n f l g → g.ended ≡ false → Reads side n g m h → Reads side n f (l ++ m) h
  reads_append {l} {m} a going b =
      let e = found_none a going in
      record {
        threads = λ {ts} s. rw (entered_append ts l m, e) (b.threads (a.threads s));
        found = rw (way_append l m, e) b.found;
        kept = λ z o h. b.kept z o (a.kept going o h);
      }

  pub reads_over : {l : List (Carried Values)} {f g : State} (m : List (Carried Values)) → Reads side n f l g → (g.ended ≡ false → ⊥) → Reads side n f (l ++ m) g
  reads_over {l} {f} {g} m a over = go (first_way l) refl a.found
    where
      go : (o : Option Thread) → first_way l ≡ o → Found n g o → Reads side n f (l ++ m) g
      go none e h = absurd (over h)
      go (some t) e h = record {
        threads = λ {ts} s. rw (entered_append ts l m, e) (a.threads s);
        found = rw (way_append l m, e) h;
        kept = a.kept;
      }

-- The end: its thread gets slot 128, and the leaves are as they were.
abbrev pub ended_in : State → List Slot → State
ended_in f y = record { list = f.list; n = f.n; seen = f.seen; ended = true; slots = y }

module _ {f : State} (s : Sound f) {slot m n : ℕ} {y : List Slot} (z : Moved slot 128 m n f.slots y) where
  pub end_sound : Sound (ended_in f y)
  end_sound = record { long = s.long; slots = z.long ∙ s.slots; size = s.size; marked = s.marked; below = s.below; apart = s.apart }

  pub reads_end : {side : ℕ} {v u : Values} (l : List (Carried Values)) → side ≤ 1 → Holds f.slots slot v → Marked m n v u → Reads side n f (ends_at n u ∷ l) (ended_in f y)
  reads_end l c a k = record {
    threads = λ w. record { values = w.values; same = w.same; held = λ p t. z.others (λ e. omega (arith, s.below p t)) (w.held p t) };
    found = (refl, refl, z.moved a k);
    kept = λ e. absurd (true≢false e);
  }

-- The leaf p, if it is there,
pub reads_again : {side n : ℕ} {f : State} (p : ℕ) (u : Values) → Sound f → f.ended ≡ false → has_bit f.seen p ≡ true → Reads side n f (want p u) f
reads_again {f = f} p u s going b = record {
  threads = λ {ts} w. rw (leaves_same w, sym (s.marked p) ∙ b) w;
  found = going;
  kept = λ z o a. a;
}

-- and if it is not there.
abbrev pub grown : State → ℕ → List Slot → ℕ → State
grown f p y seen = record { list = set f.list f.n p; n = f.n + 1; seen = seen; ended = f.ended; slots = y }

module _ (f : State) (p : ℕ) (s : Sound f) (going : f.ended ≡ false) (h : p < 64) (b : has_bit f.seen p ≡ false) where
  new : T (member p (order f)) → ⊥
  new t = true≢false (sym (T_true (member p (order f)) t) ∙ sym (s.marked p) ∙ b)

  -- There is room for it.
  pub enter_room : f.n < 64
  enter_room =
      let c = once_size (cons {p = p} new s.apart) (from 0 64) (λ q t. member_from q 0 64 (omega arith)
      (either (λ i. omega (arith, eqb→eq q p i)) (λ i. s.below q i) (or_cases (eqb q p) (member q (order f)) t))) in
      omega (arith, length_from 0 64, length-take-le f.n f.list (omega (arith, s.size, s.long)), s.size)

  module _ (y : List Slot) (seen : ℕ) where
    one_more : order (grown f p y seen) ≡ order f ++ (p ∷ [])
    one_more = rw (add-one f.n) (take-suc-set f.list f.n p (omega (arith, enter_room, s.long)))

    -- Each is the new one or one of the others.
    one_of : {A : Type 0} (q : ℕ) → T (member q (order (grown f p y seen))) → (q ≡ p → A) → (T (member q (order f)) → A) → A
    one_of q t x y =
        either y (λ i. x (eqb→eq q p (rw (or_false (eqb q p)) at i)))
        (or_cases (member q (order f)) (member q (p ∷ [])) (rw (one_more, member_append q (order f) (p ∷ [])) at t))

    grown_sound : ((q : ℕ) → has_bit seen q ≡ (has_bit f.seen q || eqb q p)) → length y ≡ 129 → Sound (grown f p y seen)
    grown_sound bits long = record {
      long = simp length-set s.long;
      slots = long;
      size = omega (arith, enter_room);
      marked = λ q. bits q ∙ rw (one_more, member_append q (order f) (p ∷ []), s.marked q, or_false (eqb q p));
      below = λ q t. one_of q t (λ e. omega arith) (s.below q);
      apart = rw one_more (rw (not_true (member p (order f)) new) at (once_gather (order f) (p ∷ []) s.apart));
    }

    module _ {side slot m n : ℕ} (z : Moved slot (64 * side + p) m n f.slots y) where
      grown_threads : {v u : Values} {ts : List Thread} → Holds f.slots slot v → Marked m n v u → AreThreads side f.slots (order f) ts → AreThreads side y (order (grown f p y seen)) (entered ts (want p u))
      grown_threads {v} {u} {ts} a k w = record {
        values = values;
        same = rw (one_more, threads_append values (order f) (p ∷ []), eq-eqb p p refl, threads_same values w.values (order f) old, w.same, leaves_same w, not_true (member p (order f)) new);
        held = λ q t. one_of q t (λ e. rw (e, eq-eqb p p refl) (z.moved a k)) (λ i. rw (old q i) (z.others (λ e. other q i (omega arith)) (w.held q i)));
      }
        where
          values : ℕ → Values
          values q = cond (eqb q p) u (w.values q)

          other : (q : ℕ) → T (member q (order f)) → q ≡ p → ⊥
          other q i e = new (rw e at i)

          old : (q : ℕ) → T (member q (order f)) → values q ≡ w.values q
          old q i = rw (ne_eqb q p (other q i))

      pub enter_new : ((q : ℕ) → has_bit seen q ≡ (has_bit f.seen q || eqb q p)) → LeafEntered p m slot side n f (grown f p y seen)
      enter_new bits = record {
        sound = grown_sound bits (z.long ∙ s.slots);
        ended = going;
        reads = λ a k. record { threads = grown_threads a k; found = going; kept = λ e o c. z.others (o p h) c };
      }
