-- Brackets nest along a way that ends: a field's last opening and its last closing are of one turn, in this order, within the span; or the way never enters it.
-- Assumes nothing.
use mathlib.Core.Path.{◌≡◌, refl, sym, ap, ◌∙◌, subst}
use mathlib.Core.Logic.{◌⊎◌, inl, inr, ◌≢◌}
use Prim.Native.Nat.{ℕ, zero, suc, ◌≤◌}
use mathlib.Core.Bool.{Bool, true, false, cond}
use mathlib.Core.List.{List, [], ◌∷◌, ◌++◌, append_assoc, append-nil}
use mathlib.Core.Option.{Option, none, some}
use native.Mathlib.Omega.{arith}
use native.Mathlib.Decide.{ℕ_discrete}
use lib.ListN.{length, drop}
use lib.Dec.{ltb, eqb}
use borrow.Author.Tests.{ltb-false, eq-eqb, ne_eqb}
use Rattle.theory.specs.Pattern.{Manner, eager, lazy, Re, empty, leaf, seq, alt, star, field}
use Rattle.theory.specs.Outcomes.{Outcome, empty_turn, leaf_outcomes, when}
use Rattle.theory.proofs.Tests.{either}
use Rattle.theory.proofs.Outcomes.{AllOut}
use Rattle.theory.proofs.Turns.{all_empty_turn}
use Rattle.traces.specs.Brackets.{Without, Apart}
use Rattle.traces.specs.Traces.{Mark, opened, closed, Trace, Carried, ends_at, wants, and_then, carry, then_leave, star_outcomes, carried, traced}
use Rattle.traces.specs.Fields.{first_way, last_opened, last_closed, absent, between, field_of}
use Rattle.traces.specs.Nest.{Lacks, Nested, still, turn, both, TurnIn, LastTurn, Told, never, last, Under, Around}

-- Each end of a list, with what it carries, is in P.
data Ways {C : Type 0} (P : ℕ → C → Type 0) : List (Carried C) → Type 0 where
  nil : Ways P []
  way : {k : ℕ} {v : C} {l : List (Carried C)} → P k v → Ways P l → Ways P (ends_at k v ∷ l)
  wish : {p : ℕ} {v : C} {l : List (Carried C)} → Ways P l → Ways P (wants p v ∷ l)

module _ {C : Type 0} {P : ℕ → C → Type 0} where
  ways_append : {l m : List (Carried C)} → Ways P l → Ways P m → Ways P (l ++ m)
  ways_append nil c = c
  ways_append (way x h) c = way x (ways_append h c)
  ways_append (wish h) c = wish (ways_append h c)

  ways_then_leave : (how : Manner) {l : List (Carried C)} (i : ℕ) (v : C) → Ways P l → P i v → Ways P (then_leave how l i v)
  unfolding then_leave
  ways_then_leave eager i v h c = ways_append h (way c nil)
  ways_then_leave lazy i v h c = way c h

  ways_carry : {Q : ℕ → Type 0} (v : C) {l : List (Outcome ℕ)} → AllOut (λ k. P k v) Q l → Ways P (carry v l)
  ways_carry v AllOut.none = nil
  ways_carry v (AllOut.end x h) = way x (ways_carry v h)
  ways_carry v (AllOut.wish x h) = wish (ways_carry v h)

  first_in : {l : List (Carried C)} → Ways P l → (k : ℕ) (v : C) → first_way l ≡ some (k, v) → P k v
  first_in nil k v e = absurd (let z : ◌≡◌ {A = ℕ} 0 1 = cc in omega arith)
  first_in (way {k = j} {v = u} x h) k v e =
      let q : ◌≡◌ {A = ℕ × C} (j, u) (k, v) = cc in
      subst (λ c. P c.0 c.1) q x
  first_in (wish h) k v e = first_in h k v e

module _ {C : Type 0} {P Q : ℕ → C → Type 0} where
  ways_map : {l : List (Carried C)} → ((k : ℕ) (v : C) → P k v → Q k v) → Ways P l → Ways Q l
  ways_map f nil = nil
  ways_map f (way {k = k} {v = v} x h) = way (f k v x) (ways_map f h)
  ways_map f (wish h) = wish (ways_map f h)

  ways_and_then : {l : List (Carried C)} {f : ℕ → C → List (Carried C)} → ((k : ℕ) (v : C) → P k v → Ways Q (f k v)) → Ways P l → Ways Q (and_then l f)
  ways_and_then a nil = nil
  ways_and_then a (way {k = k} {v = v} x h) = ways_append (a k v x) (ways_and_then a h)
  ways_and_then a (wish h) = wish (ways_and_then a h)

-- What a trace last did is in its later part, if that has the field at all.
past : (c : Bool) (i : ℕ) {o m n : Option ℕ} → cond c (some i) o ≡ none → (o ≡ none → m ≡ n) → cond c (some i) m ≡ n
past true i e h = absurd (let z : ◌≡◌ {A = ℕ} 0 1 = cc in omega arith)
past false i e h = h e

opened_append : (f : ℕ) (s t : Trace) → last_opened f s ≡ none → last_opened f (s ++ t) ≡ last_opened f t
opened_append f [] t e = refl
opened_append f (closed g i ∷ s) t e = opened_append f s t e
opened_append f (opened g i ∷ s) t e = past (eqb f g) i e (opened_append f s t)

closed_append : (f : ℕ) (s t : Trace) → last_closed f s ≡ none → last_closed f (s ++ t) ≡ last_closed f t
closed_append f [] t e = refl
closed_append f (opened g i ∷ s) t e = closed_append f s t e
closed_append f (closed g i ∷ s) t e = past (eqb f g) i e (closed_append f s t)

lacks_append : (f : ℕ) (s t : Trace) → Lacks f s → Lacks f t → Lacks f (s ++ t)
lacks_append f s t a b = (opened_append f s t a.0 ∙ b.0, closed_append f s t a.1 ∙ b.1)

lacks_turn : (f g a b : ℕ) (t : Trace) → f ≢ g → Lacks f t → Lacks f (closed g b ∷ (t ++ (opened g a ∷ [])))
lacks_turn f g a b t h c =
    let d : Lacks f (t ++ (opened g a ∷ [])) = lacks_append f t (opened g a ∷ []) c (rw (ne_eqb f g h), refl) in
    (d.0, rw (ne_eqb f g h) d.1)

nested_le : {i k : ℕ} {t : Trace} → Nested i k t → i ≤ k
nested_le (still h) = h
nested_le (turn c h) = nested_le h
nested_le (both a b) = let x = nested_le a in let y = nested_le b in omega arith

-- A nested trace in which each turn of the field g stands inside one of the field f.
abbrev Inner : {i k : ℕ} {t : Trace} → ℕ → ℕ → Nested i k t → Type 0
Inner f g (still h) = Unit {0}
Inner f g (turn {f = h} c n) = (h ≡ f) ⊎ ((h ≢ g) × Inner f g n)
Inner f g (both m n) = Inner f g m × Inner f g n

-- The way of a part r from i, with the trace t so far, to k, with the trace u.
record Way (r : Re) (t : Trace) (i k : ℕ) (u : Trace) : Type 0 where
  marks : Trace
  joined : u ≡ marks ++ t
  nests : Nested i k marks
  only : (g : ℕ) → Without g r → Lacks g marks
  inner : (f g : ℕ) → Under f g r → Inner f g nests

-- What holds of z's brackets holds of those of its part x.
abbrev Part : Re → Re → Type 0
Part x z = ((g : ℕ) → Without g z → Without g x) × ((f g : ℕ) → Under f g z → Under f g x)

-- No mark; one way and then another; a turn.
no_mark : (r : Re) (t : Trace) (i k : ℕ) → i ≤ k → Way r t i k t
no_mark r t i k h = record { marks = []; joined = refl; nests = still h; only = λ g c. (refl, refl); inner = λ f g c. tt }

one_then : (x y z : Re) (t u s : Trace) (i k j : ℕ) → Part x z → Part y z → Way x t i k u → Way y u k j s → Way z t i j s
one_then x y z t u s i k j p q a b =
    record {
      marks = b.marks ++ a.marks;
      joined = b.joined ∙ ap (λ m. b.marks ++ m) a.joined ∙ sym (append_assoc b.marks a.marks t);
      nests = both a.nests b.nests;
      only = λ g c. lacks_append g b.marks a.marks (b.only g (q.0 g c)) (a.only g (p.0 g c));
      inner = λ f g c. (a.inner f g (p.1 f g c), b.inner f g (q.1 f g c));
    }

one_turn : (x : Re) (f : ℕ) (t u : Trace) (i k : ℕ) → Without f x → Way x (opened f i ∷ t) i k u → Way (field f x) t i k (closed f k ∷ u)
unfolding Without Under
one_turn x f t u i k h a =
    record {
      marks = closed f k ∷ (a.marks ++ (opened f i ∷ []));
      joined = ap (λ m. closed f k ∷ m) (a.joined ∙ sym (append_assoc a.marks (opened f i ∷ []) t));
      nests = turn (a.only f h) a.nests;
      only = λ g c. lacks_turn g f i k a.marks c.0 (a.only g c.1);
      inner = λ e g c. either inl (λ m. inr (m.0, a.inner e g m.1)) c;
    }

same_way : (x z : Re) (t u : Trace) (i k : ℕ) → Part x z → Way x t i k u → Way z t i k u
same_way x z t u i k p a =
    record {
      marks = a.marks;
      joined = a.joined;
      nests = a.nests;
      only = λ g c. a.only g (p.0 g c);
      inner = λ f g c. a.inner f g (p.1 f g c);
    }

abbrev add : Mark → Trace → Trace
add m t = m ∷ t

star_ways : (how : Manner) (x : Re) (f : ℕ → Trace → List (Carried Trace)) → ((i : ℕ) (t : Trace) → Ways (Way x t i) (f i t)) → (d i : ℕ) (t : Trace) → Ways (Way (star how x) t i) (star_outcomes how f d i t)
unfolding star_outcomes Without Under
star_ways how x f h zero i t = nil
star_ways how x f h (suc d) i t =
    ways_then_leave how i t
    (ways_and_then (λ k u c. go k u c (ltb i k) (ltb-false i k) (star_ways how x f h d k u)) (h i t))
    (no_mark (star how x) t i i (omega arith))
  where
    go : (k : ℕ) (u : Trace) → Way x t i k u → (c : Bool) → (c ≡ false → k ≤ i) → Ways (Way (star how x) u k) (star_outcomes how f d k u) → Ways (Way (star how x) t i) (cond c (star_outcomes how f d k u) (carry u (empty_turn i)))
    go k u a true e b = ways_map (λ j s c. one_then x (star how x) (star how x) t u s i k j (λ g c. c, λ f g c. c) (λ g c. c, λ f g c. c) a c) b
    go k u a false e b =
        let l = nested_le a.nests in
        let same : k ≡ i = omega (arith, e refl) in
        ways_carry u (all_empty_turn {P = λ j. Way (star how x) t i j u} {Q = λ p. Unit {0}} i (subst (λ j. Way (star how x) t i j u) same (same_way x (star how x) t u i k (λ g c. c, λ f g c. c) a)))

-- Each way of a part.
ways : (r : Re) → Apart r → (w : List ℕ) (i : ℕ) (t : Trace) → Ways (Way r t i) (carried add r w i t)
unfolding carried Apart Without Under
ways empty h w i t = way (no_mark empty t i i (omega arith)) nil
ways (leaf p s) h w i t = go (drop i w)
  where
    go : (l : List ℕ) → Ways (Way (leaf p s) t i) (carry t (leaf_outcomes p s i l))
    go [] = wish nil
    go (b ∷ l) = here (s b)
      where
        here : (c : Bool) → Ways (Way (leaf p s) t i) (carry t (when c (Outcome.ends_at (suc i) ∷ [])))
        here true = way (no_mark (leaf p s) t i (suc i) (omega arith)) nil
        here false = nil
ways (seq x y) h w i t = ways_and_then (λ k u a. ways_map (λ j s b. one_then x y (seq x y) t u s i k j (λ g c. c.0, λ f g c. c.0) (λ g c. c.1, λ f g c. c.1) a b) (ways y h.1 w k u)) (ways x h.0 w i t)
ways (alt x y) h w i t =
    ways_append
    (ways_map (λ k u a. same_way x (alt x y) t u i k (λ g c. c.0, λ f g c. c.0) a) (ways x h.0 w i t))
    (ways_map (λ k u a. same_way y (alt x y) t u i k (λ g c. c.1, λ f g c. c.1) a) (ways y h.1 w i t))
ways (star how x) h w i t = star_ways how x (carried add x w) (ways x h w) (suc (length w)) i t
ways (field f x) h w i t = ways_and_then (λ k u a. way (one_turn x f t u i k h.0 a) nil) (ways x h.1 w i (opened f i ∷ t))

-- The trace t as a piece of the trace w.
record Piece (t w : Trace) : Type 0 where
  after : Trace
  before : Trace
  whole : w ≡ after ++ (t ++ before)

turn_within : {t w : Trace} {f a b : ℕ} → Piece t w → TurnIn f t a b → TurnIn f w a b
turn_within p l =
    record {
      later = p.after ++ l.later;
      inside = l.inside;
      earlier = l.earlier ++ p.before;
      parts = p.whole ∙ ap (λ m. p.after ++ (m ++ p.before)) l.parts ∙ simp append_assoc;
      none_inside = l.none_inside;
      nests = l.nests;
    }

around_within : {t w : Trace} {f a b : ℕ} → Piece t w → Around f t a b → Around f w a b
around_within p l = record { from = l.from; to = l.to; one = turn_within p l.one; begins = l.begins; ends = l.ends }

-- The last turn of the field g along a nested trace, and a turn around it of each field that g stands inside of.
record Last (g : ℕ) {i k : ℕ} {t : Trace} (n : Nested i k t) : Type 0 where
  from : ℕ
  to : ℕ
  turned : LastTurn g t from to
  begins : i ≤ from
  ends : to ≤ k
  around : (f : ℕ) → Inner f g n → Around f t from to

-- It is that of a longer trace, if nothing of g comes later there.
last_within : {g i k j m : ℕ} {t w : Trace} {n : Nested i k t} {o : Nested j m w} (p : Piece t w) → Lacks g p.after → j ≤ i → k ≤ m
    → ((f : ℕ) → Inner f g o → Inner f g n ⊎ ((a b : ℕ) → j ≤ a → b ≤ m → Around f w a b)) → Last g n → Last g o
unfolding turn_within
last_within {g = g} p h x y c l =
    let begins = l.begins in
    let ends = l.ends in
    record {
      from = l.from;
      to = l.to;
      turned = record { one = turn_within p l.turned.one; none_later = lacks_append g p.after l.turned.one.later h l.turned.none_later };
      begins = omega arith;
      ends = omega arith;
      around = λ f q. either (λ z. around_within p (l.around f z)) (λ z. z l.from l.to (omega arith) (omega arith)) (c f q);
    }

last_turn : {i k : ℕ} {t : Trace} (g : ℕ) (n : Nested i k t) → Lacks g t ⊎ Last g n
last_turn g (still h) = inl (refl, refl)
last_turn g (turn {f = h} {i = i} {k = k} {t = t} c n) = go (ℕ_discrete g h) (last_turn g n)
  where
    here : (f : ℕ) → f ≡ h → TurnIn f (closed h k ∷ (t ++ (opened h i ∷ []))) i k
    here f e = record { later = []; inside = t; earlier = []; parts = rw e; none_inside = rw e c; nests = n }

    outer : (f : ℕ) → h ≡ f → (a b : ℕ) → i ≤ a → b ≤ k → Around f (closed h k ∷ (t ++ (opened h i ∷ []))) a b
    outer f e a b p q = record { from = i; to = k; one = here f (sym e); begins = p; ends = q }

    go : Dec (g ≡ h) → Lacks g t ⊎ Last g n → Lacks g (closed h k ∷ (t ++ (opened h i ∷ []))) ⊎ Last g (turn {f = h} c n)
    go (yes e) o =
        inr (record {
          from = i;
          to = k;
          turned = record { one = here g e; none_later = (refl, refl) };
          begins = omega arith;
          ends = omega arith;
          around = λ f. either (λ q. outer f q i k (omega arith) (omega arith)) (λ m. absurd (m.0 (sym e)));
        })
    go (no d) (inl l) = inl (lacks_turn g h i k t d l)
    go (no d) (inr l) =
        inr (last_within (record { after = closed h k ∷ []; before = opened h i ∷ []; whole = refl }) (refl, rw (ne_eqb g h d)) (omega arith) (omega arith)
        (λ f. either (λ q. inr (outer f q)) (λ m. inl m.1)) l)
last_turn g (both {i = i} {j = j} {k = k} {s = s} {t = t} x y) = go (nested_le x) (nested_le y) (last_turn g y) (last_turn g x)
  where
    go : i ≤ j → j ≤ k → Lacks g t ⊎ Last g y → Lacks g s ⊎ Last g x → Lacks g (t ++ s) ⊎ Last g (both x y)
    go m n (inr l) o = inr (last_within (record { after = []; before = s; whole = refl }) (refl, refl) m (omega arith) (λ f q. inl q.1) l)
    go m n (inl d) (inl c) = inl (lacks_append g t s d c)
    go m n (inl d) (inr l) = inr (last_within (record { after = t; before = []; whole = ap (λ v. t ++ v) (sym (append-nil s)) }) d (omega arith) n (λ f q. inl q.0) l)

-- It is what `field_of` reads.
last_read : (f : ℕ) (t : Trace) (a b : ℕ) → LastTurn f t a b → field_of f t ≡ between a b
last_read f t a b l =
    let here = eq-eqb f f refl in
    let one = l.one in
    let opens : last_opened f t ≡ some a =
    ap (last_opened f) one.parts ∙ opened_append f one.later _ l.none_later.0 ∙ opened_append f one.inside _ one.none_inside.0 ∙ rw here in
    let closes : last_closed f t ≡ some b = ap (last_closed f) one.parts ∙ closed_append f one.later _ l.none_later.1 ∙ rw here in
    rw (opens, closes)

told_nested : (f i k : ℕ) (t : Trace) → Nested i k t → Told f t i k (field_of f t)
told_nested f i k t n = go (last_turn f n)
  where
    go : Lacks f t ⊎ Last f n → Told f t i k (field_of f t)
    go (inl c) = rw c.0 (never c)
    go (inr l) = rw (last_read f t l.from l.to l.turned) (last l.turned l.begins (nested_le l.turned.one.nests) l.ends)

around_nested : (f g : ℕ) {i k : ℕ} {t : Trace} (n : Nested i k t) → Inner f g n → (a b : ℕ) → field_of g t ≡ between a b → Around f t a b
around_nested f g {i} {k} {t} n q a b e = go (last_turn g n)
  where
    go : Lacks g t ⊎ Last g n → Around f t a b
    go (inl c) = absurd (let none : absent ≡ between a b = rw c.0 at e in let z : ◌≡◌ {A = ℕ} 0 1 = cc in omega arith)
    go (inr l) =
        let same : between l.from l.to ≡ between a b = sym (last_read g t l.from l.to l.turned) ∙ e in
        let begin : l.from ≡ a = cc in
        let end : l.to ≡ b = cc in
        rw (begin, end) at (l.around f q)

-- Along the most preferred way.
module _ (r : Re) (h : Apart r) (w : List ℕ) (i k : ℕ) (t : Trace) (e : first_way (traced r w i) ≡ some (k, t)) where
  way_of : Way r [] i k t
  way_of = first_in (ways r h w i []) k t e

  same : way_of.marks ≡ t
  same = sym (way_of.joined ∙ append-nil way_of.marks)

  -- Brackets nest:
  pub way_nests : Nested i k t
  way_nests = rw same at way_of.nests

  -- a field is its last turn, within the span, or absent if the way never enters it,
  pub told : (f : ℕ) → Told f t i k (field_of f t)
  told f = told_nested f i k t way_nests

  -- as it is where the pattern has no bracket of it;
  pub way_lacks : (f : ℕ) → Without f r → Lacks f t
  way_lacks f g = rw same at (way_of.only f g)

  -- and what stands inside another field is inside a turn of that.
  pub way_around : (f g : ℕ) → Under f g r → (a b : ℕ) → field_of g t ≡ between a b → Around f t a b
  way_around f g u a b c = rw same at (around_nested f g way_of.nests (way_of.inner f g u) a b (rw (← same) at c))
