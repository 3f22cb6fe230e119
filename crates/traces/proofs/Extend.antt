-- The list of a line that grew by a byte is the old list, with each `wants p` replaced by p's row from what it carries, if the byte is in p's set.
-- Assumes nothing.
use mathlib.Core.Path.{◌≡◌, refl, sym, ap, ap₂, ◌∙◌}
use Prim.Native.Nat.{ℕ, zero, suc, ◌+◌, ◌-◌, ◌≤◌, ◌<◌}
use mathlib.Core.Bool.{Bool, true, false, cond}
use mathlib.Core.List.{List, [], ◌∷◌, ◌++◌, append-nil}
use native.Mathlib.Omega.{arith}
use lib.ListN.{length, drop, length-drop, length-append}
use lib.Seq.{drop-append-le, drop-length}
use lib.Dec.{T, ltb, ltb→lt}
use borrow.Author.Tests.{lt-ltb, le-ltb, eq-eqb}
use Rattle.theory.specs.Pattern.{Manner, eager, lazy, Re, empty, leaf, seq, alt, star, field, has, count, Numbered}
use Rattle.theory.specs.Outcomes.{Outcome, empty_turn, leaf_outcomes, when}
use Rattle.theory.specs.Code.Follow as Plain-rows
use Rattle.theory.proofs.Tests.{or_false}
use Rattle.theory.proofs.Outcomes.{AllOut}
use Rattle.theory.proofs.Turns.{all_empty_turn}
use Rattle.theory.proofs.Equations.{Leaf, InLine, outcomes_all}
use Rattle.theory.proofs.Extend.{place, has_none, leaf_range}
use Rattle.theory.proofs.Extend as Plain-laws
use Rattle.traces.specs.Traces.{Mark, opened, Carried, ends_at, end, want, replace, and_then, plain, carry, after_turn, then_leave, star_outcomes, close, carried}
use Rattle.traces.specs.Code.Rows.{start, follow, after}
use Rattle.traces.proofs.Lists.{replace_append, replace_congr, replace_replace, replace_ends, plain_none}
use Rattle.traces.proofs.Forget.{forgets}
use Rattle.traces.proofs.Rows.{plain_start, plain_follow, plain_after, place_all}

after_turn_congr : {C : Type 0} {l m : List (Carried C)} (i k : ℕ) (v : C) → (T (ltb i k) → l ≡ m) → after_turn i k v l ≡ after_turn i k v m
after_turn_congr {l = l} {m = m} i k v = go (ltb i k)
  where
    go : (t : Bool) → (T t → l ≡ m) → cond t l (carry v (empty_turn i)) ≡ cond t m (carry v (empty_turn i))
    go true h = h tt
    go false h = refl

-- Leaf numbers of two neighbours differ.
apart : (x y : Re) {p : ℕ} (n : ℕ) → Numbered n x → Numbered (n + count x) y → Leaf x p → Leaf y p → ⊥
apart x y n hx hy l m = let c = leaf_range n hx l in let d = leaf_range (n + count x) hy m in omega arith

module _ {C : Type 0} (mark : Mark → C → C) where
  -- What a part's list holds.
  carried_all : (r : Re) (w : List ℕ) (i : ℕ) (v : C) → AllOut (InLine (length w) i) (Leaf r) (plain (carried mark r w i v))
  carried_all r w i v = rw (forgets mark r w i v) (outcomes_all r w i)

  -- The number in `star_outcomes` does not matter once it is large enough.
  star_enough : {Q : ℕ → Type 0} (how : Manner) (f : ℕ → C → List (Carried C)) (n : ℕ) → ((i : ℕ) (v : C) → AllOut (InLine n i) Q (plain (f i v)))
      → (d e i : ℕ) (v : C) → n - i < d → n - i < e → star_outcomes how f d i v ≡ star_outcomes how f e i v
  unfolding star_outcomes
  star_enough how f n h zero e i v p q = absurd (omega arith)
  star_enough how f n h (suc d) zero i v p q = absurd (omega arith)
  star_enough how f n h (suc d) (suc e) i v p q =
      ap (λ l. then_leave how l i v)
      (replace_congr {g = want} {g' = want} (f i v) (h i v)
      (λ k u b. after_turn_congr i k u λ t. star_enough how f n h d e k u (omega (arith, ltb→lt i k t)) (omega (arith, ltb→lt i k t)))
      (λ p u b. refl))

  carried_star : (how : Manner) (x : Re) (w : List ℕ) (i : ℕ) (v : C)
      → carried mark (star how x) w i v ≡ then_leave how (and_then (carried mark x w i v) (λ k u. after_turn i k u (carried mark (star how x) w k u))) i v
  unfolding carried star_outcomes
  carried_star how x w i v =
      ap (λ l. then_leave how l i v)
      (replace_congr {g = want} {g' = want} (carried mark x w i v) (carried_all x w i v)
      (λ k u b. after_turn_congr i k u λ t. star_enough how (carried mark x w) (length w) (carried_all x w) (length w) (suc (length w)) k u (omega (arith, ltb→lt i k t)) (omega arith))
      (λ p u b. refl))

  -- At the line's end the list is the part's `start`.
  start_all : (r : Re) (n : ℕ) (v : C) → AllOut (λ k. k ≡ n) (λ p. Unit {0}) (plain (start mark r n v))
  start_all r n v = rw (plain_start mark r n v) (place_all n (Plain-rows.start r))

  after_all : (r : Re) (b p n : ℕ) (v : C) → AllOut (λ k. k ≡ n) (λ p. Unit {0}) (plain (after mark r b p n v))
  after_all r b p n v = rw (plain_after mark r b p n v) (place_all n (Plain-rows.after r b p))

  pub carried_end : (r : Re) (w : List ℕ) (v : C) → carried mark r w (length w) v ≡ start mark r (length w) v
  unfolding carried start
  carried_end empty w v = refl
  carried_end (leaf p s) w v = rw (drop-length w)
  carried_end (seq x y) w v = rw (carried_end x w v) (replace_congr {g = want} {g' = want} (start mark x (length w) v) (start_all x (length w) v) (λ k u e. rw e (carried_end y w u)) (λ p u e. refl))
  carried_end (alt x y) w v = rw (carried_end x w v, carried_end y w v)
  carried_end (star how x) w v =
      carried_star how x w (length w) v
      ∙ rw (carried_end x w v)
      (ap (λ l. then_leave how l (length w) v) (replace_congr {g = want} {g' = want} (start mark x (length w) v) (start_all x (length w) v) (λ k u e. rw (e, le-ltb (length w) (length w) (omega arith))) (λ p u e. refl)))
  carried_end (field f x) w v = rw (carried_end x w (mark (opened f (length w)) v))

  -- A part without the leaf p has no row for it, and a part's row is made of that of the one below that has the leaf.
  follow_none : (r : Re) (p n : ℕ) (v : C) → (Leaf r p → ⊥) → follow mark r p n v ≡ []
  follow_none r p n v h = plain_none (follow mark r p n v) (plain_follow mark r p n v ∙ ap (place n) (Plain-laws.follow_none r p h))

  when_and_then : (c : Bool) (l : List (Carried C)) (f : ℕ → C → List (Carried C)) → and_then (when c l) f ≡ when c (and_then l f)
  when_and_then true l f = refl
  when_and_then false l f = refl

  module _ (b p n : ℕ) (v : C) (x y : Re) where
    after_seq_left : (Leaf y p → ⊥) → after mark (seq x y) b p n v ≡ and_then (after mark x b p n v) (start mark y)
    unfolding has follow
    after_seq_left h = rw (has_none y p b h, follow_none y p n v h, append-nil, or_false) (sym (when_and_then (has x p b) (follow mark x p n v) (start mark y)))

    after_seq_right : (Leaf x p → ⊥) → after mark (seq x y) b p n v ≡ after mark y b p n v
    unfolding has follow
    after_seq_right h = rw (has_none x p b h, follow_none x p n v h)

    after_alt_left : (Leaf y p → ⊥) → after mark (alt x y) b p n v ≡ after mark x b p n v
    unfolding has follow
    after_alt_left h = rw (has_none y p b h, follow_none y p n v h, append-nil, or_false)

    after_alt_right : (Leaf x p → ⊥) → after mark (alt x y) b p n v ≡ after mark y b p n v
    unfolding has follow
    after_alt_right h = rw (has_none x p b h, follow_none x p n v h)

  after_star : (b p n : ℕ) (v : C) (how : Manner) (x : Re) → after mark (star how x) b p n v ≡ and_then (after mark x b p n v) (start mark (star how x))
  unfolding has follow
  after_star b p n v how x = sym (when_and_then (has x p b) (follow mark x p n v) (start mark (star how x)))

  after_field : (b p n : ℕ) (v : C) (f : ℕ) (x : Re) → after mark (field f x) b p n v ≡ and_then (after mark x b p n v) (close mark f)
  unfolding has follow
  after_field b p n v f x = sym (when_and_then (has x p b) (follow mark x p n v) (close mark f))

  -- The list of a line of length n that grew by b.
  unfoldable pub grow : Re → ℕ → ℕ → List (Carried C) → List (Carried C)
  grow r b n l = replace end (λ p v. after mark r b p (suc n) v) l

  grow_congr : (b n : ℕ) (x y : Re) {P Q : ℕ → Type 0} (l : List (Carried C)) → ((p : ℕ) (v : C) → Q p → after mark x b p (suc n) v ≡ after mark y b p (suc n) v)
      → AllOut P Q (plain l) → grow x b n l ≡ grow y b n l
  unfolding grow
  grow_congr b n x y l e h = replace_congr {f = end} {f' = end} l h (λ k v c. refl) e

  grow_after_turn : (r : Re) (b n i k : ℕ) (v : C) (l : List (Carried C)) → grow r b n (after_turn i k v l) ≡ after_turn i k v (grow r b n l)
  unfolding grow
  grow_after_turn r b n i k v l = go (ltb i k)
    where
      go : (t : Bool) → replace end (λ p v. after mark r b p (suc n) v) (cond t l (carry v (empty_turn i))) ≡ cond t (replace end (λ p v. after mark r b p (suc n) v) l) (carry v (empty_turn i))
      go true = refl
      go false = replace_ends (λ p v. after mark r b p (suc n) v) v (all_empty_turn {P = λ k. Unit {0}} {Q = λ p. ⊥} i tt)

  grow_then_leave : (how : Manner) (r : Re) (b n i : ℕ) (v : C) (l : List (Carried C)) → grow r b n (then_leave how l i v) ≡ then_leave how (grow r b n l) i v
  unfolding grow then_leave
  grow_then_leave lazy r b n i v l = refl
  grow_then_leave eager r b n i v l = replace_append end (λ p v. after mark r b p (suc n) v) l (ends_at i v ∷ [])

  -- A part r that takes x first and goes on by G, and by F once the line has grown.
  grow_and_then : (b n : ℕ) (x r : Re) {P Q : ℕ → Type 0} (F G : ℕ → C → List (Carried C)) (l : List (Carried C)) → AllOut P Q (plain l)
      → ((k : ℕ) (v : C) → P k → F k v ≡ grow r b n (G k v))
      → ((p : ℕ) (v : C) → Q p → and_then (after mark x b p (suc n) v) F ≡ after mark r b p (suc n) v)
      → and_then (grow x b n l) F ≡ grow r b n (and_then l G)
  unfolding grow
  grow_and_then b n x r F G l h ends wishes =
      replace_replace end (λ p v. after mark x b p (suc n) v) F want l
      ∙ replace_congr l h (λ k v c. append-nil (F k v) ∙ ends k v c) (λ p v c. wishes p v c ∙ sym (append-nil _))
      ∙ sym (replace_replace G want end (λ p v. after mark r b p (suc n) v) l)

  module _ (w : List ℕ) (b : ℕ) where
    extend_leaf : (p : ℕ) (s : ℕ → Bool) (i : ℕ) (v : C) → i ≤ length w → (l : List ℕ) → length l ≡ length w - i
        → carry v (leaf_outcomes p s i (l ++ (b ∷ []))) ≡ grow (leaf p s) b (length w) (carry v (leaf_outcomes p s i l))
    unfolding grow has follow
    extend_leaf p s i v h [] e = let q : i ≡ length w = omega arith in rw (q, eq-eqb p p refl) (go (s b))
      where
        go : (t : Bool) → carry v (when t (Outcome.ends_at (suc (length w)) ∷ [])) ≡ when t (end (suc (length w)) v) ++ []
        go true = refl
        go false = refl
    extend_leaf p s i v h (c ∷ l) e = go (s c)
      where
        go : (t : Bool) → carry v (when t (Outcome.ends_at (suc i) ∷ [])) ≡ grow (leaf p s) b (length w) (carry v (when t (Outcome.ends_at (suc i) ∷ [])))
        go true = refl
        go false = refl

    -- y's list after x took the last byte.
    past : (y : Re) (v : C) → carried mark y (w ++ (b ∷ [])) (suc (length w)) v ≡ start mark y (suc (length w)) v
    past y v = let e : length (w ++ (b ∷ [])) ≡ suc (length w) = omega (arith, length-append w (b ∷ [])) in rw e at (carried_end y (w ++ (b ∷ [])) v)

    module _ (how : Manner) (x : Re) (below : (i : ℕ) (v : C) → i ≤ length w → carried mark x (w ++ (b ∷ [])) i v ≡ grow x b (length w) (carried mark x w i v)) where
      extend_star : (d i : ℕ) (v : C) → length w - i < d → i ≤ length w → carried mark (star how x) (w ++ (b ∷ [])) i v ≡ grow (star how x) b (length w) (carried mark (star how x) w i v)
      extend_star zero i v g h = absurd (omega arith)
      extend_star (suc d) i v g h =
          rw (carried_star how x (w ++ (b ∷ [])) i v, carried_star how x w i v, below i v h, grow_then_leave)
          (ap (λ l. then_leave how l i v)
          (grow_and_then b (length w) x (star how x) (λ k u. after_turn i k u (carried mark (star how x) (w ++ (b ∷ [])) k u)) (λ k u. after_turn i k u (carried mark (star how x) w k u))
          (carried mark x w i v) (carried_all x w i v)
          (λ k u c. after_turn_congr i k u (λ t. extend_star d k u (omega (arith, ltb→lt i k t)) (omega arith)) ∙ sym (grow_after_turn (star how x) b (length w) i k u _))
          (λ p u q.
          replace_congr {g = want} {g' = want} (after mark x b p (suc (length w)) u) (after_all x b p (suc (length w)) u)
          (λ k t e. rw (e, lt-ltb i (suc (length w)) (omega arith)) (past (star how x) t)) (λ p t c. refl)
          ∙ sym (after_star b p (suc (length w)) u how x))))

    -- The extension.
    pub extend : (r : Re) (n : ℕ) → Numbered n r → (i : ℕ) (v : C) → i ≤ length w → carried mark r (w ++ (b ∷ [])) i v ≡ grow r b (length w) (carried mark r w i v)
    unfolding carried grow Numbered
    extend empty n d i v h = refl
    extend (leaf p s) n d i v h = rw (drop-append-le i w (b ∷ []) h) (extend_leaf p s i v h (drop i w) (length-drop i w))
    extend (seq x y) n d i v h =
        rw (extend x n d.0 i v h)
        (grow_and_then b (length w) x (seq x y) (carried mark y (w ++ (b ∷ []))) (carried mark y w) (carried mark x w i v) (carried_all x w i v)
        (λ k u c. extend y (n + count x) d.1 k u (omega arith)
        ∙ grow_congr b (length w) y (seq x y) (carried mark y w k u) (λ p t q. sym (after_seq_right b p (suc (length w)) t x y λ l. apart x y n d.0 d.1 l q)) (carried_all y w k u))
        (λ p u q.
        replace_congr {g = want} {g' = want} (after mark x b p (suc (length w)) u) (after_all x b p (suc (length w)) u) (λ k t e. rw e (past y t)) (λ p t c. refl)
        ∙ sym (after_seq_left b p (suc (length w)) u x y (apart x y n d.0 d.1 q))))
    extend (alt x y) n d i v h =
        rw (replace_append, extend x n d.0 i v h, extend y (n + count x) d.1 i v h)
        (ap₂ ◌++◌
        (grow_congr b (length w) x (alt x y) (carried mark x w i v) (λ p u q. sym (after_alt_left b p (suc (length w)) u x y (apart x y n d.0 d.1 q))) (carried_all x w i v))
        (grow_congr b (length w) y (alt x y) (carried mark y w i v) (λ p u q. sym (after_alt_right b p (suc (length w)) u x y λ l. apart x y n d.0 d.1 l q)) (carried_all y w i v)))
    extend (star how x) n d i v h = extend_star how x (λ j. extend x n d j) (suc (length w)) i v (omega arith) h
    extend (field f x) n d i v h =
        rw (extend x n d i (mark (opened f i) v) h)
        (grow_and_then b (length w) x (field f x) (close mark f) (close mark f) (carried mark x w i (mark (opened f i) v)) (carried_all x w i (mark (opened f i) v))
        (λ k u c. refl) (λ p u q. sym (after_field b p (suc (length w)) u f x)))
