-- The core: the list of a line that grew by a byte is the old list, with each `wants p` replaced by what follows p, if the byte is in p's set.
-- Assumes nothing.
use mathlib.Core.Path.{◌≡◌, refl, sym, ap, ap₂, ◌∙◌}
use Prim.Native.Nat.{ℕ, zero, suc, ◌+◌, ◌-◌, ◌≤◌, ◌<◌}
use mathlib.Core.Bool.{Bool, true, false, ◌||◌}
use mathlib.Core.List.{List, [], ◌∷◌, ◌++◌, append-nil}
use native.Mathlib.Omega.{arith}
use lib.ListN.{length, drop, length-drop, length-append}
use lib.Seq.{drop-append-le, drop-length}
use lib.Dec.{ltb, ltb→lt, lt→ltb, eqb, eqb_refl, eqb→eq}
use Rattle.theory.specs.Pattern.{Manner, Re, empty, leaf, seq, alt, star, field, has, count, Numbered}
use Rattle.theory.specs.Outcomes.{Outcome, ends_at, wants, replace, want, and_then, when, empty_turn, after_turn, then_leave, leaf_outcomes, outcomes}
use Rattle.theory.specs.Code.Follow.{Next, start, follow, after}
use Rattle.theory.proofs.Outcomes.{AllOut, replace_append, replace_congr, replace_replace, all_map}
use Rattle.theory.proofs.Equations.{Leaf, seq_left, seq_right, alt_left, alt_right, under, inside, outcomes_all, outcomes_star}
use Rattle.theory.proofs.Turns.{replace_empty_turn, replace_then_leave, after_turn_congr, replace_after_turn}
use Rattle.theory.proofs.Tests.{T_true, not_true}

-- A list that depends on no line, read at the place n.
abbrev pub place : ℕ → List Next → List (Outcome ℕ)
place n l = and_then l (λ _. ends_at n ∷ [])

-- A part without the leaf p.
pub has_none : (r : Re) (p b : ℕ) → (Leaf r p → ⊥) → has r p b ≡ false
unfolding has
has_none empty p b h = refl
has_none (leaf q s) p b h = rw (not_true (eqb p q) λ t. h (rw (eqb→eq p q t) Leaf.here))
has_none (seq x y) p b h = rw (has_none x p b (λ l. h (seq_left l)), has_none y p b (λ l. h (seq_right l)))
has_none (alt x y) p b h = rw (has_none x p b (λ l. h (alt_left l)), has_none y p b (λ l. h (alt_right l)))
has_none (star how x) p b h = has_none x p b (λ l. h (under l))
has_none (field f x) p b h = has_none x p b (λ l. h (inside l))

pub follow_none : (r : Re) (p : ℕ) → (Leaf r p → ⊥) → follow r p ≡ []
unfolding follow
follow_none empty p h = refl
follow_none (leaf q s) p h = rw (not_true (eqb p q) λ t. h (rw (eqb→eq p q t) Leaf.here))
follow_none (seq x y) p h = rw (follow_none x p (λ l. h (seq_left l)), follow_none y p (λ l. h (seq_right l)))
follow_none (alt x y) p h = rw (follow_none x p (λ l. h (alt_left l)), follow_none y p (λ l. h (alt_right l)))
follow_none (star how x) p h = rw (follow_none x p (λ l. h (under l)))
follow_none (field f x) p h = follow_none x p (λ l. h (inside l))

-- To read a list at the place n and go on from there is to go on from n.
module _ (n : ℕ) where
  and_then_place : (l : List Next) (f : ℕ → List (Outcome ℕ)) → and_then (place n l) f ≡ and_then l (λ _. f n)
  and_then_place [] f = refl
  and_then_place (ends_at u ∷ l) f = rw (and_then_place l f)
  and_then_place (wants p ∷ l) f = rw (and_then_place l f)

  place_and_then : (l : List Next) (f : Unit {0} → List Next) → place n (and_then l f) ≡ and_then l (λ u. place n (f u))
  place_and_then l f = replace_replace f want (λ _. ends_at n ∷ []) want l

ltb_self : (n : ℕ) → ltb n n ≡ false
ltb_self n = not_true (ltb n n) λ t. omega (arith, ltb→lt n n t)

-- `outcomes` at the line's end.
pub outcomes_end : (r : Re) (w : List ℕ) → outcomes r w (length w) ≡ place (length w) (start r)
unfolding outcomes start
outcomes_end empty w = refl
outcomes_end (leaf p s) w = rw (drop-length w)
outcomes_end (seq x y) w = rw (outcomes_end x w, and_then_place, place_and_then) (ap (λ l. and_then (start x) (λ _. l)) (outcomes_end y w))
outcomes_end (alt x y) w = rw (outcomes_end x w, outcomes_end y w, replace_append)
outcomes_end (star how x) w =
    outcomes_star w (length w) how x
    ∙ rw (outcomes_end x w, and_then_place, ltb_self)
    (ap (λ l. then_leave how l (length w)) (ap (λ l. and_then (start x) (λ _. l)) (sym (replace_empty_turn (λ _. length w) want tt)) ∙ sym (place_and_then (length w) (start x) empty_turn))
    ∙ sym (replace_then_leave (λ _. length w) want how (and_then (start x) empty_turn) tt))
outcomes_end (field f x) w = outcomes_end x w

-- What follows a leaf in a part is what follows it in the one below that has the leaf.
module _ (b p : ℕ) (x y : Re) where
  after_seq_left : (Leaf y p → ⊥) → after (seq x y) b p ≡ and_then (after x b p) (λ _. start y)
  unfolding has follow
  after_seq_left h = rw (has_none y p b h, follow_none y p h, append-nil) (go (has x p b))
    where
      go : (c : Bool) → when (c || false) (and_then (follow x p) (λ _. start y)) ≡ and_then (when c (follow x p)) (λ _. start y)
      go true = refl
      go false = refl

  after_seq_right : (Leaf x p → ⊥) → after (seq x y) b p ≡ after y b p
  unfolding has follow
  after_seq_right h = rw (has_none x p b h, follow_none x p h)

  after_alt_left : (Leaf y p → ⊥) → after (alt x y) b p ≡ after x b p
  unfolding has follow
  after_alt_left h = rw (has_none y p b h, follow_none y p h, append-nil) (go (has x p b))
    where
      go : (c : Bool) → when (c || false) (follow x p) ≡ when c (follow x p)
      go true = refl
      go false = refl

  after_alt_right : (Leaf x p → ⊥) → after (alt x y) b p ≡ after y b p
  unfolding has follow
  after_alt_right h = rw (has_none x p b h, follow_none x p h)

after_star : (b p : ℕ) (how : Manner) (x : Re) → after (star how x) b p ≡ and_then (after x b p) (λ _. start (star how x))
unfolding has follow
after_star b p how x = go (has x p b)
  where
    go : (c : Bool) → when c (and_then (follow x p) (λ _. start (star how x))) ≡ and_then (when c (follow x p)) (λ _. start (star how x))
    go true = refl
    go false = refl

after_field : (b p f : ℕ) (x : Re) → after (field f x) b p ≡ after x b p
unfolding has follow
after_field b p f x = refl

-- The leaves of a part numbered from n are those from n on, as many as it has.
pub leaf_range : {r : Re} {p : ℕ} (n : ℕ) → Numbered n r → Leaf r p → (n ≤ p) × (p < n + count r)
unfolding Numbered count
leaf_range n h Leaf.here = omega arith
leaf_range n h (seq_left {x = x} {y = y} l) = let c = leaf_range n h.0 l in omega arith
leaf_range n h (seq_right {x = x} {y = y} l) = let c = leaf_range (n + count x) h.1 l in omega arith
leaf_range n h (alt_left {x = x} {y = y} l) = let c = leaf_range n h.0 l in omega arith
leaf_range n h (alt_right {x = x} {y = y} l) = let c = leaf_range (n + count x) h.1 l in omega arith
leaf_range n h (under l) = leaf_range n h l
leaf_range n h (inside l) = leaf_range n h l

-- No leaf has a number from the count on.
pub has_beyond : (r : Re) → Numbered 0 r → (p b : ℕ) → ¬ (p < count r) → has r p b ≡ false
has_beyond r d p b h = has_none r p b λ l. h (let c = leaf_range 0 d l in omega arith)

apart : {x y : Re} {p : ℕ} (n : ℕ) → Numbered n x → Numbered (n + count x) y → Leaf x p → Leaf y p → ⊥
apart {x} {y} n hx hy l m = let c = leaf_range n hx l in let d = leaf_range (n + count x) hy m in omega arith

-- The list of a line of length n that grew by b.
unfoldable pub grow : Re → ℕ → ℕ → List (Outcome ℕ) → List (Outcome ℕ)
grow r b n l = replace (λ k. ends_at k ∷ []) (λ p. place (suc n) (after r b p)) l

-- It looks only at what follows the leaves that are wanted.
pub grow_congr : (b n : ℕ) (x y : Re) {P : ℕ → Type 0} {Q : ℕ → Type 0} {l : List (Outcome ℕ)}
    → ((p : ℕ) → Q p → after x b p ≡ after y b p) → AllOut P Q l → grow x b n l ≡ grow y b n l
unfolding grow
grow_congr b n x y e h = replace_congr {f = λ k. ends_at k ∷ []} {f' = λ k. ends_at k ∷ []} (all_map (λ k _. refl) (λ p q. ap (place (suc n)) (e p q)) h)

grow_after_turn : (r : Re) (b n i k : ℕ) (l : List (Outcome ℕ)) → grow r b n (after_turn i k l) ≡ after_turn i k (grow r b n l)
unfolding grow
grow_after_turn r b n i k l = replace_after_turn (λ j. j) (λ p. place (suc n) (after r b p)) i k l refl

grow_then_leave : (r : Re) (b n i : ℕ) (how : Manner) (l : List (Outcome ℕ)) → grow r b n (then_leave how l i) ≡ then_leave how (grow r b n l) i
unfolding grow
grow_then_leave r b n i how l = replace_then_leave (λ j. j) (λ p. place (suc n) (after r b p)) how l i

-- A part r that takes x first and goes on by G, and by F once the line has grown.
grow_and_then : (b n : ℕ) (x r : Re) {P : ℕ → Type 0} (F G : ℕ → List (Outcome ℕ)) {l : List (Outcome ℕ)} → AllOut P (Leaf x) l
    → ((k : ℕ) → P k → F k ≡ grow r b n (G k))
    → ((p : ℕ) → Leaf x p → and_then (after x b p) (λ _. F (suc n)) ≡ place (suc n) (after r b p))
    → and_then (grow x b n l) F ≡ grow r b n (and_then l G)
unfolding grow
grow_and_then b n x r F G {l = l} h ends wishes =
    replace_replace (λ k. ends_at k ∷ []) (λ p. place (suc n) (after x b p)) F want l
    ∙ replace_congr (all_map (λ k c. append-nil (F k) ∙ ends k c) (λ p c. and_then_place (suc n) (after x b p) F ∙ wishes p c ∙ sym (append-nil _)) h)
    ∙ sym (replace_replace G want (λ k. ends_at k ∷ []) (λ p. place (suc n) (after r b p)) l)

module _ (w : List ℕ) (b : ℕ) where
  extend_leaf : (p : ℕ) (s : ℕ → Bool) (i : ℕ) → i ≤ length w → (l : List ℕ) → length l ≡ length w - i
      → leaf_outcomes p s i (l ++ (b ∷ [])) ≡ grow (leaf p s) b (length w) (leaf_outcomes p s i l)
  unfolding grow has follow
  extend_leaf p s i h [] e = let q : i ≡ length w = omega arith in rw (q, T_true (eqb p p) (eqb_refl p)) (go (s b))
    where
      go : (t : Bool) → when t (ends_at (suc (length w)) ∷ []) ≡ place (suc (length w)) (when t (ends_at tt ∷ [])) ++ []
      go true = refl
      go false = refl
  extend_leaf p s i h (c ∷ l) e = go (s c)
    where
      go : (t : Bool) → when t (ends_at (suc i) ∷ []) ≡ grow (leaf p s) b (length w) (when t (ends_at (suc i) ∷ []))
      go true = refl
      go false = refl

  outcomes_past : (r : Re) → outcomes r (w ++ (b ∷ [])) (suc (length w)) ≡ place (suc (length w)) (start r)
  outcomes_past r = let e : length (w ++ (b ∷ [])) ≡ suc (length w) = omega (arith, length-append w (b ∷ [])) in rw e at (outcomes_end r (w ++ (b ∷ [])))

  -- y's list after x took the last byte.
  outcomes_after_lem : (x y : Re) (p : ℕ) → and_then (after x b p) (λ _. outcomes y (w ++ (b ∷ [])) (suc (length w))) ≡ place (suc (length w)) (and_then (after x b p) (λ _. start y))
  outcomes_after_lem x y p = rw (outcomes_past, place_and_then)

  module _ (how : Manner) (x : Re) (below : (i : ℕ) → i ≤ length w → outcomes x (w ++ (b ∷ [])) i ≡ grow x b (length w) (outcomes x w i)) where
    extend_star : (d i : ℕ) → length w - i < d → i ≤ length w → outcomes (star how x) (w ++ (b ∷ [])) i ≡ grow (star how x) b (length w) (outcomes (star how x) w i)
    extend_star zero i g h = absurd (omega arith)
    extend_star (suc d) i g h =
        rw (outcomes_star (w ++ (b ∷ [])) i how x, outcomes_star w i how x, below i h, grow_then_leave)
        (ap (λ l. then_leave how l i)
        (grow_and_then b (length w) x (star how x) (λ k. after_turn i k (outcomes (star how x) (w ++ (b ∷ [])) k)) (λ k. after_turn i k (outcomes (star how x) w k)) (outcomes_all x w i)
        (λ k c. after_turn_congr i k (λ t. extend_star d k (omega (arith, ltb→lt i k t)) (omega arith)) ∙ sym (grow_after_turn (star how x) b (length w) i k _))
        (λ p q. rw (T_true (ltb i (suc (length w))) (lt→ltb i (suc (length w)) (omega arith))) (outcomes_after_lem x (star how x) p ∙ ap (place (suc (length w))) (sym (after_star b p how x))))))

  pub extend : (r : Re) (n : ℕ) → Numbered n r → (i : ℕ) → i ≤ length w → outcomes r (w ++ (b ∷ [])) i ≡ grow r b (length w) (outcomes r w i)
  unfolding outcomes grow Numbered
  extend empty n d i h = refl
  extend (leaf p s) n d i h = rw (drop-append-le i w (b ∷ []) h) (extend_leaf p s i h (drop i w) (length-drop i w))
  extend (seq x y) n d i h =
      rw (extend x n d.0 i h)
      (grow_and_then b (length w) x (seq x y) (λ k. outcomes y (w ++ (b ∷ [])) k) (λ k. outcomes y w k) (outcomes_all x w i)
      (λ k c. extend y (n + count x) d.1 k (omega arith)
      ∙ grow_congr b (length w) y (seq x y) (λ p q. sym (after_seq_right b p x y λ l. apart n d.0 d.1 l q)) (outcomes_all y w k))
      (λ p q. outcomes_after_lem x y p ∙ ap (place (suc (length w))) (sym (after_seq_left b p x y (apart n d.0 d.1 q)))))
  extend (alt x y) n d i h =
      rw (replace_append, extend x n d.0 i h, extend y (n + count x) d.1 i h)
      (ap₂ ◌++◌
      (grow_congr b (length w) x (alt x y) (λ p q. sym (after_alt_left b p x y (apart n d.0 d.1 q))) (outcomes_all x w i))
      (grow_congr b (length w) y (alt x y) (λ p q. sym (after_alt_right b p x y λ l. apart n d.0 d.1 l q)) (outcomes_all y w i)))
  extend (star how x) n d i h = extend_star how x (λ j. extend x n d j) (suc (length w)) i (omega arith) h
  extend (field f x) n d i h = extend x n d i h ∙ grow_congr b (length w) x (field f x) (λ p q. sym (after_field b p f x)) (outcomes_all x w i)
