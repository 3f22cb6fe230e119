-- What the requests of paper 02 leave as it was. Request 1: the set of each part's outcomes, and so all that is POSIX; and the whole list of a plain pattern.
-- Request 2: every list. Request 5: the whole list of a pattern without lazy repeats.
-- Assumes nothing.
use mathlib.Core.Path.{◌≡◌, refl, sym, ap, ap₂, ◌∙◌, subst}
use mathlib.Core.Logic.{◌↔◌}
use Prim.Native.Nat.{ℕ, zero, suc, ◌<◌}
use mathlib.Core.Bool.{Bool, true, false}
use mathlib.Core.List.Memᴰ
use mathlib.Core.List.{List, [], ◌∷◌, ◌++◌, Memᴰ as Mem}
use native.Mathlib.Omega.{arith}
use native.Mathlib.Decide.{ℕ_discrete}
use lib.ListN.{length}
use lib.Dec.{T, eqb, eqb_refl, ltb, lt→ltb}
use Rattle.theory.specs.Pattern.{Manner, eager, Re, empty, leaf, seq, alt, star, field, count}
use Rattle.theory.specs.Outcomes.{Outcome, ends_at, wants, want, and_then, when, after_turn, then_leave, star_outcomes, Lists, outcomes}
use Rattle.theory.specs.Base.{base_star, list_by, base, nullable, Plain, bare, turns_first_star, turns_first, Eager}
use Rattle.theory.specs.Matching.{Matches, m_empty, m_leaf, m_seq, m_left, m_right, m_done, m_again, m_field}
use Rattle.theory.specs.Spans.{first_end, greatest_end, leftmost, greedy_by, posix_by, greedy, posix}
use Rattle.theory.specs.Standing.{fronts, wanted, first_is, some_is, member, once, from, filter, set_of, standing_by, standing}
use Rattle.theory.proofs.Tests.{T_true, or_left, or_right, or_cases, and_split, and_join, either}
use Rattle.theory.proofs.Members.{filter_same}
use Rattle.theory.proofs.Outcomes.{AllOut, end, wish, replace_congr, all_map, some_in}
use Rattle.theory.proofs.Turns.{in_then_leave, of_turns, of_leave, in_after_turn, of_after_turn}
use Rattle.theory.proofs.Equations.{outcomes_all}
use Rattle.theory.proofs.Matching.{ends_match, match_ends}
use Rattle.theory.proofs.Sets.{Into, Same, then_found, then_end, then_wish, into_then, same_append, same_then, set_some, set_wanted, set_greatest}

in_when : {A : Type 0} {a : A} {l : List A} (c : Bool) → Mem a (when c l) → T c × Mem a l
in_when true m = (tt, m)
in_when false m = absurd (Memᴰ.not-nil m)

all_ends : {P : ℕ → Type 0} (l : List (Outcome ℕ)) → ((k : ℕ) → T (some_is k l) → P k) → AllOut P (λ p. Unit {0}) l
all_ends [] h = AllOut.none
all_ends (ends_at k ∷ l) h = end (h k (or_left (eqb k k) (some_is k l) (eqb_refl k))) (all_ends l λ j t. h j (or_right (eqb k j) (some_is j l) t))
all_ends (wants p ∷ l) h = wish tt (all_ends l h)

-- A star's outcomes are those of its turns that are not empty, and the end without a turn: what an empty turn leaves adds none.
abbrev goes_on : Manner → (ℕ → List (Outcome ℕ)) → ℕ → ℕ → ℕ → List (Outcome ℕ)
goes_on how g d i k = when (ltb i k) (base_star how g d k)

module _ (how : Manner) {f g : ℕ → List (Outcome ℕ)} where
  star_into : ((i : ℕ) → Into (f i) (g i)) → (d i : ℕ) → Into (star_outcomes how f d i) (base_star how g d i)
  unfolding star_outcomes base_star
  star_into h zero i o t = t
  star_into h (suc d) i o t =
      let leaving : o ≡ ends_at i → Mem o (then_leave how (and_then (g i) (goes_on how g d i)) i) = λ e. of_leave how i (and_then (g i) (goes_on how g d i)) e in
      either
      (λ n. either
      (λ (k, a, b). either
      (λ (c, u). of_turns how i (then_end (goes_on how g d i) (g i) (h i (ends_at k) a) (rw (T_true (ltb i k) c) (star_into h d k o u))))
      leaving
      (in_after_turn i k b))
      (λ (p, a, e). of_turns how i (subst (λ c. Mem c (and_then (g i) (goes_on how g d i))) (sym e) (then_wish (goes_on how g d i) (g i) (h i (wants p) a))))
      (then_found (λ k. after_turn i k (star_outcomes how f d k)) (f i) n))
      leaving
      (in_then_leave how i (and_then (f i) (λ k. after_turn i k (star_outcomes how f d k))) t)

  star_from : ((i : ℕ) → Into (g i) (f i)) → (d i : ℕ) → Into (base_star how g d i) (star_outcomes how f d i)
  unfolding star_outcomes base_star
  star_from h zero i o t = t
  star_from h (suc d) i o t =
      either
      (λ n. of_turns how i (into_then (h i) (λ k c m. let (a, b) = in_when (ltb i k) m in of_after_turn i k a (star_from h d k c b)) o n))
      (λ e. of_leave how i (and_then (f i) (λ k. after_turn i k (star_outcomes how f d k))) e)
      (in_then_leave how i (and_then (g i) (goes_on how g d i)) t)

-- THE SET OF OUTCOMES IS AS IT WAS.
pub base_same : (r : Re) (w : List ℕ) (i : ℕ) → Same (outcomes r w i) (base r w i)
unfolding outcomes list_by
base_same empty w i = (λ o t. t, λ o t. t)
base_same (leaf p s) w i = (λ o t. t, λ o t. t)
base_same (seq x y) w i = same_then (base_same x w i) (base_same y w)
base_same (alt x y) w i = same_append (base_same x w i) (base_same y w i)
base_same (star how x) w i = (star_into how (λ k. (base_same x w k).0) (suc (length w)) i, star_from how (λ k. (base_same x w k).1) (suc (length w)) i)
base_same (field f x) w i = base_same x w i

module _ (r : Re) (w : List ℕ) where
  pub base_some : (i k : ℕ) → some_is k (outcomes r w i) ≡ some_is k (base r w i)
  base_some i k = set_some (base_same r w i) k

  -- THE POSIX SPAN IS AS IT WAS, for every pattern and line,
  pub base_posix : posix r w ≡ posix_by base r w
  unfolding posix
  base_posix = λ t. leftmost (λ i. set_greatest (base_same r w i) t) (suc (length w)) 0

  -- AND SO ARE (c) AND (d) of each standing.
  pub base_sets : ((standing r w).all ≡ (standing_by base r w).all) × ((standing r w).some ≡ (standing_by base r w).some)
  unfolding standing
  base_sets = (filter_same _ _ (from 0 (count r)) (set_wanted (base_same r w 0)), base_some 0 (length w))

-- A part that matches the empty string.
module _ (w : List ℕ) where
  nullable_of : {r : Re} {i j : ℕ} → Matches w r i j → i ≡ j → T (nullable r)
  unfolding nullable
  nullable_of m_empty e = tt
  nullable_of (m_leaf h t) e = omega arith
  nullable_of (m_seq {x = x} {y = y} {i = i} {k = k} {j = j} a b) e =
      let (c, d) = some_in (outcomes_all x w i) k (match_ends w a) in
      let (f, g) = some_in (outcomes_all y w k) j (match_ends w b) in
      and_join (nullable x) (nullable y) (nullable_of a (omega arith)) (nullable_of b (omega arith))
  nullable_of (m_left {x = x} {y = y} a) e = or_left (nullable x) (nullable y) (nullable_of a e)
  nullable_of (m_right {x = x} {y = y} a) e = or_right (nullable x) (nullable y) (nullable_of a e)
  nullable_of m_done e = tt
  nullable_of (m_again h a b) e = tt
  nullable_of (m_field a) e = nullable_of a e

  nullable_matches : (r : Re) (i : ℕ) → T (nullable r) → Matches w r i i
  unfolding nullable
  nullable_matches empty i t = m_empty
  nullable_matches (leaf p s) i t = absurd t
  nullable_matches (seq x y) i t = let (a, b) = and_split (nullable x) (nullable y) t in m_seq (nullable_matches x i a) (nullable_matches y i b)
  nullable_matches (alt x y) i t = either (λ a. m_left (nullable_matches x i a)) (λ b. m_right (nullable_matches y i b)) (or_cases (nullable x) (nullable y) t)
  nullable_matches (star how x) i t = m_done
  nullable_matches (field f x) i t = m_field (nullable_matches x i t)

  pub nullable_right : (r : Re) (i : ℕ) → T (nullable r) ↔ Matches w r i i
  nullable_right r i = (nullable_matches r i, λ m. nullable_of m refl)

  -- Each turn of a part that does not match the empty string goes on.
  goes_on_lem : (x : Re) (i : ℕ) → nullable x ≡ false → AllOut (λ k. i < k) (λ p. Unit {0}) (base x w i)
  goes_on_lem x i e = all_ends (base x w i) λ k t.
      let u : T (some_is k (outcomes x w i)) = subst T (sym (base_some x w i k)) t in
      let (a, b) = some_in (outcomes_all x w i) k u in
      elim (ℕ_discrete i k) [ yes q ↦ absurd (subst T e (nullable_of (ends_match w x i k u) q)) | no q ↦ omega arith ]

  star_plain : (how : Manner) (f : ℕ → List (Outcome ℕ)) → ((i : ℕ) → AllOut (λ k. i < k) (λ p. Unit {0}) (f i)) → (d i : ℕ) → star_outcomes how f d i ≡ base_star how f d i
  unfolding star_outcomes base_star
  star_plain how f h zero i = refl
  star_plain how f h (suc d) i =
      ap (λ l. then_leave how l i)
      (replace_congr {f = λ k. after_turn i k (star_outcomes how f d k)} {f' = λ k. when (ltb i k) (base_star how f d k)} {g = want} {g' = want} {l = f i} (all_map (λ k c. rw (T_true (ltb i k) (lt→ltb i k c)) (star_plain how f h d k)) (λ p c. refl) (h i)))

  -- THE LIST OF A PLAIN PATTERN IS AS IT WAS.
  pub plain_base : (r : Re) → Plain r → (i : ℕ) → outcomes r w i ≡ base r w i
  unfolding outcomes list_by Plain
  plain_base empty p i = refl
  plain_base (leaf q s) p i = refl
  plain_base (seq x y) p i = λ t. and_then (plain_base x p.0 i t) (λ k. plain_base y p.1 k t)
  plain_base (alt x y) p i = ap₂ ◌++◌ (plain_base x p.0 i) (plain_base y p.1 i)
  plain_base (star how x) p i = (λ t. star_outcomes how (λ k. plain_base x p.1 k t) (suc (length w)) i) ∙ star_plain how (base x w) (λ k. goes_on_lem x k p.0) (suc (length w)) i
  plain_base (field f x) p i = plain_base x p i

-- Where a pattern's lists are those of l, so are its spans and its standings.
module _ (l : Lists) (r : Re) (same : (w : List ℕ) (i : ℕ) → outcomes r w i ≡ l r w i) (w : List ℕ) where
  list_greedy : greedy r w ≡ greedy_by l r w
  unfolding greedy
  list_greedy = λ t. leftmost (λ i. first_end (same w i t)) (suc (length w)) 0

  list_posix : posix r w ≡ posix_by l r w
  unfolding posix
  list_posix = λ t. leftmost (λ i. greatest_end (same w i t)) (suc (length w)) 0

  list_standing : standing r w ≡ standing_by l r w
  unfolding standing
  list_standing =
      let e = same w 0 in
      λ t. record { order = once (fronts (e t)); first = first_is (length w) (e t); all = set_of r (wanted (e t)); some = some_is (length w) (e t) }

module _ (r : Re) (p : Plain r) where
  -- THE GREEDY SPAN OF A PLAIN PATTERN IS AS IT WAS,
  pub plain_greedy : (w : List ℕ) → greedy r w ≡ greedy_by base r w
  plain_greedy = list_greedy base r (λ w. plain_base w r p)

  -- AND SO ARE ALL ITS STANDINGS.
  pub plain_standing : (w : List ℕ) → standing r w ≡ standing_by base r w
  plain_standing = list_standing base r (λ w. plain_base w r p)

eager_star : (f : ℕ → List (Outcome ℕ)) (d i : ℕ) → star_outcomes eager f d i ≡ turns_first_star f d i
unfolding star_outcomes turns_first_star then_leave
eager_star f zero i = refl
eager_star f (suc d) i = λ t. and_then (f i) (λ k. after_turn i k (eager_star f d k t)) ++ (ends_at i ∷ [])

-- THE LIST OF A PATTERN WITHOUT LAZY REPEATS IS AS IT WAS,
pub eager_list : (r : Re) → Eager r → (w : List ℕ) (i : ℕ) → outcomes r w i ≡ turns_first r w i
unfolding outcomes list_by Eager
eager_list empty e w i = refl
eager_list (leaf q s) e w i = refl
eager_list (seq x y) e w i = λ t. and_then (eager_list x e.0 w i t) (λ k. eager_list y e.1 w k t)
eager_list (alt x y) e w i = ap₂ ◌++◌ (eager_list x e.0 w i) (eager_list y e.1 w i)
eager_list (star how x) e w i = (λ t. star_outcomes (e.0 t) (λ k. eager_list x e.1 w k t) (suc (length w)) i) ∙ eager_star (turns_first x w) (suc (length w)) i
eager_list (field f x) e w i = eager_list x e w i

module _ (r : Re) (e : Eager r) where
  -- AND SO ARE BOTH ITS SPANS
  pub eager_greedy : (w : List ℕ) → greedy r w ≡ greedy_by turns_first r w
  eager_greedy = list_greedy turns_first r (eager_list r e)

  pub eager_posix : (w : List ℕ) → posix r w ≡ posix_by turns_first r w
  eager_posix = list_posix turns_first r (eager_list r e)

  -- AND ALL ITS STANDINGS.
  pub eager_standing : (w : List ℕ) → standing r w ≡ standing_by turns_first r w
  eager_standing = list_standing turns_first r (eager_list r e)

-- Brackets change no list.
bare_outcomes : (r : Re) (w : List ℕ) (i : ℕ) → outcomes r w i ≡ outcomes (bare r) w i
unfolding outcomes bare
bare_outcomes empty w i = refl
bare_outcomes (leaf p s) w i = refl
bare_outcomes (seq x y) w i = λ t. and_then (bare_outcomes x w i t) (λ k. bare_outcomes y w k t)
bare_outcomes (alt x y) w i = ap₂ ◌++◌ (bare_outcomes x w i) (bare_outcomes y w i)
bare_outcomes (star how x) w i = λ t. star_outcomes how (λ k. bare_outcomes x w k t) (suc (length w)) i
bare_outcomes (field f x) w i = bare_outcomes x w i

bare_count : (r : Re) → count r ≡ count (bare r)
unfolding count bare
bare_count empty = refl
bare_count (leaf p s) = refl
bare_count (seq x y) = rw (bare_count x, bare_count y)
bare_count (alt x y) = rw (bare_count x, bare_count y)
bare_count (star how x) = bare_count x
bare_count (field f x) = bare_count x

module _ (r : Re) (w : List ℕ) where
  -- BOTH SPANS ARE AS WITHOUT BRACKETS,
  pub bare_greedy : greedy r w ≡ greedy (bare r) w
  unfolding greedy
  bare_greedy = λ t. leftmost (λ i. first_end (bare_outcomes r w i t)) (suc (length w)) 0

  pub bare_posix : posix r w ≡ posix (bare r) w
  unfolding posix
  bare_posix = λ t. leftmost (λ i. greatest_end (bare_outcomes r w i t)) (suc (length w)) 0

  -- AND SO IS EVERY STANDING.
  pub bare_standing : standing r w ≡ standing (bare r) w
  unfolding standing
  bare_standing =
      let e = bare_outcomes r w 0 in
      λ t. record {
        order = once (fronts (e t));
        first = first_is (length w) (e t);
        all = filter (λ p. member p (wanted (e t))) (from 0 (bare_count r t));
        some = some_is (length w) (e t);
      }
