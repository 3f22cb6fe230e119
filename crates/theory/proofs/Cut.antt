-- A witness is cut differently, and a line that is cut differently holds a witness.
-- Assumes nothing.
use mathlib.Core.Path.{◌≡◌, refl, sym, ap, ◌∙◌, subst}
use mathlib.Core.Logic.{◌≢◌}
use Prim.Native.Nat.{ℕ, zero, suc, ◌+◌, ◌-◌, ◌≤◌, ◌<◌, max}
use mathlib.Core.Bool.{Bool, true, false, not, ◌||◌}
use mathlib.Core.List.{List, [], ◌∷◌, ◌++◌, append-nil, append_assoc}
use mathlib.Core.Option.{Option, none, some, map, some-ne-none, discrete}
use native.Mathlib.Omega.{arith}
use native.Mathlib.Nat.{add-zero, add-suc}
use native.Mathlib.Decide.{dec_le, ℕ_discrete}
use lib.ListN.{length, take, drop, length-append, take-append-drop}
use lib.Seq.{drop-append-add, length-take-le}
use lib.Dec.{T, eqb, eqb→eq, eqb_refl, ltb, ltb→lt, lt→ltb, leb, leb→le, le→leb, T_not, not_T}
use Rattle.theory.specs.Pattern.{Manner, Re, empty, leaf, seq, alt, star, field, Numbered}
use Rattle.theory.specs.Outcomes.{Outcome, ends_at, wants, replace, want, and_then, when, after_turn, then_leave, leaf_outcomes, outcomes}
use Rattle.theory.specs.Code.Follow.{Next, after}
use Rattle.theory.specs.Standing.{first_is, some_is, standing, is_witness}
use Rattle.theory.specs.Spans.{first_end, greatest_end, larger, span, span_or, leftmost, greedy, posix, CutDifferently}
use Rattle.theory.proofs.Outcomes.{ends, AllOut, end, wish, replace_append, all_map, some_in}
use Rattle.theory.proofs.Equations.{outcomes_all, outcomes_star}
use Rattle.theory.proofs.Turns.{replace_then_leave, after_turn_congr, replace_after_turn}
use Rattle.theory.proofs.Extend.{place, grow, extend}
use Rattle.theory.specs.Code.Members.{any}
use Rattle.theory.proofs.Tests.{T_true, not_true, same_test, or_left, or_right, and_split, and_join}

span_end : {i k m : ℕ} → span i k ≡ span i m → k ≡ m
span_end e = cc

-- Shifting: a line with u in front has the list of the line, moved by u's length.
abbrev pub shift : ℕ → List (Outcome ℕ) → List (Outcome ℕ)
shift c l = replace (λ k. ends_at (c + k) ∷ []) want l

shift_and_then : (c : ℕ) (F G : ℕ → List (Outcome ℕ)) {P Q : ℕ → Type 0} {l : List (Outcome ℕ)}
    → ((k : ℕ) → P k → F (c + k) ≡ shift c (G k)) → AllOut P Q l → and_then (shift c l) F ≡ shift c (and_then l G)
shift_and_then c F G e AllOut.none = refl
shift_and_then c F G e (end {k = k} {l = l} h t) = rw (e k h, shift_and_then c F G e t) (sym (replace_append (λ j. ends_at (c + j) ∷ []) want (G k) (and_then l G)))
shift_and_then c F G e (wish h t) = rw (shift_and_then c F G e t)

shift_when : (c : ℕ) (t : Bool) (l : List (Outcome ℕ)) → shift c (when t l) ≡ when t (shift c l)
shift_when c true l = refl
shift_when c false l = refl

shift_test : (c i k : ℕ) → ltb (c + i) (c + k) ≡ ltb i k
shift_test c i k = same_test (ltb (c + i) (c + k)) (ltb i k) (λ t. lt→ltb i k (omega (arith, ltb→lt (c + i) (c + k) t))) (λ t. lt→ltb (c + i) (c + k) (omega (arith, ltb→lt i k t)))

module _ (u w : List ℕ) where
  module _ (how : Manner) (x : Re) (below : (i : ℕ) → outcomes x (u ++ w) (length u + i) ≡ shift (length u) (outcomes x w i)) where
    shift_star : (d i : ℕ) → length w - i < d → outcomes (star how x) (u ++ w) (length u + i) ≡ shift (length u) (outcomes (star how x) w i)
    shift_star zero i g = absurd (omega arith)
    shift_star (suc d) i g =
        rw (outcomes_star (u ++ w) (length u + i) how x, outcomes_star w i how x, below i, replace_then_leave (λ k. length u + k) want)
        (ap (λ l. then_leave how l (length u + i))
        (shift_and_then (length u) (λ k. after_turn (length u + i) k (outcomes (star how x) (u ++ w) k)) (λ k. after_turn i k (outcomes (star how x) w k))
        (λ k b. after_turn_congr (length u + i) (length u + k) (λ t. shift_star d k (omega (arith, ltb→lt (length u + i) (length u + k) t)))
        ∙ sym (replace_after_turn (λ j. length u + j) want i k (outcomes (star how x) w k) (shift_test (length u) i k)))
        (outcomes_all x w i)))

  outcomes_shift : (r : Re) (i : ℕ) → outcomes r (u ++ w) (length u + i) ≡ shift (length u) (outcomes r w i)
  unfolding outcomes
  outcomes_shift empty i = refl
  outcomes_shift (leaf p s) i = rw (drop-append-add u w i) (go (drop i w))
    where
      go : (l : List ℕ) → leaf_outcomes p s (length u + i) l ≡ shift (length u) (leaf_outcomes p s i l)
      go [] = refl
      go (b ∷ l) = rw (shift_when, add-suc)
  outcomes_shift (seq x y) i = rw (outcomes_shift x i) (shift_and_then (length u) (λ k. outcomes y (u ++ w) k) (λ k. outcomes y w k) (λ k b. outcomes_shift y k) (outcomes_all x w i))
  outcomes_shift (alt x y) i = rw (outcomes_shift x i, outcomes_shift y i, replace_append)
  outcomes_shift (star how x) i = shift_star how x (λ j. outcomes_shift x j) (suc (length w)) i (omega arith)
  outcomes_shift (field f x) i = outcomes_shift x i

-- The ends of a list that are not above n.
abbrev keep : ℕ → List (Outcome ℕ) → List ℕ
keep n [] = []
keep n (ends_at k ∷ l) = when (leb k n) (k ∷ []) ++ keep n l
keep n (wants p ∷ l) = keep n l

keep_all : (n : ℕ) {Q : ℕ → Type 0} {l : List (Outcome ℕ)} → AllOut (λ k. k ≤ n) Q l → keep n l ≡ ends l
keep_all n AllOut.none = refl
keep_all n (end {k = k} h t) = rw (T_true (leb k n) (le→leb k n h), keep_all n t)
keep_all n (wish h t) = keep_all n t

keep_append : (n : ℕ) (l m : List (Outcome ℕ)) → keep n (l ++ m) ≡ keep n l ++ keep n m
keep_append n [] m = refl
keep_append n (ends_at k ∷ l) m = rw (keep_append n l m, append_assoc)
keep_append n (wants p ∷ l) m = keep_append n l m

keep_place : (n m : ℕ) (l : List Next) → n < m → keep n (place m l) ≡ []
keep_place n m [] h = refl
keep_place n m (ends_at u ∷ l) h = rw (not_true (leb m n) (λ t. omega (arith, leb→le m n t)), keep_place n m l h)
keep_place n m (wants p ∷ l) h = keep_place n m l h

-- The ends of a line stay as it grows: only later ones come, though anywhere in the list.
keep_grow : (r : Re) (b n m : ℕ) (l : List (Outcome ℕ)) → n ≤ m → keep n (grow r b m l) ≡ keep n l
unfolding grow
keep_grow r b n m [] h = refl
keep_grow r b n m (ends_at k ∷ l) h = rw (keep_grow r b n m l h)
keep_grow r b n m (wants p ∷ l) h =
    let later : n < suc m = omega arith in
    rw (keep_append n (place (suc m) (after r b p)), keep_place n (suc m) (after r b p) later) (keep_grow r b n m l h)

keep_extend : (r : Re) → Numbered 0 r → (n : ℕ) (v t : List ℕ) → n ≤ length v → keep n (outcomes r (v ++ t) 0) ≡ keep n (outcomes r v 0)
keep_extend r d n v [] h = rw append-nil
keep_extend r d n v (b ∷ t) h =
    let size : n ≤ length (v ++ (b ∷ [])) = omega (arith, length-append v (b ∷ [])) in
    ap (λ c. keep n (outcomes r c 0)) (sym (append_assoc v (b ∷ []) t))
    ∙ keep_extend r d n (v ++ (b ∷ [])) t size
    ∙ rw (extend v b r 0 d 0 (omega arith)) (keep_grow r b n (length v) (outcomes r v 0) h)

-- What is read off the ends alone.
abbrev head_of : List ℕ → Option ℕ
head_of [] = none
head_of (k ∷ l) = some k

abbrev is_at : ℕ → Option ℕ → Bool
is_at n none = false
is_at n (some k) = eqb k n

at_some : (n : ℕ) (o : Option ℕ) → T (is_at n o) → o ≡ some n
at_some n none t = absurd t
at_some n (some k) t = ap some (eqb→eq k n t)

first_ends : (l : List (Outcome ℕ)) → first_end l ≡ head_of (ends l)
first_ends [] = refl
first_ends (ends_at k ∷ l) = refl
first_ends (wants p ∷ l) = first_ends l

first_is_lem : (n : ℕ) (l : List (Outcome ℕ)) → first_is n l ≡ is_at n (first_end l)
first_is_lem n [] = refl
first_is_lem n (ends_at k ∷ l) = refl
first_is_lem n (wants p ∷ l) = first_is_lem n l

some_ends : (n : ℕ) (l : List (Outcome ℕ)) → some_is n l ≡ any (λ k. eqb k n) (ends l)
some_ends n [] = refl
some_ends n (ends_at k ∷ l) = rw (some_ends n l)
some_ends n (wants p ∷ l) = some_ends n l

-- What the greatest end is.
abbrev pub Greatest : Option ℕ → List (Outcome ℕ) → Type 0
Greatest none l = AllOut (λ _. ⊥) (λ _. Unit {0}) l
Greatest (some m) l = AllOut (λ k. k ≤ m) (λ _. Unit {0}) l × T (some_is m l)

pub greatest : (l : List (Outcome ℕ)) → Greatest (greatest_end l) l
greatest [] = AllOut.none
greatest (wants p ∷ l) = go (greatest_end l) (greatest l)
  where
    go : (o : Option ℕ) → Greatest o l → Greatest o (wants p ∷ l)
    go none h = wish tt h
    go (some m) h = (wish tt h.0, h.1)
greatest (ends_at k ∷ l) = go (greatest_end l) (greatest l)
  where
    go : (o : Option ℕ) → Greatest o l → Greatest (some (larger k o)) (ends_at k ∷ l)
    go none h = (end {k = k} (omega arith) (all_map (λ j c. absurd c) (λ p c. c) h), or_left (eqb k k) (some_is k l) (eqb_refl k))
    go (some m) h = (
      end {k = k} (omega arith) (all_map (λ j c. omega arith) (λ p c. c) h.0),
      elim (dec_le k m) [
        | yes c ↦ let e : m ≡ max k m = omega arith in subst (λ n. T (eqb k n || some_is n l)) e (or_right (eqb k m) (some_is m l) h.1)
        | no c ↦ let e : k ≡ max k m = omega arith in subst (λ n. T (eqb k n || some_is n l)) e (or_left (eqb k k) (some_is k l) (eqb_refl k))
      ],
    )

-- The greatest end is n if n is an end and none is above.
pub greatest_is : (n : ℕ) {Q : ℕ → Type 0} {l : List (Outcome ℕ)} → AllOut (λ k. k ≤ n) Q l → T (some_is n l) → greatest_end l ≡ some n
greatest_is n {l = l} h t = go (greatest_end l) (greatest l)
  where
    go : (o : Option ℕ) → Greatest o l → o ≡ some n
    go none g = absurd (some_in g n t)
    go (some m) g = ap some (let a = some_in h m g.1 in let b = some_in g.0 n t in omega arith)

-- Lists with the same set of ends have the same greatest end.
pub greatest_same : (l m : List (Outcome ℕ)) → ((k : ℕ) → T (some_is k l) → T (some_is k m)) → ((k : ℕ) → T (some_is k m) → T (some_is k l)) → greatest_end l ≡ greatest_end m
greatest_same l m f g = go (greatest_end l) (greatest_end m) (greatest l) (greatest m)
  where
    go : (o q : Option ℕ) → Greatest o l → Greatest q m → o ≡ q
    go none none a b = refl
    go none (some k) a b = absurd (some_in a k (g k b.1))
    go (some j) none a b = absurd (some_in b j (f j a.1))
    go (some j) (some k) a b = ap some (let c = some_in a.0 k (g k b.1) in let d = some_in b.0 j (f j a.1) in omega arith)

no_first : (l : List (Outcome ℕ)) → first_end l ≡ none → (k : ℕ) → T (some_is k l) → ⊥
no_first [] e k t = t
no_first (ends_at j ∷ l) e k t = some-ne-none j e
no_first (wants p ∷ l) e k t = no_first l e k t

no_greatest : {l : List (Outcome ℕ)} → AllOut (λ _. ⊥) (λ _. Unit {0}) l → first_end l ≡ none
no_greatest AllOut.none = refl
no_greatest (end h t) = absurd h
no_greatest (wish h t) = no_greatest t

-- A WITNESS IS CUT DIFFERENTLY.
pub witness_cut : (r : Re) (w : List ℕ) → T (is_witness (standing r w)) → CutDifferently r w
unfolding standing greedy posix
witness_cut r w t e =
    let l = outcomes r w 0 in
    let c = and_split (some_is (length w) l) (not (first_is (length w) l)) t in
    let inside = all_map {P' = λ k. k ≤ length w} {Q' = λ _. Unit {0}} (λ k b. omega arith) (λ p b. tt) (outcomes_all r w 0) in
    go (first_end l) refl (greatest_end l) (greatest_is (length w) inside c.0) c.0 c.1 e
  where
    go : (f : Option ℕ) → first_end (outcomes r w 0) ≡ f → (g : Option ℕ) → g ≡ some (length w) → T (some_is (length w) (outcomes r w 0)) → T (not (first_is (length w) (outcomes r w 0)))
        → span_or 0 f (leftmost (λ i. first_end (outcomes r w i)) (length w) 1) ≡ span_or 0 g (leftmost (λ i. greatest_end (outcomes r w i)) (length w) 1) → ⊥
    go none a g b s n e = no_first (outcomes r w 0) a (length w) s
    go (some k) a g b s n e =
        let same : k ≡ length w = span_end (rw b at e) in
        T_not (first_is (length w) (outcomes r w 0)) n (rw (first_is_lem (length w) (outcomes r w 0), a, same) (eqb_refl (length w)))

-- Where two searches differ, what they search for does.
differ : (e f : ℕ → Option ℕ) (d i : ℕ) → leftmost e d i ≢ leftmost f d i → (j : ℕ) × (j < i + d) × (e j ≢ f j)
differ e f zero i h = absurd (h refl)
differ e f (suc d) i h =
    elim (discrete ℕ_discrete (e i) (f i)) [
      | yes c ↦ (let b = differ e f d (suc i) (λ q. h (ap (λ s. span_or i (e i) s) q ∙ ap (λ o. span_or i o (leftmost f d (suc i))) c)) in (b.0, omega arith, b.2))
      | no c ↦ (i, omega arith, c)
    ]

pub shift_first : (c : ℕ) (l : List (Outcome ℕ)) → first_end (shift c l) ≡ map (λ k. c + k) (first_end l)
shift_first c [] = refl
shift_first c (ends_at k ∷ l) = refl
shift_first c (wants p ∷ l) = shift_first c l

pub shift_greatest : (c : ℕ) (l : List (Outcome ℕ)) → greatest_end (shift c l) ≡ map (λ k. c + k) (greatest_end l)
shift_greatest c [] = refl
shift_greatest c (ends_at k ∷ l) = rw (shift_greatest c l) (go (greatest_end l))
  where
    go : (o : Option ℕ) → some (larger (c + k) (map (λ j. c + j) o)) ≡ some (c + larger k o)
    go none = refl
    go (some m) = ap some (omega arith)
shift_greatest c (wants p ∷ l) = shift_greatest c l

-- A place of the line is the beginning of what is left there.
pub from_place : (r : Re) (w : List ℕ) (j : ℕ) → j ≤ length w → outcomes r w j ≡ shift j (outcomes r (drop j w) 0)
from_place r w j h =
    let size : length (take j w) ≡ j = length-take-le j w h in
    ap (λ v. outcomes r v j) (sym (take-append-drop j w))
    ∙ ap (λ n. outcomes r (take j w ++ drop j w) n) (sym (add-zero j))
    ∙ (rw size at (outcomes_shift (take j w) (drop j w) r 0))

-- A list whose first end is not its greatest, at a line of which v is what the greatest end closes.
module _ (r : Re) (d : Numbered 0 r) where
  cut_at_start : (w : List ℕ) → first_end (outcomes r w 0) ≢ greatest_end (outcomes r w 0) → (v t : List ℕ) × (w ≡ v ++ t) × T (is_witness (standing r v))
  unfolding standing
  cut_at_start w h = go (greatest_end (outcomes r w 0)) refl (greatest (outcomes r w 0))
    where
      go : (o : Option ℕ) → greatest_end (outcomes r w 0) ≡ o → Greatest o (outcomes r w 0) → (v t : List ℕ) × (w ≡ v ++ t) × T (is_witness (standing r v))
      go none e g = absurd (h (no_greatest g ∙ sym e))
      go (some m) e g =
          let fits : m ≤ length w = let c = some_in (outcomes_all r w 0) m g.1 in omega arith in
          let v = take m w in
          let size : length v ≡ m = length-take-le m w fits in
          let inside = all_map {P' = λ k. k ≤ m} {Q' = λ _. Unit {0}} (λ k b. omega arith) (λ p b. tt) (outcomes_all r v 0) in
          let same : ends (outcomes r v 0) ≡ ends (outcomes r w 0) =
          sym (keep_all m inside) ∙ sym (keep_extend r d m v (drop m w) (omega arith)) ∙ ap (λ c. keep m (outcomes r c 0)) (take-append-drop m w) ∙ keep_all m g.0 in
          let s : T (some_is m (outcomes r v 0)) = rw (some_ends m (outcomes r v 0), same, ← some_ends m (outcomes r w 0)) g.1 in
          let f : T (not (first_is m (outcomes r v 0))) =
          rw (first_is_lem m (outcomes r v 0), first_ends (outcomes r v 0), same, ← first_ends (outcomes r w 0))
          (not_T (is_at m (first_end (outcomes r w 0))) λ t. h (at_some m (first_end (outcomes r w 0)) t ∙ sym e)) in
          (v, drop m w, sym (take-append-drop m w), rw size (and_join (some_is m (outcomes r v 0)) (not (first_is m (outcomes r v 0))) s f))

  -- A LINE THAT IS CUT DIFFERENTLY HOLDS A WITNESS.
  pub cut_witness : (w : List ℕ) → CutDifferently r w → (u v t : List ℕ) × (w ≡ u ++ (v ++ t)) × T (is_witness (standing r v))
  unfolding greedy posix
  cut_witness w h =
      let c = differ (λ i. first_end (outcomes r w i)) (λ i. greatest_end (outcomes r w i)) (suc (length w)) 0 h in
      let j = c.0 in
      let at = from_place r w j (omega arith) in
      let b = cut_at_start (drop j w) (λ e. c.2 (ap first_end at ∙ shift_first j (outcomes r (drop j w) 0) ∙ ap (map (λ k. j + k)) e ∙ sym (shift_greatest j (outcomes r (drop j w) 0)) ∙ sym (ap greatest_end at))) in
      (take j w, b.0, b.1, sym (take-append-drop j w) ∙ ap (λ x. take j w ++ x) b.2, b.3)
