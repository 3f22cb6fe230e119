-- The turns: whom they serve, that they leave nobody out, how many turns each pattern has had, and that they come to an end.
-- Assumes nothing.
use mathlib.Core.Path.{◌≡◌, refl, sym, ap, ap₂, ◌∙◌, subst}
use mathlib.Core.Logic.{◌↔◌}
use Prim.Native.Nat.{ℕ, zero, suc, ◌+◌, ◌-◌, ◌*◌, ◌≤◌, ◌<◌}
use mathlib.Core.Bool.{Bool, true, false, cond}
use mathlib.Core.Option.{Option, none, some, some-ne-none}
use native.Mathlib.Omega.{arith}
use native.Mathlib.Nat.{suc-mul}
use native.Mathlib.Decide.{dec_lt}
use lib.Dec.{T, eqb, eqb→eq, eqb_refl, ltb→lt, lt→ltb}
use Rattle.theory.proofs.Tests.{T_true, not_true}
use Rattle.rounds.specs.Round.{after, Round, undecided, served, after_turn, turn, turns, total}
use Rattle.rounds.proofs.Round.{on, after_below, on_below, on_add, on_each, First, first_is_lem, first_found, first_none}

-- Sums of equal numbers are equal, sums of smaller ones smaller.
pub total_same : (f g : ℕ → ℕ) (k : ℕ) → ((i : ℕ) → i < k → f i ≡ g i) → total f k ≡ total g k
unfolding total
total_same f g zero h = refl
total_same f g (suc k) h = ap₂ ◌+◌ (total_same f g k λ i l. h i (omega arith)) (h k (omega arith))

pub total_less : (f g : ℕ → ℕ) (k : ℕ) → ((i : ℕ) → i < k → f i ≤ g i) → total f k ≤ total g k
unfolding total
total_less f g zero h = omega arith
total_less f g (suc k) h = omega (arith, total_less f g k (λ i l. h i (omega arith)), h k (omega arith))

total_all : (b k : ℕ) → total (λ i. b) k ≡ k * b
unfolding total
total_all b zero = omega arith
total_all b (suc k) = ap (λ n. n + b) (total_all b k) ∙ sym (suc-mul k b)

pub total_most : (f : ℕ → ℕ) (k b : ℕ) → ((i : ℕ) → i < k → f i ≤ b) → total f k ≤ k * b
total_most f k b h = omega (arith, total_less f (λ i. b) k h, total_all b k)

-- The numbers f with one more at i, and their sum.
abbrev more : (ℕ → ℕ) → ℕ → ℕ → ℕ
more f i j = cond (eqb i j) (suc (f j)) (f j)

more_same : (f : ℕ → ℕ) (i j : ℕ) → i ≡ j → more f i j ≡ suc (f j)
more_same f i j e = rw (T_true (eqb i j) (rw e (eqb_refl j)))

more_other : (f : ℕ → ℕ) (i j : ℕ) → (i ≡ j → ⊥) → more f i j ≡ f j
more_other f i j h = rw (not_true (eqb i j) (λ t. h (eqb→eq i j t)))

-- One more is at least what was, and at most what is due where the one at i is.
more_least : (f : ℕ → ℕ) (i j : ℕ) → f j ≤ more f i j
more_least f i j = go (eqb i j)
  where
    go : (t : Bool) → f j ≤ cond t (suc (f j)) (f j)
    go true = omega arith
    go false = omega arith

more_most : (f g : ℕ → ℕ) (i j : ℕ) → f i < g i → f j ≤ g j → more f i j ≤ g j
more_most f g i j l h = go (eqb i j) (eqb→eq i j)
  where
    go : (t : Bool) → (T t → i ≡ j) → cond t (suc (f j)) (f j) ≤ g j
    go true e = rw (e tt) at l
    go false e = h

total_more : (f : ℕ → ℕ) (i k : ℕ) → i < k → total (more f i) k ≡ suc (total f k)
unfolding total
total_more f i zero h = absurd (omega arith)
total_more f i (suc k) h =
    elim (dec_lt i k) [
      | yes c ↦ omega (arith, total_more f i k c, more_other f i k (λ e. omega arith))
      | no c ↦ omega (arith, total_same (more f i) f k (λ j l. more_other f i j (λ q. omega arith)), more_same f i k (omega arith))
    ]

module _ (k : ℕ) (due : ℕ → ℕ) where
  module _ (x : Round) where
    -- DECIDED ONES ARE PASSED OVER, and the order is the round's: the pattern served is undecided, and those between the place and it are decided.
    pub served_first : (i : ℕ) → served k due x ≡ some i → First k (undecided due x) k x.place i
    served_first i e = first_is_lem k (undecided due x) k x.place i e

    pub served_undecided : (i : ℕ) → served k due x ≡ some i → T (undecided due x i)
    served_undecided i e = (served_first i e).still

    pub served_below : (i : ℕ) → x.place < k → served k due x ≡ some i → i < k
    served_below i h e = let f = served_first i e in subst (λ p. p < k) f.there (on_below k f.far x.place h)

    -- WITH NOTHING UNDECIDED NO PATTERN IS SERVED, and only then;
    pub nobody_exactly : x.place < k → (served k due x ≡ none) ↔ ((j : ℕ) → j < k → T (undecided due x j) → ⊥)
    nobody_exactly h = (only, λ all. first_none k (undecided due x) k x.place λ d g t. all (on k d x.place) (on_below k d x.place h) t)
      where
        only : served k due x ≡ none → (j : ℕ) → j < k → T (undecided due x j) → ⊥
        only e j g t =
            let (d, l, f) = on_each k x.place j h g in
            let (i, q) = first_found k (undecided due x) k x.place d l (subst (λ p. T (undecided due x p)) (sym f) t) in
            some-ne-none i (sym q ∙ e)

    -- the step then changes nothing.
    pub turn_none : served k due x ≡ none → turn k due x ≡ x
    unfolding turn
    turn_none e = ap (after_turn k x) e

    pub turn_some : (i : ℕ) → served k due x ≡ some i → turn k due x ≡ after_turn k x (some i)
    unfolding turn
    turn_some i e = ap (after_turn k x) e

    -- What holds of the round and of what follows each pattern's turn holds after the next turn.
    turn_cases : (P : Round → Type 0) → (served k due x ≡ none → P x) → ((i : ℕ) → served k due x ≡ some i → P (after_turn k x (some i))) → P (turn k due x)
    unfolding turn
    turn_cases P a b = go (served k due x) refl
      where
        go : (o : Option ℕ) → served k due x ≡ o → P (after_turn k x o)
        go none e = a e
        go (some i) e = b i e

    pub turn_below : x.place < k → (turn k due x).place < k
    turn_below h = turn_cases (λ y. y.place < k) (λ e. h) (λ i e. after_below k i (omega arith))

    -- What is undecided after a turn was so before it,
    turn_before : (j : ℕ) → T (undecided due (turn k due x) j) → T (undecided due x j)
    turn_before j = turn_cases (λ y. T (undecided due y j) → T (undecided due x j)) (λ e t. t) (λ i e t. lt→ltb (x.had j) (due j) (omega (arith, ltb→lt (more x.had i j) (due j) t, more_least x.had i j)))

    -- and no pattern gets more turns than are due to it.
    turn_most : ((i : ℕ) → x.had i ≤ due i) → (j : ℕ) → (turn k due x).had j ≤ due j
    turn_most h j = turn_cases (λ y. y.had j ≤ due j) (λ e. h j) (λ i e. more_most x.had due i j (ltb→lt (x.had i) (due i) (served_undecided i e)) (h j))

    -- A turn that serves a pattern is one turn more.
    pub total_turn : (i : ℕ) → i < k → served k due x ≡ some i → total (turn k due x).had k ≡ suc (total x.had k)
    total_turn i h e = ap (λ y. total y.had k) (turn_some i e) ∙ total_more x.had i k h

  pub place_below : 0 < k → (n : ℕ) → (turns k due n).place < k
  unfolding turns
  place_below h zero = h
  place_below h (suc n) = turn_below (turns k due n) (place_below h n)

  -- No pattern gets more turns than are due to it,
  pub had_most : (n i : ℕ) → (turns k due n).had i ≤ due i
  unfolding turns
  had_most zero i = omega arith
  had_most (suc n) i = turn_most (turns k due n) (had_most n) i

  -- and when nobody is left to serve each has had them all.
  pub had_all : 0 < k → (n : ℕ) → served k due (turns k due n) ≡ none → (i : ℕ) → i < k → (turns k due n).had i ≡ due i
  had_all h n e i l =
      let x = turns k due n in
      let most = had_most n i in
      elim (dec_lt (x.had i) (due i)) [
        | yes c ↦ absurd ((nobody_exactly x (place_below h n)).0 e i l (lt→ltb (x.had i) (due i) c))
        | no c ↦ omega arith
      ]

  -- A pattern that is undecided has been so all along,
  pub undecided_before : (n m j : ℕ) → n ≤ m → T (undecided due (turns k due m) j) → T (undecided due (turns k due n) j)
  unfolding turns
  undecided_before n m j h = go (m - n) m (omega arith)
    where
      go : (r m : ℕ) → m ≡ n + r → T (undecided due (turns k due m) j) → T (undecided due (turns k due n) j)
      go zero m e t = let q : m ≡ n = omega arith in rw q at t
      go (suc r) zero e t = absurd (omega arith)
      go (suc r) (suc m) e t = go r m (omega arith) (turn_before (turns k due m) j t)

  -- so once it is decided it stays decided.
  pub stays_decided : (n m j : ℕ) → n ≤ m → (T (undecided due (turns k due n) j) → ⊥) → T (undecided due (turns k due m) j) → ⊥
  stays_decided n m j h d t = d (undecided_before n m j h t)

  -- Nearer to j by a turn that serves i, e places on from p.
  nearer : (d e i j p : ℕ) → e < d → on k d p ≡ j → on k e p ≡ i → on k (d - suc e) (after k i) ≡ j
  unfolding on
  nearer d e i j p h f g =
      let r = d - suc e in
      let s : d ≡ e + (1 + r) = omega arith in
      sym (on_add k 1 r i) ∙ ap (on k (1 + r)) (sym g) ∙ sym (on_add k e (1 + r) p) ∙ ap (λ n. on k n p) (sym s) ∙ f

  place_after : (n i : ℕ) → served k due (turns k due n) ≡ some i → (turns k due (suc n)).place ≡ after k i
  unfolding turns
  place_after n i e = ap (λ y. y.place) (turn_some (turns k due n) i e)

  -- A pattern d places on, undecided all along, is served by one of the d + 1 turns from the n-th on: each that serves another brings the round nearer.
  abbrev Reached : ℕ → ℕ → ℕ → Type 0
  Reached d n j = (m : ℕ) × (n ≤ m) × (m ≤ n + d) × (served k due (turns k due m) ≡ some j)

  abbrev Near : ℕ → ℕ → Type 0
  Near j b = (d n : ℕ) → d < b → d < k → on k d (turns k due n).place ≡ j → ((m : ℕ) → m ≤ n + d → T (undecided due (turns k due m) j)) → Reached d n j

  reach : (j b : ℕ) → Near j b
  reach j zero d n h l e t = absurd (omega arith)
  reach j (suc b) d n h l e t = go (reach j b) (first_found k (undecided due x) k x.place d l still)
    where
      x : Round
      x = turns k due n

      still : T (undecided due x (on k d x.place))
      still = rw e (t n (omega arith))

      go : Near j b → (i : ℕ) × (served k due x ≡ some i) → Reached d n j
      go below (i, q) =
          let f = served_first x i q in
          elim (dec_lt f.far d) [
            | yes c ↦ (let near = ap (on k (d - suc f.far)) (place_after n i q) ∙ nearer d f.far i j x.place c e f.there in
                let (m, u, v, w) = below (d - suc f.far) (suc n) (omega arith) (omega arith) near (λ m a. t m (omega arith)) in
                (m, omega arith, omega arith, w))
            | no c ↦ elim (dec_lt d f.far) [
              | yes b ↦ absurd (f.passed d b still)
              | no b ↦ (let s : f.far ≡ d = omega arith in (n, omega arith, omega arith, q ∙ ap some (sym f.there ∙ ap (λ r. on k r x.place) s ∙ e)))
            ]
          ]

  -- A PATTERN STILL UNDECIDED GETS A TURN WITHIN ANY EIGHT TURNS IN A ROW, the n-th to the (n + 7)-th, counted from 0.
  pub eight_in_a_row : 0 < k → k ≤ 8 → (n j : ℕ) → j < k → T (undecided due (turns k due (n + 7)) j) → (m : ℕ) × (m < 8) × (served k due (turns k due (n + m)) ≡ some j)
  eight_in_a_row one few n j g t =
      let (d, l, e) = on_each k (turns k due n).place j (place_below one n) g in
      let (m, u, v, w) = reach j (suc d) d n (omega arith) l e (λ m a. undecided_before m (n + 7) j (omega arith) t) in
      let q : n + (m - n) ≡ m = omega arith in
      (m - n, omega arith, rw q w)

  -- As long as a pattern is served there are as many turns as the patterns have had.
  pub total_turns : 0 < k → (n i : ℕ) → served k due (turns k due n) ≡ some i → total (turns k due n).had k ≡ n
  unfolding turns
  total_turns one zero i e = omega (arith, total_all 0 k)
  total_turns one (suc n) i e = go (served k due x) refl (total_turns one n)
    where
      x : Round
      x = turns k due n

      go : (o : Option ℕ) → served k due x ≡ o → ((j : ℕ) → served k due x ≡ some j → total x.had k ≡ n) → total (turn k due x).had k ≡ suc n
      go none q f = absurd (some-ne-none i (sym e ∙ ap (served k due) (turn_none x q) ∙ q))
      go (some j) q f = total_turn x j (served_below x j (place_below one n) q) q ∙ ap suc (f j q)

  -- THE TURNS COME TO AN END once there have been as many as are due.
  pub turns_end : 0 < k → (n : ℕ) → total due k ≤ n → served k due (turns k due n) ≡ none
  unfolding turns
  turns_end one n h = go (served k due x) refl
    where
      x : Round
      x = turns k due n

      go : (o : Option ℕ) → served k due x ≡ o → o ≡ none
      go none e = refl
      go (some i) e = absurd (omega (arith, total_turn x i (served_below x i (place_below one n) e) e, total_turns one n i e, total_less (turns k due (suc n)).had due k (λ j l. had_most (suc n) j)))
