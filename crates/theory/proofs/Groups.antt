-- Bytes of one group carry a standing to the same standing, so the search may pass over a byte whose group has a lower one; and a line keeps its lists and both
-- spans when bytes become others of their groups.
-- Assumes nothing.
use mathlib.Core.Path.{◌≡◌, refl, sym, ap, ap₂, ◌∙◌}
use mathlib.Core.Logic.{inr}
use mathlib.Core.Bool.{Bool, ◌&&◌, ◌||◌}
use Prim.Native.Nat.{ℕ, zero, suc, ◌+◌, ◌<◌}
use mathlib.Core.List.{List, [], ◌∷◌, ◌++◌, map}
use native.Mathlib.Omega.{arith}
use native.Mathlib.Decide.{dec_lt}
use lib.ListN.{length, drop, length-map}
use lib.Dec.{eqb, eqb_refl}
use Rattle.theory.specs.Pattern.{Re, empty, leaf, seq, alt, star, field, has, count, Numbered, SameGroup}
use Rattle.theory.specs.Outcomes.{ends_at, when, and_then, leaf_outcomes, star_outcomes, outcomes}
use Rattle.theory.specs.Spans.{first_end, greatest_end, leftmost, greedy, posix, CutDifferently}
use Rattle.theory.specs.Standing.{fronts, wanted, once, set_of, Standing, standing}
use Rattle.theory.specs.Records.{at}
use Rattle.theory.specs.Code.Follow.{follow, after, has_end}
use Rattle.theory.specs.Code.Next.{afters, next}
use Rattle.theory.proofs.Tests.{T_true, or_false}
use Rattle.theory.proofs.Equations.{Leaf}
use Rattle.theory.proofs.Extend.{has_none, leaf_range, has_beyond}
use Rattle.theory.proofs.Step.{step}
use Rattle.theory.specs.Code.Search.{known, Search}
use Rattle.theory.proofs.Search.{tried}
use Rattle.theory.proofs.Records.{carries}

pub same_group : (r : Re) → Numbered 0 r → (b c : ℕ) → SameGroup r b c → (s : Standing) → next r s b ≡ next r s c
unfolding next
same_group r d b c e s = λ i. record { order = once (fronts (all_same s.order i)); first = has_end (all_same s.order i); all = set_of r (wanted (all_same s.all i)); some = has_end (all_same s.all i) }
  where
    one : (p : ℕ) → after r b p ≡ after r c p
    one p =
        let q : has r p b ≡ has r p c = elim (dec_lt p (count r)) [ yes h ↦ e p h | no h ↦ has_beyond r d p b h ∙ sym (has_beyond r d p c h) ] in
        ap (λ t. when t (follow r p)) q

    all_same : (l : List ℕ) → afters r b l ≡ afters r c l
    all_same [] = refl
    all_same (p ∷ l) = ap₂ ◌++◌ (one p) (all_same l)

module _ (r : Re) (d : Numbered 0 r) where
  -- Bytes of one group carry a line to one standing,
  pub group_carries : (b c : ℕ) → SameGroup r b c → (u : List ℕ) → standing r (u ++ (b ∷ [])) ≡ standing r (u ++ (c ∷ []))
  group_carries b c g u = step r d u b ∙ same_group r d b c g (standing r u) ∙ sym (step r d u c)

  -- so the turn of the later one adds nothing.
  pub pass_over : {L : List (List ℕ)} {q c : ℕ} → Search r L q c → q < length L → c < 256 → (b : ℕ) → b < c → SameGroup r b c → Search r L q (suc c)
  pass_over {L} {q} {c} t h i b l g =
      let (k, m, e, o) = tried (standing r) (carries r d) 256 t q b (inr (refl, l)) h (omega arith) in
      known t h i k m (e ∙ group_carries b c g (at L q))

-- A line in other bytes: f takes each byte to one of its group, as far as the sets of a part tell.
module _ (f : ℕ → ℕ) where
  Keeps : Re → Type 0
  Keeps empty = Unit {0}
  Keeps (leaf p s) = (b : ℕ) → s b ≡ s (f b)
  Keeps (seq x y) = Keeps x × Keeps y
  Keeps (alt x y) = Keeps x × Keeps y
  Keeps (star how x) = Keeps x
  Keeps (field n x) = Keeps x

  -- The leaf p of a part holds the byte b exactly if it holds f b.
  abbrev Even : (ℕ → ℕ → Bool) → Type 0
  Even holds = (p b : ℕ) → holds p b ≡ holds p (f b)

  -- A part's leaves are apart from those of the one after it, so what is even of both is even of each.
  module _ (x y : Re) (n : ℕ) (dx : Numbered n x) (dy : Numbered (n + count x) y) (h : Even (λ p b. has x p b || has y p b)) where
    even_left : Even (has x)
    even_left p b =
        elim (dec_lt p (n + count x)) [
          | yes l ↦ (let none : Leaf y p → ⊥ = λ m. (let c = leaf_range (n + count x) dy m in omega arith) in
              sym (or_false (has x p b)) ∙ ap (λ z. has x p b || z) (sym (has_none y p b none)) ∙ h p b ∙ ap (λ z. has x p (f b) || z) (has_none y p (f b) none) ∙ or_false (has x p (f b)))
          | no l ↦ (let none : Leaf x p → ⊥ = λ m. (let c = leaf_range n dx m in omega arith) in has_none x p b none ∙ sym (has_none x p (f b) none))
        ]

    even_right : Even (has y)
    even_right p b =
        elim (dec_lt p (n + count x)) [
          | yes l ↦ (let none : Leaf y p → ⊥ = λ m. (let c = leaf_range (n + count x) dy m in omega arith) in has_none y p b none ∙ sym (has_none y p (f b) none))
          | no l ↦ (let none : Leaf x p → ⊥ = λ m. (let c = leaf_range n dx m in omega arith) in
              ap (λ z. z || has y p b) (sym (has_none x p b none)) ∙ h p b ∙ ap (λ z. z || has y p (f b)) (has_none x p (f b) none))
        ]

  keeps : (r : Re) (n : ℕ) → Numbered n r → Even (has r) → Keeps r
  unfolding Numbered count has Keeps
  keeps empty n d h = tt
  keeps (leaf q s) n d h = λ b. let here : eqb q q ≡ _ = T_true (eqb q q) (eqb_refl q) in ap (λ z. z && s b) (sym here) ∙ h q b ∙ ap (λ z. z && s (f b)) here
  keeps (seq x y) n d h = (keeps x n d.0 (even_left x y n d.0 d.1 h), keeps y (n + count x) d.1 (even_right x y n d.0 d.1 h))
  keeps (alt x y) n d h = (keeps x n d.0 (even_left x y n d.0 d.1 h), keeps y (n + count x) d.1 (even_right x y n d.0 d.1 h))
  keeps (star how x) n d h = keeps x n d h
  keeps (field m x) n d h = keeps x n d h

  drop_map : (i : ℕ) (w : List ℕ) → drop i (map f w) ≡ map f (drop i w)
  drop_map zero w = refl
  drop_map (suc i) [] = refl
  drop_map (suc i) (b ∷ w) = drop_map i w

  leaf_same : (p : ℕ) (s : ℕ → Bool) → ((b : ℕ) → s b ≡ s (f b)) → (i : ℕ) (rest : List ℕ) → leaf_outcomes p s i (map f rest) ≡ leaf_outcomes p s i rest
  leaf_same p s h i [] = refl
  leaf_same p s h i (b ∷ rest) = ap (λ z. when z (ends_at (suc i) ∷ [])) (sym (h b))

  -- The lists of the line in other bytes are the line's,
  same_outcomes : (r : Re) → Keeps r → (w : List ℕ) (i : ℕ) → outcomes r (map f w) i ≡ outcomes r w i
  unfolding outcomes Keeps
  same_outcomes empty h w i = refl
  same_outcomes (leaf p s) h w i = ap (leaf_outcomes p s i) (drop_map i w) ∙ leaf_same p s h i (drop i w)
  same_outcomes (seq x y) h w i = λ j. and_then (same_outcomes x h.0 w i j) (λ k. same_outcomes y h.1 w k j)
  same_outcomes (alt x y) h w i = ap₂ ◌++◌ (same_outcomes x h.0 w i) (same_outcomes y h.1 w i)
  same_outcomes (star how x) h w i = λ j. star_outcomes how (λ k. same_outcomes x h w k j) (suc (length-map w f j)) i
  same_outcomes (field n x) h w i = same_outcomes x h w i

  module _ (r : Re) (d : Numbered 0 r) (same : (b : ℕ) → SameGroup r b (f b)) where
    own : Keeps r
    own =
        keeps r 0 d
        (λ p b. elim (dec_lt p (count r)) [ yes l ↦ same b p l | no l ↦ has_beyond r d p b l ∙ sym (has_beyond r d p (f b) l) ])

    -- and so both its spans are,
    pub regroup_greedy : (w : List ℕ) → greedy r (map f w) ≡ greedy r w
    unfolding greedy
    regroup_greedy w = λ j. leftmost (λ i. first_end (same_outcomes r own w i j)) (suc (length-map w f j)) 0

    pub regroup_posix : (w : List ℕ) → posix r (map f w) ≡ posix r w
    unfolding posix
    regroup_posix w = λ j. leftmost (λ i. greatest_end (same_outcomes r own w i j)) (suc (length-map w f j)) 0

    -- A LINE THAT IS CUT DIFFERENTLY IS SO IN OTHER BYTES OF THE SAME GROUPS, at the same places.
    pub regroup_cut : (w : List ℕ) → CutDifferently r w → CutDifferently r (map f w)
    regroup_cut w h e = h (sym (regroup_greedy w) ∙ e ∙ regroup_posix w)
