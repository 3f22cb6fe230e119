-- The ends of a part's list, as it was before the requested changes, are in source 000's order of preference.
-- Assumes nothing.
use mathlib.Core.Path.{◌≡◌, refl, sym, ap, subst, subst₂}
use mathlib.Core.Logic.{◌⊎◌, inl, inr}
use mathlib.Core.HLevel.{×_discrete}
use mathlib.Core.Sum
use Prim.Native.Nat.{ℕ, zero, suc, ◌-◌, ◌<◌}
use mathlib.Core.Bool.{Bool, true, false}
use mathlib.Core.List.Memᴰ
use mathlib.Core.List.Memᴰ.{head}
use mathlib.Core.List.Memᴰ.{tail}
use mathlib.Core.List.{List, [], ◌∷◌, ◌++◌, map, map-append, map-map, map-id, List-discrete, Memᴰ as Mem}
use native.Mathlib.Omega.{arith}
use native.Mathlib.Decide.{ℕ_discrete}
use lib.ListN.{length, drop}
use lib.Dec.{T, eqb, eqb→eq, eqb_refl, ltb, ltb→lt, lt→ltb}
use Rattle.theory.specs.Pattern.{Manner, eager, lazy, Re, empty, leaf, seq, alt, star, field}
use Rattle.theory.specs.Outcomes.{Outcome, ends_at, wants, and_then, when, leaf_outcomes, then_leave, outcomes}
use Rattle.theory.specs.Base.{base_star, list_by, base}
use Rattle.theory.specs.Standing.{some_is}
use Rattle.theory.specs.Matching.{Matches}
use Rattle.theory.specs.Preference.{ByLeast, AltWay, AltLess, left, right, left_right, SeqWay, seq_end, SeqLess, first, second, StarWay, star_end, StarLess, turn, rest, more, less, Prefer}
use Rattle.theory.proofs.Tests.{either, or_left, or_right, or_cases}
use Rattle.theory.proofs.Equations.{outcomes_all}
use Rattle.theory.proofs.Outcomes.{ends, some_in}
use Rattle.theory.proofs.Matching.{ends_match, match_ends}
use Rattle.theory.proofs.Unmoved.{base_some}
use Rattle.theory.proofs.Ranked.{Before, each, Ranks, ranks_iff, ranks_one, ranks_when, ranks_append, ranks_map, ranks_each, flat}

pub in_ends : {k : ℕ} (l : List (Outcome ℕ)) → T (some_is k l) → Mem k (ends l)
in_ends [] t = absurd t
in_ends {k} (ends_at j ∷ l) t = either (λ e. head (sym (eqb→eq j k e))) (λ t. tail (in_ends l t)) (or_cases (eqb j k) (some_is k l) t)
in_ends (wants p ∷ l) t = in_ends l t

pub of_ends : {k : ℕ} (l : List (Outcome ℕ)) → Mem k (ends l) → T (some_is k l)
of_ends [] m = absurd (Memᴰ.not-nil m)
of_ends {k} (ends_at j ∷ l) m = either (λ e. or_left (eqb j k) (some_is k l) (rw e (eqb_refl j))) (λ t. or_right (eqb j k) (some_is k l) (of_ends l t)) (Memᴰ.cases_cons m)
of_ends (wants p ∷ l) m = of_ends l m

ends_append : (l m : List (Outcome ℕ)) → ends (l ++ m) ≡ ends l ++ ends m
ends_append [] m = refl
ends_append (ends_at k ∷ l) m = rw (ends_append l m)
ends_append (wants p ∷ l) m = ends_append l m

-- The ends of one list after another, by their ways.
ends_then : {A C : Type 0} (g : ℕ → C → A) (h : ℕ → List C) (ρ : A → ℕ) (f : ℕ → List (Outcome ℕ)) → ((k : ℕ) → ends (f k) ≡ map (λ c. ρ (g k c)) (h k))
    → (l : List (Outcome ℕ)) → ends (and_then l f) ≡ map ρ (each g h (ends l))
ends_then g h ρ f e [] = refl
ends_then g h ρ f e (ends_at k ∷ l) = rw (ends_append, e k, ends_then g h ρ f e l, map-append, map-map)
ends_then g h ρ f e (wants p ∷ l) = ends_then g h ρ f e l

-- The sequences of at most d turns from i, the preferred first; f has the ends of a turn.
abbrev or_none : Manner → List (List ℕ) → List (List ℕ)
or_none eager l = l ++ ([] ∷ [])
or_none lazy l = [] ∷ l

turns : Manner → (ℕ → List ℕ) → ℕ → ℕ → List (List ℕ)
turns how f zero i = []
turns how f (suc d) i = or_none how (each ◌∷◌ (λ j. when (ltb i j) (turns how f d j)) (f i))

abbrev tails : Manner → (ℕ → List ℕ) → ℕ → ℕ → ℕ → List (List ℕ)
tails how f d i j = when (ltb i j) (turns how f d j)

-- .. so do their ends.
ends_leave : (how : Manner) (i : ℕ) (l : List (Outcome ℕ)) (m : List (List ℕ)) → ends l ≡ map (star_end i) m → ends (then_leave how l i) ≡ map (star_end i) (or_none how m)
unfolding then_leave
ends_leave eager i l m e = rw (ends_append, map-append, e)
ends_leave lazy i l m e = rw e

-- An empty turn is no way.
ends_turn : {C : Type 0} (ρ : C → ℕ) (l : List (Outcome ℕ)) (m : List C) (b : Bool) → ends l ≡ map ρ m → ends (when b l) ≡ map ρ (when b m)
ends_turn ρ l m true e = e
ends_turn ρ l m false e = refl

leaf_one : (p : ℕ) (s : ℕ → Bool) (i : ℕ) (l : List ℕ) (j k : ℕ) → Before j k (ends (leaf_outcomes p s i l)) → Mem k (ends (leaf_outcomes p s i l)) → ⊥
leaf_one p s i [] j k h m = Memᴰ.not-nil m
leaf_one p s i (b ∷ l) j k h m = go (s b) h m
  where
    go : (t : Bool) → Before j k (ends (when t (ends_at (suc i) ∷ []))) → Mem k (ends (when t (ends_at (suc i) ∷ []))) → ⊥
    go true h m = (ranks_one {Less = λ _ _. ⊥} (suc i)).sorted j k h m
    go false h m = Memᴰ.not-nil m

module _ (w : List ℕ) where
  -- The ends of r from i.
  abbrev pub places : Re → ℕ → List ℕ
  places r i = ends (base r w i)

  abbrev pub Ranked : Re → ℕ → Type 0
  Ranked r i = Ranks (Matches w r i) (Prefer w r i) (places r i)

  as_end : (r : Re) (i k : ℕ) → Mem k (places r i) → T (some_is k (outcomes r w i))
  as_end r i k m = rw (base_some r w i k) (of_ends (base r w i) m)

  -- Sound and complete is known (`ends-are-matches`).
  ranked : {r : Re} {i : ℕ} → ((j k : ℕ) → Before j k (places r i) → Mem k (places r i) → Prefer w r i j k) → Ranked r i
  ranked {r} {i} h = record { sound = λ k m. ends_match w r i k (as_end r i k m); complete = λ k m. in_ends (base r w i) (rw (base_some r w i k) at (match_ends w m)); sorted = h }

  -- .. and from ways in order.
  by_ways : {A : Type 0} {In : A → Type 0} {Less : A → A → Type 0} {ρ : A → ℕ} {L : List A} {l : List ℕ}
      → Discrete A → Ranks In Less L → l ≡ map ρ L → (j k : ℕ) → Before j k l → Mem k l → ByLeast In ρ Less j k
  by_ways {ρ = ρ} dec r e j k h m = flat ρ dec r (subst (Before j k) e h) (subst (Mem k) e m)

  module _ (x y : Re) (i : ℕ) where
    alt_ways : Ranked x i → Ranked y i → Ranks (AltWay w x y i) (AltLess (Prefer w x i) (Prefer w y i)) (map inl (places x i) ++ map inr (places y i))
    alt_ways p q =
        ranks_iff (λ a. either (λ (j, m, e). subst (AltWay w x y i) (sym e) m) (λ (j, m, e). subst (AltWay w x y i) (sym e) m)) back
        (ranks_append (ranks_map inl (λ a b e. cc) (λ a b l. left l) p) (ranks_map inr (λ a b e. cc) (λ a b l. right l) q)
        (λ a b (j, m, e) (k, n, f). subst₂ (AltLess (Prefer w x i) (Prefer w y i)) (sym e) (sym f) left_right))
      where
        back : (a : ℕ ⊎ ℕ) → AltWay w x y i a → ((j : ℕ) × Matches w x i j × (a ≡ inl j)) ⊎ ((j : ℕ) × Matches w y i j × (a ≡ inr j))
        back (inl j) m = inl (j, m, refl)
        back (inr j) m = inr (j, m, refl)

    seq_ways : Ranked x i → ((j : ℕ) → Ranked y j) → Ranks (SeqWay w x y i) (SeqLess (Prefer w x i) (Prefer w y)) (each (λ j k. (j, k)) (places y) (places x i))
    seq_ways p q =
        ranks_iff (λ a (j, k, m, n, e). subst (SeqWay w x y i) (sym e) (m, n)) (λ a m. (a.0, a.1, m.0, m.1, refl))
        (ranks_each (λ j k. (j, k)) (places y) ℕ_discrete (λ j k c d e. (ap (λ a. a.0) e, ap (λ a. a.1) e)) (λ j k c d l. first l) (λ j c d l. second l) p (λ j m. q j))

  module _ (how : Manner) (x : Re) where
    turns_ends : (d i : ℕ) → ends (base_star how (base x w) d i) ≡ map (star_end i) (turns how (places x) d i)
    unfolding base_star turns
    turns_ends zero i = refl
    turns_ends (suc d) i =
        ends_leave how i (and_then (base x w i) (λ k. when (ltb i k) (base_star how (base x w) d k))) (each ◌∷◌ (tails how (places x) d i) (places x i))
        (ends_then ◌∷◌ (tails how (places x) d i) (star_end i) (λ k. when (ltb i k) (base_star how (base x w) d k))
        (λ k. ends_turn (star_end k) (base_star how (base x w) d k) (turns how (places x) d k) (ltb i k) (turns_ends d k)) (base x w i))

    -- A first turn from i and what goes on from there.
    abbrev Turn : ℕ → List ℕ → Type 0
    Turn i a = (j : ℕ) × (s : List ℕ) × Matches w x i j × ((i < j) × StarWay w x j s) × (a ≡ j ∷ s)

    way_of : (i : ℕ) (a : List ℕ) → Turn i a ⊎ (a ≡ []) → StarWay w x i a
    way_of i a = either (λ (j, s, m, n, e). subst (StarWay w x i) (sym e) (n.0, m, n.1)) (λ e. subst (StarWay w x i) (sym e) tt)

    of_way : (i : ℕ) (a : List ℕ) → StarWay w x i a → Turn i a ⊎ (a ≡ [])
    of_way i [] m = inr refl
    of_way i (j ∷ s) (l, m, n) = inl (j, s, m, (l, n), refl)

  -- The turns, and none: first or last.
  or_none_lem : (how : Manner) (x : Re) (i : ℕ) {l : List (List ℕ)} → Ranks (Turn how x i) (StarLess (Prefer w x) how i) l → Ranks (StarWay w x i) (StarLess (Prefer w x) how i) (or_none how l)
  or_none_lem eager x i p =
      ranks_iff (way_of eager x i) (of_way eager x i)
      (ranks_append p (ranks_one []) (λ a b (j, s, m, n, e) f. subst₂ (StarLess (Prefer w x) eager i) (sym e) (sym f) more))
  or_none_lem lazy x i p =
      ranks_iff (λ a t. way_of lazy x i a (either inr inl t)) (λ a m. either inr inl (of_way lazy x i a m))
      (ranks_append (ranks_one []) p (λ a b f (j, s, m, n, e). subst₂ (StarLess (Prefer w x) lazy i) (sym f) (sym e) less))

  star_ways : (how : Manner) (x : Re) → ((i : ℕ) → Ranked x i) → (d i : ℕ) → length w - i < d → Ranks (StarWay w x i) (StarLess (Prefer w x) how i) (turns how (places x) d i)
  unfolding turns
  star_ways how x p zero i h = absurd (omega arith)
  star_ways how x p (suc d) i h =
      or_none_lem how x i
      (ranks_each ◌∷◌ (tails how (places x) d i) ℕ_discrete (λ j k s t e. (cc, cc)) (λ j k s t l. turn l) (λ j s t l. rest l) (p i)
      (λ j m.
      let b = some_in (outcomes_all x w i) j (as_end x i j m) in
      ranks_when (ltb i j) (ltb→lt i j) (lt→ltb i j) (λ l. star_ways how x p d j (omega arith))))

  -- THE ENDS ARE IN THE ORDER OF PREFERENCE.
  pub in_order : (r : Re) (i : ℕ) → Ranked r i
  unfolding list_by Prefer
  in_order empty i = ranked {r = empty} (ranks_one i).sorted
  in_order (leaf p s) i = ranked {r = leaf p s} (leaf_one p s i (drop i w))
  in_order (alt x y) i =
      ranked {r = alt x y} (by_ways (Sum.discrete ℕ_discrete ℕ_discrete) (alt_ways x y i (in_order x i) (in_order y i)) (simp (ends_append, map-append, map-map, map-id)))
  in_order (seq x y) i =
      ranked {r = seq x y}
      (by_ways (×_discrete ℕ_discrete ℕ_discrete) (seq_ways x y i (in_order x i) (in_order y))
      (ends_then (λ j k. (j, k)) (places y) seq_end (base y w) (λ k. sym (map-id (places y k))) (base x w i)))
  in_order (star how x) i = ranked {r = star how x} (by_ways (List-discrete ℕ_discrete) (star_ways how x (in_order x) (suc (length w)) i (omega arith)) (turns_ends how x (suc (length w)) i))
  in_order (field f x) i = ranked {r = field f x} (in_order x i).sorted
