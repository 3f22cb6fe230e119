-- Starts that lead to no end may be left out: over the places that are passed, all leaves that any start wants are kept as one set.
-- Assumes nothing.
use mathlib.Core.Path.{◌≡◌, refl, sym, ap, ap₂, ◌∙◌, subst}
use Prim.Native.Nat.{ℕ, zero, suc, ◌+◌, ◌-◌, ◌≤◌, ◌<◌}
use mathlib.Core.Bool.{false, cond, true≢false}
use mathlib.Core.List.{List, [], ◌∷◌, ◌++◌}
use mathlib.Core.Option.{none, some}
use native.Mathlib.Omega.{arith}
use native.Mathlib.Decide.{dec_lt}
use lib.ListN.{length, drop, get_or, drop_of_length-le}
use lib.Seq.{drop-cons}
use lib.Dec.{T, eqb, eqb_refl}
use Rattle.theory.specs.Pattern.{Re, has}
use Rattle.theory.specs.Outcomes.{when}
use Rattle.theory.specs.Spans.{nowhere, span_or}
use Rattle.theory.specs.Standing.{wanted, member, set_of}
use Rattle.theory.specs.Code.Follow.{has_end, after, follow}
use Rattle.theory.specs.Code.Next.{afters}
use Rattle.theory.proofs.Tests.{T_true, not_true, or_left, or_right}
use Rattle.theory.proofs.Members.{any_found, any_of, Within}
use Rattle.theory.proofs.Step.{afters_end}
use Rattle.blocks.specs.Blocks.{firsts}
use Rattle.blocks.specs.Answer.{or_else, last_end, later}
use Rattle.blocks.proofs.Answer.{no_leaves, none_set, set_within}
use Rattle.blocks.proofs.Posix.{or_none_lem}

-- A byte that no leaf of a list takes, and two bytes that they do not tell apart.
module _ (r : Re) (b : ℕ) where
  pub afters_none : (l : List ℕ) → ((p : ℕ) → T (member p l) → has r p b ≡ false) → afters r b l ≡ []
  afters_none [] h = refl
  afters_none (p ∷ l) h = rw (h p (or_left (eqb p p) (member p l) (eqb_refl p))) (afters_none l λ q t. h q (or_right (eqb q p) (member q l) t))

  pub afters_same : (c : ℕ) (l : List ℕ) → ((p : ℕ) → T (member p l) → has r p b ≡ has r p c) → afters r b l ≡ afters r c l
  afters_same c [] h = refl
  afters_same c (p ∷ l) h =
      ap₂ ◌++◌ (ap (λ t. when t (follow r p)) (h p (or_left (eqb p p) (member p l) (eqb_refl p)))) (afters_same c l λ q t. h q (or_right (eqb q p) (member q l) t))

module _ (r : Re) (w : List ℕ) where
  -- One byte on.
  pub last_next : (i : ℕ) (l : List ℕ) → i < length w
      → last_end r l (drop i w) i ≡ or_else (last_end r (set_of r (wanted (afters r (get_or w i 0) l))) (drop (suc i) w) (suc i)) (cond (has_end (afters r (get_or w i 0) l)) (some (suc i)) none)
  unfolding last_end
  last_next i l h = rw (drop-cons w i 0 h)

  pub later_next : (i : ℕ) → i < length w → later r (drop i w) i ≡ span_or i (last_end r (firsts r) (drop i w) i) (later r (drop (suc i) w) (suc i))
  unfolding later
  later_next i h = rw (drop-cons w i 0 h)

  -- At the line's end.
  pub last_over : (i : ℕ) (l : List ℕ) → length w ≤ i → last_end r l (drop i w) i ≡ none
  unfolding last_end
  last_over i l h = ap (λ u. last_end r l u i) (drop_of_length-le w h)

  pub later_over : (i : ℕ) → length w ≤ i → later r (drop i w) i ≡ nowhere
  unfolding later
  later_over i h = ap (λ u. later r u i) (drop_of_length-le w h)

  -- A byte that gives no end, and keeps to the set m.
  pub last_quiet : (i : ℕ) (l : List ℕ) → i < length w → has_end (afters r (get_or w i 0) l) ≡ false → last_end r l (drop i w) i ≡ last_end r (set_of r (wanted (afters r (get_or w i 0) l))) (drop (suc i) w) (suc i)
  last_quiet i l h e = last_next i l h ∙ ap (λ c. or_else (last_end r (set_of r (wanted (afters r (get_or w i 0) l))) (drop (suc i) w) (suc i)) (cond c (some (suc i)) none)) e ∙ or_none_lem r _

  -- No leaf gives an end by any byte from the place i on.
  abbrev pub Quiet : ℕ → Type 0
  Quiet i = (k : ℕ) → i ≤ k → k < length w → (l : List ℕ) → has_end (afters r (get_or w k 0) l) ≡ false

  quiet_last : (d i : ℕ) (l : List ℕ) → length w ≤ i + d → Quiet i → last_end r l (drop i w) i ≡ none
  quiet_last zero i l h q = last_over i l (omega arith)
  quiet_last (suc d) i l h q = elim (dec_lt i (length w)) [
    | yes g ↦ last_quiet i l g (q i (omega arith) g l) ∙ quiet_last d (suc i) (set_of r (wanted (afters r (get_or w i 0) l))) (omega arith) (λ k a b m. q k (omega arith) b m)
    | no g ↦ last_over i l (omega arith)
  ]

  -- No start from i to k has an end.
  abbrev pub Barren : ℕ → ℕ → Type 0
  Barren i k = (s : ℕ) → i ≤ s → s < k → last_end r (firsts r) (drop s w) s ≡ none

  barren_later : (d i : ℕ) → i + d ≤ length w → Barren i (i + d) → later r (drop i w) i ≡ later r (drop (i + d) w) (i + d)
  barren_later zero i h n = let e : i ≡ i + 0 = omega arith in ap (λ k. later r (drop k w) k) e
  barren_later (suc d) i h n =
      let e : suc i + d ≡ i + suc d = omega arith in
      later_next i (omega arith)
      ∙ ap (λ o. span_or i o (later r (drop (suc i) w) (suc i))) (n i (omega arith) (omega arith))
      ∙ subst (λ k. later r (drop (suc i) w) (suc i) ≡ later r (drop k w) k) e (barren_later d (suc i) (omega arith) (λ s a b. n s (omega arith) (omega arith)))

  pub barren : (i k : ℕ) → i ≤ k → k ≤ length w → Barren i k → later r (drop i w) i ≡ later r (drop k w) k
  barren i k h g n = let e : i + (k - i) ≡ k = omega arith in subst (λ m. later r (drop i w) i ≡ later r (drop m w) m) e (barren_later (k - i) i (omega arith) (λ s a b. n s a (omega arith)))

  -- Starts at bytes that no first leaf takes.
  pub jumped : (i k : ℕ) → i ≤ k → k ≤ length w → ((s : ℕ) → i ≤ s → s < k → (p : ℕ) → T (member p (firsts r)) → has r p (get_or w s 0) ≡ false) → later r (drop i w) i ≡ later r (drop k w) k
  jumped i k h g n = barren i k h g λ s a b. none_here s (omega arith) (afters_none r (get_or w s 0) (firsts r) (n s a b))
    where
      none_here : (s : ℕ) → s < length w → afters r (get_or w s 0) (firsts r) ≡ [] → last_end r (firsts r) (drop s w) s ≡ none
      none_here s h e =
          last_next s (firsts r) h
          ∙ ap (λ o. or_else (last_end r (set_of r (wanted o)) (drop (suc s) w) (suc s)) (cond (has_end o) (some (suc s)) none)) e
          ∙ ap (λ l. or_else (last_end r l (drop (suc s) w) (suc s)) none) (none_set r)
          ∙ ap (λ o. or_else o none) (no_leaves r (drop (suc s) w) (suc s))

  -- Each start from `base` to i has had no end, and what it wants at i is in the set u.
  abbrev pub Held : ℕ → ℕ → List ℕ → Type 0
  Held base i u = (s : ℕ) → base ≤ s → s < i → (l : List ℕ) × Within l u × (last_end r (firsts r) (drop s w) s ≡ last_end r l (drop i w) i)

  pub held_none : (i : ℕ) (u : List ℕ) → Held i i u
  held_none i u s a b = absurd (omega arith)

  quiet_within : (b : ℕ) (l m : List ℕ) → Within l m → has_end (afters r b m) ≡ false → has_end (afters r b l) ≡ false
  quiet_within b l m h e =
      not_true _ λ t.
      let (p, i, u) = any_found (λ p. has_end (after r b p)) l (rw (afters_end r b l) at t) in
      true≢false (sym (T_true _ (any_of (λ p. has_end (after r b p)) m p (h p i) u)) ∙ sym (afters_end r b m) ∙ e)

  -- A byte by which no leaf of v has an end, where v has the leaves of u and the first ones, and u' has what both want next.
  pub held_next : (base i : ℕ) (u v u' : List ℕ) → i < length w → Held base i u → Within u v → Within (firsts r) v → has_end (afters r (get_or w i 0) v) ≡ false
      → Within (set_of r (wanted (afters r (get_or w i 0) u))) u' → Within (set_of r (wanted (afters r (get_or w i 0) (firsts r)))) u' → Held base (suc i) u'
  held_next base i u v u' h held uv fv quiet ku kf s a b = elim (dec_lt s i) [
    | yes g ↦ (let (l, lu, e) = held s a g in (
      set_of r (wanted (afters r (get_or w i 0) l)),
      λ p t. ku p (set_within r (get_or w i 0) l u lu p t),
      e ∙ last_quiet i l h (quiet_within (get_or w i 0) l v (λ p t. uv p (lu p t)) quiet),
    ))
    | no g ↦ (
      set_of r (wanted (afters r (get_or w i 0) (firsts r))),
      kf,
      (let e : s ≡ i = omega arith in ap (λ k. last_end r (firsts r) (drop k w) k) e ∙ last_quiet i (firsts r) h (quiet_within (get_or w i 0) (firsts r) v fv quiet)),
    )
  ]

  -- Where the set is empty, no start before has an end,
  pub held_empty : (base i : ℕ) → base ≤ i → i ≤ length w → Held base i [] → later r (drop base w) base ≡ later r (drop i w) i
  held_empty base i h g held = barren base i h g λ s a b. let (l, e, f) = held s a b in f ∙ go l e
    where
      go : (l : List ℕ) → Within l [] → last_end r l (drop i w) i ≡ none
      go [] e = no_leaves r (drop i w) i
      go (p ∷ l) e = absurd (e p (or_left (eqb p p) (member p l) (eqb_refl p)))

  -- and where no byte gives an end any more, none has.
  pub held_quiet : (base i : ℕ) (u : List ℕ) → base ≤ i → i ≤ length w → Held base i u → Quiet i → later r (drop base w) base ≡ nowhere
  held_quiet base i u h g held q =
      barren base i h g (λ s a b. let (l, e, f) = held s a b in f ∙ quiet_last (length w) i l (omega arith) q)
      ∙ barren i (length w) g (omega arith) (λ s a b. quiet_last (length w) s (firsts r) (omega arith) (λ k c d m. q k (omega arith) d m))
      ∙ later_over (length w) (omega arith)
