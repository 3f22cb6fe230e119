-- What a state will answer: the first block, in order of start, whose leaves lead to an end, with its last end; and the step keeps that.
-- Assumes nothing.
use mathlib.Core.Path.{◌≡◌, refl, sym, ap, ap₂, ◌∙◌}
use mathlib.Core.Logic.{◌⊎◌, inl, inr}
use Prim.Native.Nat.{ℕ, zero, suc}
use mathlib.Core.Bool.{Bool, true, false, not, cond, true≢false}
use mathlib.Core.List.{List, [], ◌∷◌, ◌++◌, append-nil}
use mathlib.Core.Option.{Option, none, some}
use native.Mathlib.Omega.{arith}
use lib.Dec.{T}
use Rattle.theory.specs.Pattern.{Re, count}
use Rattle.theory.specs.Spans.{Span, nowhere, span, span_or}
use Rattle.theory.specs.Standing.{wanted, member, filter, set_of, from}
use Rattle.theory.specs.Code.Follow.{has_end, after}
use Rattle.theory.specs.Code.Next.{afters}
use Rattle.theory.specs.Code.Members.{any}
use Rattle.theory.proofs.Tests.{T_true, true_T, same_test, or_left, or_cases, either}
use Rattle.theory.proofs.Members.{any_found, any_of, Within, member_append, filter_of, filter_passes, filter_in}
use Rattle.theory.proofs.Step.{afters_member, afters_end}
use Rattle.blocks.specs.Blocks.{Block, State, carried, keep, onto, carry, opening, step}
use Rattle.blocks.specs.Answer.{or_else, last_end, first_of, later, unless, answer}

-- Sets.
some_not_none : {k : ℕ} → some k ≡ none → ⊥
some_not_none e = let w : ◌≡◌ {A = ℕ} 0 1 = ap (elim [ none ↦ 1 | some k ↦ 0 ]) e in omega arith

module _ (r : Re) (b : ℕ) where
  -- A set's leaves after a byte, by members.
  set_of_lem : (l m : List ℕ) (q : ℕ) → T (member q (set_of r l)) → T (member q m) → T (member q (set_of r m))
  set_of_lem l m q t u = filter_of (λ p. member p m) (from 0 (count r)) q u (filter_in (λ p. member p l) (from 0 (count r)) q t)

  carried_found : (l : List ℕ) (q : ℕ) → T (member q (wanted (afters r b l))) → (p : ℕ) × T (member p l) × T (member q (wanted (after r b p)))
  carried_found l q t = any_found (λ p. member q (wanted (after r b p))) l (rw (afters_member r b q l) at t)

  carried_of : (l : List ℕ) (q p : ℕ) → T (member p l) → T (member q (wanted (after r b p))) → T (member q (wanted (afters r b l)))
  carried_of l q p m t = rw (afters_member r b q l) (any_of (λ p. member q (wanted (after r b p))) l p m t)

  pub set_within : (l m : List ℕ) → Within l m → Within (set_of r (wanted (afters r b l))) (set_of r (wanted (afters r b m)))
  set_within l m h q t =
      let (p, i, u) = carried_found l q (filter_passes (λ p. member p (wanted (afters r b l))) (from 0 (count r)) q t) in
      set_of_lem (wanted (afters r b l)) (wanted (afters r b m)) q t (carried_of m q p (h p i) u)

pub none_set : (r : Re) → set_of r [] ≡ []
none_set r = go 0 (count r)
  where
    go : (n d : ℕ) → filter (λ p. false) (from n d) ≡ []
    go n zero = refl
    go n (suc d) = go (suc n) d

-- Each leaf of l is in m or in n.
abbrev pub Covered : List ℕ → List ℕ → List ℕ → Type 0
Covered l m n = (p : ℕ) → T (member p l) → T (member p m) ⊎ T (member p n)

module _ (r : Re) where
  none_parts : (o : Option ℕ) (c : Bool) (k : ℕ) → or_else o (cond c (some k) none) ≡ none → (o ≡ none) × (c ≡ false)
  none_parts none true k e = absurd (some_not_none e)
  none_parts none false k e = (refl, refl)
  none_parts (some m) c k e = absurd (some_not_none e)

  -- LEAVES THAT LEAD TO NO END MAY GO.
  pub cover : (rest : List ℕ) (j : ℕ) (l m n : List ℕ) → Within m l → Covered l m n → last_end r n rest j ≡ none → last_end r l rest j ≡ last_end r m rest j
  unfolding last_end
  cover [] j l m n g h e = refl
  cover (b ∷ rest) j l m n g h e =
      let (dead, quiet) = none_parts (last_end r (set_of r (wanted (afters r b n))) rest (suc j)) (has_end (afters r b n)) (suc j) e in
      ap₂ or_else
      (cover rest (suc j) (set_of r (wanted (afters r b l))) (set_of r (wanted (afters r b m))) (set_of r (wanted (afters r b n))) (set_within r b m l g) carried_on dead)
      (ap (λ c. cond c (some (suc j)) none) (same quiet))
    where
      carried_on : Covered (set_of r (wanted (afters r b l))) (set_of r (wanted (afters r b m))) (set_of r (wanted (afters r b n)))
      carried_on q t =
          let (p, i, u) = carried_found r b l q (filter_passes (λ p. member p (wanted (afters r b l))) (from 0 (count r)) q t) in
          either
          (λ x. inl (set_of_lem r b (wanted (afters r b l)) (wanted (afters r b m)) q t (carried_of r b m q p x u)))
          (λ x. inr (set_of_lem r b (wanted (afters r b l)) (wanted (afters r b n)) q t (carried_of r b n q p x u)))
          (h p i)

      same : has_end (afters r b n) ≡ false → has_end (afters r b l) ≡ has_end (afters r b m)
      same quiet =
          rw (afters_end r b l, afters_end r b m)
          (same_test (any (λ p. has_end (after r b p)) l) (any (λ p. has_end (after r b p)) m)
          (λ t. let (p, i, u) = any_found (λ p. has_end (after r b p)) l t in
          either (λ x. any_of (λ p. has_end (after r b p)) m p x u)
          (λ x. absurd (true≢false (sym (T_true (any (λ p. has_end (after r b p)) n) (any_of (λ p. has_end (after r b p)) n p x u)) ∙ sym (afters_end r b n) ∙ quiet)))
          (h p i))
          (λ t. let (p, i, u) = any_found (λ p. has_end (after r b p)) m t in any_of (λ p. has_end (after r b p)) l p (g p i) u))

  pub no_leaves : (rest : List ℕ) (j : ℕ) → last_end r [] rest j ≡ none
  unfolding last_end
  no_leaves [] j = refl
  no_leaves (b ∷ rest) j = rw (none_set r) (ap (λ o. or_else o none) (no_leaves rest (suc j)))

  -- Leaves of two sets that lead to no end.
  both_none : (rest : List ℕ) (j : ℕ) (l m : List ℕ) → last_end r l rest j ≡ none → last_end r m rest j ≡ none → last_end r (l ++ m) rest j ≡ none
  both_none rest j l m e f =
      cover rest j (l ++ m) l m
      (λ p t. rw (member_append p l m) (or_left (member p l) (member p m) t))
      (λ p t. or_cases (member p l) (member p m) (rw (member_append p l m) at t)) f
      ∙ e

  -- A leaf that a set without an end has taken leads to no end.
  carried_same : (rest : List ℕ) (j : ℕ) (b : ℕ) (taken l : List ℕ) → last_end r taken rest j ≡ none → last_end r (set_of r (wanted (afters r b l))) rest j ≡ last_end r (carried r b taken l) rest j
  carried_same rest j b taken l e =
      cover rest j (set_of r (wanted (afters r b l))) (carried r b taken l) taken
      (filter_in (λ p. not (member p taken)) (set_of r (wanted (afters r b l))))
      (λ p t. go p t (member p taken) refl) e
    where
      go : (p : ℕ) → T (member p (set_of r (wanted (afters r b l)))) → (c : Bool) → member p taken ≡ c → T (member p (carried r b taken l)) ⊎ T (member p taken)
      go p t true x = inr (true_T (member p taken) x)
      go p t false x = inl (filter_of (λ q. not (member q taken)) (set_of r (wanted (afters r b l))) p (rw x tt) t)

  -- What the blocks answer.
  first_of_append : (rest : List ℕ) (j : ℕ) (l m : List Block) (s : Span) → first_of r rest j (l ++ m) s ≡ first_of r rest j l (first_of r rest j m s)
  first_of_append rest j [] m s = refl
  first_of_append rest j (x ∷ l) m s = ap (span_or x.from (last_end r x.leaves rest j)) (first_of_append rest j l m s)

  pub first_of_keep : (rest : List ℕ) (j i : ℕ) (l : List ℕ) (s : Span) → first_of r rest j (keep i l) s ≡ span_or i (last_end r l rest j) s
  first_of_keep rest j i [] s = rw (no_leaves rest j)
  first_of_keep rest j i (p ∷ l) s = refl

  pub first_of_end : (j : ℕ) (l : List Block) (s : Span) → first_of r [] j l s ≡ s
  unfolding last_end
  first_of_end j [] s = refl
  first_of_end j (x ∷ l) s = first_of_end j l s

  -- The blocks carried on by a byte answer what they answered, if what is taken leads to no end.
  carry_answer : (b : ℕ) (rest : List ℕ) (j : ℕ) (best : Span) (taken : List ℕ) (l : List Block) → last_end r taken rest (suc j) ≡ none
      → answer r rest (suc j) (carry r b j best taken l) ≡ first_of r (b ∷ rest) j l (unless r rest (suc j) best)
  unfolding carry last_end
  carry_answer b rest j best taken [] e = refl
  carry_answer b rest j best taken (x ∷ l) e =
      go (has_end (afters r b x.leaves)) refl (last_end r set rest (suc j)) refl (carry_answer b rest j best (taken ++ set) l)
    where
      set : List ℕ
      set = carried r b taken x.leaves

      on : State
      on = carry r b j best (taken ++ set) l

      closed : State
      closed = record { blocks = keep x.from set; best = span x.from (suc j) }

      full : (c : Bool) (o : Option ℕ) → has_end (afters r b x.leaves) ≡ c → last_end r set rest (suc j) ≡ o → last_end r x.leaves (b ∷ rest) j ≡ or_else o (cond c (some (suc j)) none)
      full c o u v = ap₂ or_else (carried_same rest (suc j) b taken x.leaves e ∙ v) (ap (λ c. cond c (some (suc j)) none) u)

      kept : (m : List Block) (s : Span) (o : Option ℕ) → last_end r set rest (suc j) ≡ o → first_of r rest (suc j) (keep x.from set ++ m) s ≡ span_or x.from o (first_of r rest (suc j) m s)
      kept m s o v =
          first_of_append rest (suc j) (keep x.from set) m s
          ∙ first_of_keep rest (suc j) x.from set (first_of r rest (suc j) m s)
          ∙ ap (λ o. span_or x.from o (first_of r rest (suc j) m s)) v

      alone : (o : Option ℕ) → last_end r set rest (suc j) ≡ o → answer r rest (suc j) closed ≡ span_or x.from o (span x.from (suc j))
      alone o v = ap (λ m. first_of r rest (suc j) m (span x.from (suc j))) (sym (append-nil (keep x.from set))) ∙ kept [] (span x.from (suc j)) o v

      go : (c : Bool) → has_end (afters r b x.leaves) ≡ c → (o : Option ℕ) → last_end r set rest (suc j) ≡ o
          → (last_end r (taken ++ set) rest (suc j) ≡ none → answer r rest (suc j) on ≡ first_of r (b ∷ rest) j l (unless r rest (suc j) best))
          → answer r rest (suc j) (cond c closed (onto (keep x.from set) on)) ≡ span_or x.from (last_end r x.leaves (b ∷ rest) j) (first_of r (b ∷ rest) j l (unless r rest (suc j) best))
      go true u none v below = rw (full true none u v) (alone none v)
      go true u (some k) v below = rw (full true (some k) u v) (alone (some k) v)
      go false u none v below = rw (full false none u v) (kept on.blocks (unless r rest (suc j) on.best) none v ∙ below (both_none rest (suc j) taken set e v))
      go false u (some k) v below = rw (full false (some k) u v) (kept on.blocks (unless r rest (suc j) on.best) (some k) v)

  -- THE STEP KEEPS WHAT A STATE WILL ANSWER.
  pub step_answer : (b : ℕ) (rest : List ℕ) (j : ℕ) (s : State) → answer r rest (suc j) (step r b j s) ≡ answer r (b ∷ rest) j s
  unfolding step later
  step_answer b rest j s =
      carry_answer b rest j s.best [] (s.blocks ++ opening r j s.best) (no_leaves rest (suc j))
      ∙ first_of_append (b ∷ rest) j s.blocks (opening r j s.best) (unless r rest (suc j) s.best)
      ∙ ap (first_of r (b ∷ rest) j s.blocks) (go s.best)
    where
      go : (o : Span) → first_of r (b ∷ rest) j (opening r j o) (unless r rest (suc j) o) ≡ unless r (b ∷ rest) j o
      go nowhere = refl
      go (span i k) = refl
