-- Source 000's denotations (its Definition 4): the POSIX one is the POSIX span; the greedy one is the span by paper 01's list before the requests, which for a plain
-- pattern is the greedy span.
-- Assumes nothing.
use mathlib.Core.Path.{◌≡◌, refl, sym, ◌∙◌, subst}
use mathlib.Core.Logic.{inl, inr, ◌≢◌, ◌↔◌}
use Prim.Native.Nat.{ℕ, zero, suc, ◌+◌, ◌≤◌, ◌<◌}
use mathlib.Core.List.Memᴰ
use mathlib.Core.List.Memᴰ.{head}
use mathlib.Core.List.{List, [], ◌∷◌}
use mathlib.Core.Option.{Option, none, some}
use native.Mathlib.Omega.{arith}
use native.Mathlib.Decide.{ℕ_discrete, dec_lt}
use lib.ListN.{length}
use Rattle.theory.specs.Pattern.{Re}
use Rattle.theory.specs.Outcomes.{Outcome, ends_at, wants, outcomes}
use Rattle.theory.specs.Matching.{Matches}
use Rattle.theory.specs.Spans.{first_end, greatest_end, Span, nowhere, span, span_or, leftmost, greedy_by, greedy, posix, CutDifferently}
use Rattle.theory.specs.Base.{base, Plain}
use Rattle.theory.specs.Lines.{Below}
use Rattle.theory.specs.Preference.{Prefer, MatchSet, FromLeft, Greedy, Posix, Denotes, LeastEnd, Robust}
use Rattle.theory.proofs.Tests.{either}
use Rattle.theory.proofs.Equations.{outcomes_all}
use Rattle.theory.proofs.Outcomes.{ends, some_in}
use Rattle.theory.proofs.Matching.{ends_match, match_ends}
use Rattle.theory.proofs.Cut.{Greatest, greatest}
use Rattle.theory.proofs.Unmoved.{plain_base, plain_greedy}
use Rattle.theory.proofs.Ranked.{now, Ranks}
use Rattle.theory.proofs.Preference.{in_order}
use Rattle.theory.proofs.Linear.{asym}

first_of : {M : ℕ → Type 0} {Less : ℕ → ℕ → Type 0} (l : List (Outcome ℕ)) → Ranks M Less (ends l) → LeastEnd M Less (first_end l)
first_of [] r = λ j m. Memᴰ.not-nil (r.complete j m)
first_of (ends_at k ∷ l) r = (r.sound k (head refl), λ j m. elim (ℕ_discrete j k) [ yes e ↦ inl e | no n ↦ inr (r.sorted k j (now refl n) (r.complete j m)) ])
first_of (wants p ∷ l) r = first_of l r

module _ (r : Re) (w : List ℕ) where
  base_least : (i : ℕ) → LeastEnd (Matches w r i) (Prefer w r i) (first_end (base r w i))
  base_least i = first_of (base r w i) (in_order w r i)

  -- THE FIRST END IS THE PREFERRED by source 000's order, if the pattern is plain; and the greatest is the longest.
  pub first_least : Plain r → (i : ℕ) → LeastEnd (Matches w r i) (Prefer w r i) (first_end (outcomes r w i))
  first_least p i = rw (plain_base w r p i) (base_least i)

  pub greatest_least : (i : ℕ) → LeastEnd (Matches w r i) (λ j k. k < j) (greatest_end (outcomes r w i))
  greatest_least i = go (greatest_end (outcomes r w i)) (greatest (outcomes r w i))
    where
      go : (o : Option ℕ) → Greatest o (outcomes r w i) → LeastEnd (Matches w r i) (λ j k. k < j) o
      go none h = λ j m. some_in h j (match_ends w m)
      go (some m) h = (
        ends_match w r i m h.1,
        λ k n. let b = some_in h.0 k (match_ends w n) in elim (ℕ_discrete k m) [ yes e ↦ inl e | no e ↦ inr (omega arith) ],
      )

  within : {i j : ℕ} → i ≤ length w → Matches w r i j → MatchSet w r i j
  within {i} {j} h m = let b = some_in (outcomes_all r w i) j (match_ends w m) in (omega arith, omega arith, m)

  -- The least end of the leftmost start is the least location.
  module _ (Less : ℕ → ℕ → ℕ → Type 0) (e : ℕ → Option ℕ) (h : (i : ℕ) → LeastEnd (Matches w r i) (Less i) (e i)) where
    least_location : (d i : ℕ) → i + d ≡ suc (length w) → ((i' j' : ℕ) → i' < i → MatchSet w r i' j' → ⊥) → Denotes (MatchSet w r) (FromLeft Less) (leftmost e d i)
    least_location zero i a n = λ i' j' m. n i' j' (omega arith) m
    least_location (suc d) i a n = go (least_location d (suc i) (omega arith)) (e i) (h i)
      where
        go : (((i' j' : ℕ) → i' < suc i → MatchSet w r i' j' → ⊥) → Denotes (MatchSet w r) (FromLeft Less) (leftmost e d (suc i)))
            → (o : Option ℕ) → LeastEnd (Matches w r i) (Less i) o → Denotes (MatchSet w r) (FromLeft Less) (span_or i o (leftmost e d (suc i)))
        go below none c = below (λ i' j' l m. elim (ℕ_discrete i' i) [ yes q ↦ c j' (subst (λ z. Matches w r z j') q m.2) | no q ↦ n i' j' (omega arith) m ])
        go below (some j) c = (
          within (omega arith) c.0,
          λ i' j' m.
              elim (ℕ_discrete i' i) [
                | yes q ↦ either (λ t. inl (q, t)) (λ t. inr (inr (sym q, t))) (c.1 j' (subst (λ z. Matches w r z j') q m.2))
                | no q ↦ elim (dec_lt i i') [ yes l ↦ inr (inl l) | no l ↦ absurd (n i' j' (omega arith) m) ]
              ],
        )

  pub base_denoted : Denotes (MatchSet w r) (Greedy w r) (greedy_by base r w)
  base_denoted = least_location (Prefer w r) (λ i. first_end (base r w i)) base_least (suc (length w)) 0 (omega arith) (λ i j h m. omega arith)

  pub greedy_denoted : Plain r → Denotes (MatchSet w r) (Greedy w r) (greedy r w)
  greedy_denoted p = rw (plain_greedy r p w) base_denoted

  pub posix_denoted : Denotes (MatchSet w r) Posix (posix r w)
  unfolding posix
  posix_denoted = least_location (λ i j k. k < j) (λ i. greatest_end (outcomes r w i)) greatest_least (suc (length w)) 0 (omega arith) (λ i j h m. omega arith)

-- One location is least, if the order at each start goes one way.
module _ (M : ℕ → ℕ → Type 0) (Less : ℕ → ℕ → ℕ → Type 0) (one_way : (i j k : ℕ) → Less i j k → Less i k j → ⊥) where
  not_both : (i j i' j' : ℕ) → FromLeft Less i j i' j' → FromLeft Less i' j' i j → ⊥
  not_both i j i' j' (inl l) (inl m) = omega arith
  not_both i j i' j' (inl l) (inr m) = omega arith
  not_both i j i' j' (inr l) (inl m) = omega arith
  not_both i j i' j' (inr (e, l)) (inr (e', m)) = one_way i j j' l (subst (λ z. Less z j' j) e' m)

  one_location : (s t : Span) → Denotes M (FromLeft Less) s → Denotes M (FromLeft Less) t → s ≡ t
  one_location nowhere nowhere a b = refl
  one_location nowhere (span i j) a b = absurd (a i j b.0)
  one_location (span i j) nowhere a b = absurd (b i j a.0)
  one_location (span i j) (span i' j') a b =
      either (λ (e, f). cc) (λ l. either (λ (e, f). cc) (λ m. absurd (not_both i j i' j' l m)) (b.1 i j a.0)) (a.1 i' j' b.0)

module _ (r : Re) (w : List ℕ) where
  -- s is source 000's denotation just if it is the span: the greedy one by the list as it was,
  pub base_denotation : (s : Span) → Denotes (MatchSet w r) (Greedy w r) s ↔ (s ≡ greedy_by base r w)
  base_denotation s = (
    λ a. one_location (MatchSet w r) (Prefer w r) (asym w r) s (greedy_by base r w) a (base_denoted r w),
    λ e. subst (Denotes (MatchSet w r) (Greedy w r)) (sym e) (base_denoted r w),
  )

  pub greedy_denotation : Plain r → (s : Span) → Denotes (MatchSet w r) (Greedy w r) s ↔ (s ≡ greedy r w)
  greedy_denotation p s = rw (plain_greedy r p w) (base_denotation s)

  pub posix_denotation : (s : Span) → Denotes (MatchSet w r) Posix s ↔ (s ≡ posix r w)
  posix_denotation s = (
    λ a. one_location (MatchSet w r) (λ i j k. k < j) (λ i j k l m. omega arith) s (posix r w) a (posix_denoted r w),
    λ e. subst (Denotes (MatchSet w r) Posix) (sym e) (posix_denoted r w),
  )

  -- A line is cut differently by a plain pattern just if its two denotations differ.
  pub cut_denotations : Plain r → CutDifferently r w ↔ ((s t : Span) → Denotes (MatchSet w r) (Greedy w r) s → Denotes (MatchSet w r) Posix t → s ≢ t)
  cut_denotations d = (
    λ c s t p q e. c (sym ((greedy_denotation d s).0 p) ∙ e ∙ (posix_denotation t).0 q),
    λ h. h (greedy r w) (posix r w) (greedy_denoted r w d) (posix_denoted r w),
  )

-- Robust as the paper has it, and by the spans.
pub robust : (n : ℕ) (r : Re) → Plain r → Robust n r ↔ ((w : List ℕ) → Below n w → greedy r w ≡ posix r w)
robust n r d = (
  λ h w b. h w b (greedy r w) (posix r w) (greedy_denoted r w d) (posix_denoted r w),
  λ h w b s t p q. (greedy_denotation r w d s).0 p ∙ h w b ∙ sym ((posix_denotation r w t).0 q),
)
