-- Source 000, Proposition 30: a pattern is alike if no matched string extends to a longer matched one.
-- A line cut differently holds a witness, a matched string whose preferred end is not its last; what ends there is matched too, and extends to the witness.
-- Assumes nothing.
use mathlib.Core.Path.{◌≡◌, sym, ap, ◌∙◌, subst}
use mathlib.Core.Logic.{◌≢◌}
use Prim.Native.Nat.{ℕ, suc, ◌<◌}
use mathlib.Core.Bool.{not}
use mathlib.Core.List.{List, [], ◌∷◌, ◌++◌}
use native.Mathlib.Omega.{arith}
use native.Mathlib.Decide.{ℕ_discrete}
use lib.ListN.{length, take, drop, get_or, take-append-drop}
use lib.Seq.{drop-cons}
use lib.Dec.{T, eqb, eqb_refl, T_not}
use Rattle.theory.specs.Pattern.{Re, Numbered}
use Rattle.theory.specs.Outcomes.{Outcome, ends_at, wants, outcomes}
use Rattle.theory.specs.Standing.{first_is, some_is, standing, is_witness}
use Rattle.theory.specs.Spans.{Span-discrete, greedy, posix, CutDifferently}
use Rattle.theory.specs.Lines.{Below}
use Rattle.theory.proofs.Tests.{or_left, and_split}
use Rattle.theory.proofs.Outcomes.{some_in}
use Rattle.theory.proofs.Equations.{outcomes_all}
use Rattle.theory.proofs.Matching.{ends_match}
use Rattle.theory.proofs.Lines.{below_left, below_right}
use Rattle.theory.proofs.Cut.{cut_witness}
use Rattle.extends.specs.Extends.{Extends, NoneExtends}
use Rattle.extends.proofs.Prefix.{match_take}

-- A list that has an end has a first one.
first_of : (n : ℕ) (l : List (Outcome ℕ)) → T (some_is n l) → (k : ℕ) × T (first_is k l) × T (some_is k l)
first_of n [] t = absurd t
first_of n (ends_at k ∷ l) t = (k, eqb_refl k, or_left (eqb k k) (some_is k l) (eqb_refl k))
first_of n (wants p ∷ l) t = first_of n l t

module _ (r : Re) where
  -- A witness is a longer matched string.
  pub witness_extends : (v : List ℕ) → Below 256 v → T (is_witness (standing r v)) → (u : List ℕ) × (b : ℕ) × (t : List ℕ) × Extends r u b t
  unfolding standing
  witness_extends v w t =
      let l = outcomes r v 0 in
      let (s, n) = and_split (some_is (length v) l) (not (first_is (length v) l)) t in
      let (k, f, e) = first_of (length v) l s in
      let other : k ≢ length v = λ q. T_not (first_is (length v) l) n (subst (λ x. T (first_is x l)) q f) in
      let inside = some_in (outcomes_all r v 0) k e in
      let less : k < length v = omega arith in
      let whole : take k v ++ (get_or v k 0 ∷ drop (suc k) v) ≡ v = ap (λ x. take k v ++ x) (sym (drop-cons v k 0 less)) ∙ take-append-drop k v in (
        take k v,
        get_or v k 0,
        drop (suc k) v,
        record {
          bytes = rw whole w;
          matched = match_take k (omega arith) (ends_match v r 0 k e);
          longer = rw whole (ends_match v r 0 (length v) s);
        },
      )

  -- NO LINE IS CUT DIFFERENTLY if no matched string extends to a longer matched one.
  pub none_cut : Numbered 0 r → NoneExtends r → (w : List ℕ) → Below 256 w → CutDifferently r w → ⊥
  none_cut d n w h e =
      let (u, v, t, s, i) = cut_witness r d w e in
      let b = below_left 256 v t (below_right 256 u (v ++ t) (subst (Below 256) s h)) in
      let (x, y, z, q) = witness_extends v b i in
      n x y z q

  pub same_spans : Numbered 0 r → NoneExtends r → (w : List ℕ) → Below 256 w → greedy r w ≡ posix r w
  same_spans d n w h = elim (Span-discrete ℕ_discrete (greedy r w) (posix r w)) [ yes e ↦ e | no e ↦ absurd (none_cut d n w h e) ]
