-- The list of a part from its head on: from the rows by the bytes of the rest of the line.
-- Assumes nothing.
use mathlib.Core.Path.{◌≡◌, sym, ap, ap₂, ◌∙◌}
use Prim.Native.Nat.{ℕ, suc, ◌+◌, ◌≤◌}
use mathlib.Core.List.{List, [], ◌∷◌, ◌++◌, append-nil, append_assoc}
use native.Mathlib.Omega.{arith}
use lib.ListN.{length, take, drop, length-append, take-append-drop}
use lib.Seq.{length-take-le}
use Rattle.theory.specs.Pattern.{Re, Numbered}
use Rattle.traces.specs.Traces.{Mark, Carried, end, replace, carried}
use Rattle.traces.specs.Code.Rows.{start, after, runs}
use Rattle.traces.proofs.Lists.{replace_replace}
use Rattle.traces.proofs.Extend.{grow, extend, carried_end}

-- A list from its end.
data Back : List ℕ → Type 0 where
  nil : Back []
  snoc : {u : List ℕ} (b : ℕ) → Back u → Back (u ++ (b ∷ []))

back_cons : {a : ℕ} {u : List ℕ} → Back u → Back (a ∷ u)
back_cons {a = a} nil = snoc {u = []} a nil
back_cons {a = a} (snoc {u = u} b c) = snoc {u = a ∷ u} b (back_cons c)

back : (u : List ℕ) → Back u
back [] = nil
back (a ∷ u) = back_cons (back u)

module _ {C : Type 0} (mark : Mark → C → C) (r : Re) where
  -- A line that grows by a byte, from its head on.
  runs_snoc : (b : ℕ) (rest : List ℕ) (l : List (Carried C)) (i : ℕ) → runs mark r l (rest ++ (b ∷ [])) i ≡ grow mark r b (i + length rest) (runs mark r l rest i)
  unfolding runs grow
  runs_snoc b [] l i = let e : i + 0 ≡ i = omega arith in rw e
  runs_snoc b (c ∷ rest) l i =
      let e : i + suc (length rest) ≡ suc i + length rest = omega arith in
      rw e
      ((λ j. replace end (λ p v. runs_snoc b rest (after mark r c p (suc i) v) (suc i) j) l)
      ∙ sym (replace_replace end (λ p v. runs mark r (after mark r c p (suc i) v) rest (suc i)) end (λ p v. after mark r b p (suc (suc i + length rest)) v) l))

  module _ (d : Numbered 0 r) (v : C) where
    head_back : (u : List ℕ) {rest : List ℕ} → Back rest → carried mark r (u ++ rest) (length u) v ≡ runs mark r (start mark r (length u) v) rest (length u)
    unfolding runs
    head_back u nil = rw append-nil (carried_end mark r u v)
    head_back u (snoc {u = rest} b c) =
        ap (λ w. carried mark r w (length u) v) (sym (append_assoc u rest (b ∷ [])))
        ∙ extend mark (u ++ rest) b r 0 d (length u) v (omega (arith, length-append u rest))
        ∙ ap₂ (grow mark r b) (length-append u rest) (head_back u c)
        ∙ sym (runs_snoc b rest (start mark r (length u) v) (length u))

    -- The head form.
    pub head : (w : List ℕ) (i : ℕ) → i ≤ length w → carried mark r w i v ≡ runs mark r (start mark r i v) (drop i w) i
    head w i h =
        let size : length (take i w) ≡ i = length-take-le i w h in
        ap (λ w. carried mark r w i v) (sym (take-append-drop i w)) ∙ (rw size at (head_back (take i w) (back (drop i w))))
