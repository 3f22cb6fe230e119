-- What the search says of a pattern.
-- Assumes nothing.
use mathlib.Core.Path.{◌≡◌, sym, ap, ◌∙◌}
use Prim.Native.Nat.{ℕ, zero, suc, ◌<◌}
use mathlib.Core.List.{List, [], ◌∷◌, ◌++◌}
use native.Mathlib.Omega.{arith}
use native.Mathlib.Decide.{ℕ_discrete}
use lib.ListN.{length, length-append, get_or-append}
use lib.Seq.{get_or-append_seam}
use lib.Dec.{T}
use Rattle.theory.specs.Pattern.{Re, Numbered}
use Rattle.theory.specs.Standing.{standing, is_witness}
use Rattle.theory.specs.Code.Next.{next}
use Rattle.theory.specs.Spans.{Span-discrete, greedy, posix, CutDifferently}
use Rattle.theory.specs.Lines.{Below, ◌≺◌}
use Rattle.theory.specs.Code.Search.{Search}
use Rattle.theory.specs.Records.{at, Records, Complete, Alike, Unlike}
use Rattle.theory.proofs.Tests.{either}
use Rattle.theory.proofs.Step.{step}
use Rattle.theory.proofs.Cut.{witness_cut, cut_witness}
use Rattle.theory.proofs.Search.{in_order, distinct, all_covered, trace_bytes}
use Rattle.theory.proofs.Lines.{bytes, ≺_total, below_left, below_right}

module _ (r : Re) (d : Numbered 0 r) where
  -- Each byte carries a standing to the next standing.
  pub carries : (u v : List ℕ) (b : ℕ) → standing r u ≡ standing r v → standing r (u ++ (b ∷ [])) ≡ standing r (v ++ (b ∷ []))
  carries u v b e = step r d u b ∙ ap (λ s. next r s b) e ∙ sym (step r d v b)

  -- The search finds the records,
  pub search_records : {L : List (List ℕ)} {q c : ℕ} → Search r L q c → Records (standing r) L
  search_records t =
      record {
        bytes = λ k l. trace_bytes (standing r) carries 256 t k l;
        before = λ k l v h o. in_order (standing r) carries 256 t k l v (bytes 256 v h) o;
        fresh = λ j k o l. distinct (standing r) carries 256 t j k o l;
      }

  -- and all of them, if it ends.
  pub search_complete : {L : List (List ℕ)} → Search r L (length L) 0 → Complete (standing r) L
  search_complete t v h = let (k, l, e, o) = all_covered (standing r) carries 256 t (bytes 256 v h) in (k, l, e)

  -- NO LINE IS CUT DIFFERENTLY, if the records are complete and none is a witness's.
  pub alike_right : {L : List (List ℕ)} → Alike (standing r) L → (w : List ℕ) → Below 256 w → greedy r w ≡ posix r w
  alike_right {L} a w h = elim (Span-discrete ℕ_discrete (greedy r w) (posix r w)) [ yes e ↦ e | no e ↦ absurd (go (cut_witness r d w e)) ]
    where
      go : (u v t : List ℕ) × (w ≡ u ++ (v ++ t)) × T (is_witness (standing r v)) → ⊥
      go (u, v, t, e, i) =
          let b : Below 256 v = below_left 256 v t (below_right 256 u (v ++ t) (rw e at h)) in
          let (k, l, s) = a.complete v b in
          a.none k l (rw s i)

  -- A witness's line is cut differently, and no line before the first witness is a witness.
  pub unlike_right : {L : List (List ℕ)} {w : List ℕ} → Unlike (standing r) L w → CutDifferently r w
  unlike_right a = witness_cut r _ a.witness

  pub unlike_first : {L : List (List ℕ)} {w : List ℕ} → Unlike (standing r) L w → (v : List ℕ) → Below 256 v → v ≺ w → T (is_witness (standing r v)) → ⊥
  unlike_first {L} {w} a v h o i =
      let end : at (L ++ (w ∷ [])) (length L) ≡ w = get_or-append_seam L w [] [] in
      let size : length L < length (L ++ (w ∷ [])) = omega (arith, length-append L (w ∷ [])) in
      let (j, l, e) = a.records.before (length L) size v h (rw end o) in
      a.none j l (rw (← get_or-append L (w ∷ []) [] j l, e) i)

  -- There is one list of records: two that have line k have the same one.
  pub unique : {L M : List (List ℕ)} → Records (standing r) L → Records (standing r) M → (e k : ℕ) → k < e → k < length L → k < length M → at L k ≡ at M k
  unique a b zero k h l m = absurd (omega arith)
  unique {L} {M} a b (suc e) k h l m =
      either (λ o. absurd (clash a b (λ j i. unique a b e j (omega arith) (omega arith) (omega arith)) l m o))
      (λ t. either (λ o. o) (λ o. absurd (clash b a (λ j i. sym (unique a b e j (omega arith) (omega arith) (omega arith))) m l o)) t)
      (≺_total (at L k) (at M k))
    where
      clash : {L M : List (List ℕ)} → Records (standing r) L → Records (standing r) M → ((j : ℕ) → j < k → at L j ≡ at M j) → k < length L → k < length M → at L k ≺ at M k → ⊥
      clash {L} {M} a b same l m o =
          let (j, i, s) = b.before k m (at L k) (a.bytes k l) o in
          a.fresh j k i l (ap (standing r) (same j i) ∙ s)
