-- The origin fields of the records lead back to the line: record k's line is that of its origin record with its origin byte added.
-- Assumes nothing.
use mathlib.Core.Path.{◌≡◌, refl, sym, subst}
use Prim.Native.Nat.{ℕ, ◌<◌}
use mathlib.Core.List.{List, [], ◌∷◌, ◌++◌}
use native.Mathlib.Omega.{arith}
use native.Mathlib.Decide.{dec_lt}
use lib.ListN.{length}
use Rattle.theory.specs.Pattern.{Re, Numbered}
use Rattle.theory.specs.Standing.{standing}
use Rattle.theory.specs.Lines.{◌≺◌}
use Rattle.theory.specs.Records.{at}
use Rattle.theory.specs.Code.Search.{Search}
use Rattle.theory.proofs.Search.{origin, increasing}
use Rattle.theory.proofs.Lines.{≺_irrefl, ≺_trans}
use Rattle.theory.proofs.Records.{carries, search_records}
use Rattle.verdict.specs.Record.{Form, record_bytes}
use Rattle.verdict.specs.Table.{record_of}
use Rattle.verdict.proofs.Tables.{record_is, snoc_after}

module _ (f : Form) (r : Re) (d : Numbered 0 r) where
  pub came_from : {L : List (List ℕ)} {q c : ℕ} → Search r L q c → (k : ℕ) → 0 < k → k < length L
      → (j b : ℕ) × (j < k) × (b < 256) × (at L k ≡ at L j ++ (b ∷ [])) × (record_of f (standing r) L (at L k) ≡ record_bytes f (standing r (at L k)) j b)
  came_from {L} {q} {c} t k p l =
      let (j, b, a, x, y, z) = origin (standing r) (carries r d) 256 t k p l in
      (j, b, sooner j b z x, y, z, subst (λ w. record_of f (standing r) L w ≡ record_bytes f (standing r w) j b) (sym z) (record_is f r (search_records r d t) (at L j) b j x refl))
    where
      sooner : (j b : ℕ) → at L k ≡ at L j ++ (b ∷ []) → j < length L → j < k
      sooner j b z x =
          let o : at L j ≺ at L k = subst (λ w. at L j ≺ w) (sym z) (snoc_after (at L j) b) in
          elim (dec_lt j k) [
            | yes h ↦ h
            | no h ↦ elim (dec_lt k j) [
              | yes g ↦ absurd (≺_irrefl (at L k) (≺_trans (at L k) (at L j) (at L k) (increasing (standing r) (carries r d) 256 t k j g x) o))
              | no g ↦ (let s : j ≡ k = omega arith in absurd (≺_irrefl (at L k) (subst (λ n. at L n ≺ at L k) s o)))
            ]
          ]
