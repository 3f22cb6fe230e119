-- The masks of a pattern and its follow tables are those that are lent for it.
-- Assumes nothing.
use mathlib.Core.Path.{sym, subst}
use Prim.Native.Nat.{◌≤◌}
use Rattle.theory.specs.Pattern.{count, Numbered}
use Rattle.arrays.specs.declared.Pattern.{Pattern}
use Rattle.arrays.specs.Decoded.{decode}
use Rattle.arrays.specs.Finished.{HoldsPattern}
use Rattle.arrays.proofs.Laws.{masks_hold}
use Rattle.follow.specs.declared.Tables.{Tables}
use Rattle.follow.specs.Rows.{Right}
use Rattle.standing.specs.Stands.{arrays, Lent}

pub lent : (x : Pattern) (t : Tables) → Right (decode x) t → Numbered 0 (decode x) → count (decode x) ≤ 64 → HoldsPattern x (decode x)
    → Lent (decode x) (arrays x.masks t.rows t.lens t.sets t.ends)
lent x t f n m h = record {
  numbered = n;
  most = m;
  follows = f n m;
  masked = masks_hold x n;
  spare = λ b p l k. h.spare b p l (subst (λ c. c ≤ p) (sym h.leaves) k);
}
