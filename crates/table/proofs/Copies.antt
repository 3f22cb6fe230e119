-- A record is copied: into a slot, and out of a slot into 64 zero bytes.
-- Assumes nothing.
use mathlib.Core.Path.{◌≡◌, sym, ap, ap₂, ◌∙◌}
use Prim.Native.Nat.{ℕ, ◌+◌, ◌-◌, ◌*◌, ◌≤◌, ◌<◌}
use mathlib.Core.List.{List, ◌++◌}
use native.Mathlib.Omega.{arith}
use lib.ListN.{length, take, drop, replicate}
use borrow.Rule.Slice.PartMut.{put_mid}
use lib.Seq.{sets-eq, length-take-le, take_all}
use Rattle.std.proofs.lemmas.Slice.{put_mid-paste}
use Rattle.std.proofs.lemmas.List.{drop-replicate}
use Rattle.table.specs.Slots.{slot_count, slot_at, loaded, put}
use Rattle.table.proofs.Laws.{slot_there, slot_fits, slots_width}

module _ (w : ℕ) (t : List ℕ) (k : ℕ) where
  pub load_end : (u : List ℕ) → k + 1 ≤ slot_count w (length t) → u ≡ slot_at w t k → u ++ drop (length u) (replicate 64 0) ≡ loaded w t k
  load_end u h e = ap (λ s. u ++ s) (drop-replicate (length u) 64 0) ∙ ap (λ s. s ++ replicate (64 - length s) 0) e ∙ sym (slot_there w t k _ _ (omega arith))

  pub store_end : (v u : List ℕ) → k < slot_count w (length t) → length v ≡ 64 → u ≡ take w v → put_mid (w * k) (w * k + w - w * k) t u ≡ put w t k v
  store_end v u h size e =
      let (least, most) = slots_width w (length t) k h in
      let long : length (take w v) ≡ w = length-take-le w v (omega arith) in
      put_mid-paste (w * k) (w * k + w - w * k) t u (take w v) w e (omega arith) (omega arith)
      ∙ ap₂ (λ x n. (take (w * k) t ++ x) ++ drop (w * k + n) t) (take_all w (take w v) (omega arith)) (sym long)
      ∙ sym (sets-eq (take w v) t (w * k) (omega (arith, slot_fits w (length t) k h)))
      ∙ sym (slot_there w t k _ _ h)
