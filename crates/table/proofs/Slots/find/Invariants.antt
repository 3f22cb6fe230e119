-- The invariant: the bytes left begin with record k, and the look through their records is the whole look.
use Rattle.std.proofs.Common.{◌≡◌, ℕ, ◌+◌, ◌-◌, ◌*◌, ◌≤◌, min, List, length, take, drop}
use Rattle.std.specs.Slice.Iter.{chunks_exact_rest, chunks_exact_size}
use Rattle.table.specs.Slots.{slot_count}
use Rattle.table.specs.Looks.{look_from, look}
use Rattle.table.proofs.Slots.find.Given as goal

pub record LookingOn (t : List ℕ) (w n : ℕ) (v : List ℕ) (end : ℕ) (u : List ℕ) (size : ℕ) : Type 0 where
  pub k : ℕ
  pub inside : k ≤ end
  pub rest : u ≡ drop (w * k) (take (w * end) t)
  pub width : size ≡ w
  pub least : 13 ≤ w
  pub left : look_from w t (take w v) (end - k) k ≡ look w t (min n (slot_count w (length t))) (take w v)

abbrev pub invariant-loop-record : goal.invariant-loop-record
invariant-loop-record l = LookingOn l.self.bytes.now l.self.width l.n l.v l.end (chunks_exact_rest l.records) (chunks_exact_size l.records)
