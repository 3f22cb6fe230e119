-- The slots of a table of any length, of w bytes each: the width of a record is an argument here, and chosen nowhere.
-- Assumes nothing.
use Rattle.std.specs.Prelude.{ℕ, ◌+◌, ◌*◌, ◌/◌, cond, List, length, get_or, take, drop, replicate, ltb}
use Rattle.std.proofs.lemmas.List.Edits.{sets}
use Rattle.verdict.specs.Code.Held.{held}

-- How many slots n bytes have. A record has at least the 13 bytes before its leaf numbers, and code holds it in 64: for another width there is no slot.
abbrev pub slot_count : ℕ → ℕ → ℕ
slot_count w n = cond (ltb w 13) 0 (cond (ltb 64 w) 0 (n / w))

-- The bytes of slot k.
abbrev pub slot_at : ℕ → List ℕ → ℕ → List ℕ
slot_at w t k = take w (drop (w * k) t)

-- x where the table has a slot k, else y.
abbrev pub if_slot : {A : Type 0} → ℕ → List ℕ → ℕ → A → A → A
if_slot w t k x y = cond (ltb k (slot_count w (length t))) x y

-- The table with the record that v begins with in slot k, every other byte kept. Where there is no slot k, all are.
abbrev pub put : ℕ → List ℕ → ℕ → List ℕ → List ℕ
put w t k v = if_slot w t k (sets t (w * k) (take w v)) t

-- What slot k holds, with zeros up to 64 bytes. Where there is none: zeros.
abbrev pub loaded : ℕ → List ℕ → ℕ → List ℕ
loaded w t k = if_slot w t k (held (slot_at w t k)) (replicate 64 0)

-- The origin fields of slot k: the number of a record in bytes 10 and 11, and byte 12.
abbrev pub origin_at : ℕ → List ℕ → ℕ → ℕ
origin_at w t k = if_slot w t k (256 * get_or t (w * k + 10) 0 + get_or t (w * k + 11) 0) 0

abbrev pub byte_at : ℕ → List ℕ → ℕ → ℕ
byte_at w t k = if_slot w t k (get_or t (w * k + 12) 0) 0
