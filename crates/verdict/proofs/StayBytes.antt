-- The records are bytes, and the buffers stay bytes.
-- Assumes nothing.
use Prim.Native.Nat.{ℕ, zero, suc, ◌+◌, ◌*◌, ◌/◌, ◌^◌, ◌≤◌, ◌<◌}
use mathlib.Core.Bool.{Bool, true, false}
use mathlib.Core.List.{List, [], ◌∷◌, ◌++◌}
use native.Mathlib.Omega.{arith}
use native.Mathlib.Nat.{mod-lt, pow-succ', pow-zero, mul-le-mul_left, mul-le-mul_right, mul_assoc, mul-one, one-le-pow}
use lib.ListN.{length, take, drop}
use Rattle.theory.specs.Pattern.{Re}
use Rattle.theory.specs.Lines.{Below}
use Rattle.theory.specs.Standing.{Standing, standing, member, from}
use Rattle.theory.proofs.Lines.{below_append}
use Rattle.grammar.specs.WriteOut.{write_out}
use Rattle.grammar.proofs.Size.{write_out_numbered}
use Rattle.verdict.specs.Bits.{bits, bit, from_bits, pack}
use Rattle.verdict.specs.Record.{Form, form_of, spare_bits, set_bits, six_bits, record_bits, record_bytes}
use Rattle.verdict.specs.Table.{body, last_byte, number_of, record_of, records_of, records, onto}
use Rattle.verdict.specs.Tabled.{Result}
use Rattle.verdict.specs.Code.Found.{Found, not_read, same_cuts, first_witness, no_slot, no_room}
use Rattle.verdict.proofs.Words.{first_cut}

bits_below_two : (d n : ℕ) → Below 2 (bits d n)
unfolding bits
bits_below_two zero n = tt
bits_below_two (suc d) n = (mod-lt (n / 2 ^ d) {m = 2} (omega arith), bits_below_two d n)

bit_below_two : (c : Bool) → Below 2 (bit c)
bit_below_two true = (omega arith, tt)
bit_below_two false = (omega arith, tt)

set_two : (l m : List ℕ) → Below 2 (set_bits l m)
set_two l [] = tt
set_two l (p ∷ m) = below_append 2 (bit (member p l)) (set_bits l m) (bit_below_two (member p l)) (set_two l m)

six_two : (n : ℕ) (l : List ℕ) → Below 2 (six_bits n l)
six_two zero l = tt
six_two (suc n) [] = below_append 2 (bits 6 0) (six_bits n []) (bits_below_two 6 0) (six_two n [])
six_two (suc n) (p ∷ l) = below_append 2 (bits 6 p) (six_bits n l) (bits_below_two 6 p) (six_two n l)

data Two (l : List ℕ) : Type 0 where
  two : Below 2 l → Two l

join : {l m : List ℕ} → Two l → Two m → Two (l ++ m)
join {l} {m} (two h) (two g) = two (below_append 2 l m h g)

un_two : {l : List ℕ} → Two l → Below 2 l
un_two (two h) = h

bits_two : (d n : ℕ) → Two (bits d n)
bits_two d n = two (bits_below_two d n)

bit_two : (c : Bool) → Two (bit c)
bit_two c = two (bit_below_two c)

record_Two : (f : Form) (s : Standing) (o b : ℕ) → Two (record_bits f s o b)
unfolding record_bits
record_Two f s o b =
    let c : Two (set_bits s.all (from 0 64)) = two (set_two s.all (from 0 64)) in
    let a : Two (six_bits f.numbers s.order) = two (six_two f.numbers s.order) in
    join (bits_two 7 (length s.order))
    (join (bit_two s.first)
    (join (bit_two s.some)
    (join (bits_two 7 0)
    (join c
    (join (bits_two 16 o)
    (join (bits_two 8 b)
    (join a (bits_two (spare_bits f) 0))))))))

pub record_two : (f : Form) (s : Standing) (o b : ℕ) → Below 2 (record_bits f s o b)
record_two f s o b = un_two (record_Two f s o b)

number_less : (k n : ℕ) (l : List ℕ) → Below 2 l → from_bits n (take k l) < suc n * 2 ^ k
number_less zero n l h = rw (pow-zero, mul-one) (omega arith)
number_less (suc k) n [] h = omega (arith, mul-le-mul_left (suc n) (one-le-pow (suc k) 2 (omega arith)), mul-one (suc n))
number_less (suc k) n (b ∷ l) h =
    let c = number_less k (2 * n + b) l h.1 in
    let g : suc (2 * n + b) * 2 ^ k ≤ suc n * 2 * 2 ^ k = mul-le-mul_right {m = suc (2 * n + b)} {n = suc n * 2} (2 ^ k) (omega arith) in
    rw (pow-succ' 2 k, ← mul_assoc) (omega arith)

pub drop_below : (m k : ℕ) (l : List ℕ) → Below m l → Below m (drop k l)
drop_below m zero l h = h
drop_below m (suc k) [] h = tt
drop_below m (suc k) (b ∷ l) h = drop_below m k l h.1

pack_bytes : (n : ℕ) (l : List ℕ) → Below 2 l → Below 256 (pack n l)
unfolding pack
pack_bytes zero l h = tt
pack_bytes (suc n) l h = (number_less 8 0 l h, pack_bytes n (drop 8 l) (drop_below 2 8 l h))

pub record_bytes_lem : (f : Form) (s : Standing) (o b : ℕ) → Below 256 (record_bytes f s o b)
unfolding record_bytes
record_bytes_lem f s o b = pack_bytes f.bytes (record_bits f s o b) (record_two f s o b)

pub records_bytes : (f : Form) (r : Re) (L M : List (List ℕ)) → Below 256 (records_of f (standing r) L M)
unfolding records_of
records_bytes f r L [] = tt
records_bytes f r L (w ∷ M) = below_append 256 (record_of f (standing r) L w) (records_of f (standing r) L M) (record_bytes_lem f (standing r w) (number_of (standing r) L (standing r (body w))) (last_byte w)) (records_bytes f r L M)

onto_bytes : (t u : List ℕ) → Below 256 t → Below 256 u → Below 256 (onto t u)
onto_bytes t u h g = below_append 256 u (drop (length u) t) g (drop_below 256 (length u) t h)

pub stay_bytes : {loaded p t v : List ℕ} {x : Result} {t' v' : List ℕ} → Found loaded p t v x t' v' → Below 256 t → Below 256 v → Below 256 t' × Below 256 v'
stay_bytes {loaded = loaded} (not_read h e f g) a b = (rw f a, rw g b)
stay_bytes {loaded = loaded} {t = t} (same_cuts {a = y} {L = L} h c l e f g) a b = (rw f (onto_bytes t (records (form_of (write_out loaded y)) (standing (write_out loaded y)) L) a (records_bytes (form_of (write_out loaded y)) (write_out loaded y) L L)), rw g b)
stay_bytes {loaded = loaded} {t = t} {v = v} (first_witness {a = y} {L = L} {w = w} h c l k e f g) a b =
    (rw f (onto_bytes t (records (form_of (write_out loaded y)) (standing (write_out loaded y)) (L ++ (w ∷ []))) a (records_bytes (form_of (write_out loaded y)) (write_out loaded y) _ _)), rw g (onto_bytes v w b (first_cut (write_out loaded y) (write_out_numbered loaded y) c).bytes))
stay_bytes {loaded = loaded} {t = t} (no_slot {a = y} {L = L} h c l e f g) a b = (rw f (onto_bytes t (records (form_of (write_out loaded y)) (standing (write_out loaded y)) L) a (records_bytes (form_of (write_out loaded y)) (write_out loaded y) L L)), rw g b)
stay_bytes {loaded = loaded} {t = t} (no_room {a = y} {L = L} {w = w} h c l k e f g) a b = (rw f (onto_bytes t (records (form_of (write_out loaded y)) (standing (write_out loaded y)) (L ++ (w ∷ []))) a (records_bytes (form_of (write_out loaded y)) (write_out loaded y) _ _)), rw g b)
