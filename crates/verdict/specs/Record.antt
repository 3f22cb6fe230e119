-- A record, "bit-packed, most significant first", in the form that request 7 of paper 02 gives it.
-- Assumes nothing.
use Rattle.std.specs.Prelude.{ℕ, zero, suc, ◌+◌, ◌-◌, ◌*◌, ◌/◌, List, [], ◌∷◌, ◌++◌, length}
use Rattle.theory.specs.Pattern.{Re, count}
use Rattle.theory.specs.Standing.{Standing, member, from}
use Rattle.verdict.specs.Bits.{bits, bit, pack}

-- How a record goes on after its first 13 bytes: with so many six-bit leaf numbers, and zero bits up to so many bytes in all.
pub record Form : Type 0 where
  pub numbers : ℕ
  pub bytes : ℕ

-- "With n leaves a record becomes 13 bytes plus n × 6 bits rounded up to whole bytes by zero bits, without the three zero bytes."
abbrev pub narrow : ℕ → Form
narrow n = record { numbers = n; bytes = 13 + (6 * n + 7) / 8 }

-- The form of a pattern's records: n is its leaf count.
abbrev pub form_of : Re → Form
form_of r = narrow (count r)

-- Paper 01's form, for every pattern: "64 bytes", with "64 six-bit leaf numbers" and "3 zero bytes". No record has it any more: `same_verdict` tells what it left.
abbrev pub wide : Form
wide = record { numbers = 64; bytes = 64 }

-- A bit for each leaf of m: whether it is in l.
abbrev pub set_bits : List ℕ → List ℕ → List ℕ
set_bits l [] = []
set_bits l (p ∷ m) = bit (member p l) ++ set_bits l m

-- n "six-bit leaf numbers" of l, "unused ones zero".
abbrev pub six_bits : ℕ → List ℕ → List ℕ
six_bits zero l = []
six_bits (suc n) [] = bits 6 0 ++ six_bits n []
six_bits (suc n) (p ∷ l) = bits 6 p ++ six_bits n l

-- The zero bits at a record's end: the first 13 bytes are 104 bits.
abbrev pub spare_bits : Form → ℕ
spare_bits f = 8 * f.bytes - (104 + 6 * f.numbers)

-- The record of the standing s that comes from the record of that number by that byte, in bits.
unfoldable pub record_bits : Form → Standing → ℕ → ℕ → List ℕ
record_bits f s origin byte =
    bits 7 (length s.order)  -- "7 bits count of (a),
    ++ (bit s.first  -- 1 bit (b),
    ++ (bit s.some  -- 1 bit (d),
    ++ (bits 7 0  -- 7 zero bits;
    ++ (set_bits s.all (from 0 64)  -- 64 bits for (c), leaf 0 first;
    ++ (bits 16 origin  -- 16 bits number of the record its first line comes from by its last byte;
    ++ (bits 8 byte  -- 8 bits that byte;
    ++ (six_bits f.numbers s.order  -- then [the] six-bit leaf numbers of (a)",
    ++ bits (spare_bits f) 0)))))))  -- "rounded up to whole bytes by zero bits".

-- The record in bytes.
unfoldable pub record_bytes : Form → Standing → ℕ → ℕ → List ℕ
record_bytes f s origin byte = pack f.bytes (record_bits f s origin byte)
