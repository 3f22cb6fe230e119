-- Small cases of the record and the table, by computation; each tells the rule from a mistake that is near it.
-- Assumes nothing.
use mathlib.Core.Path.{◌≡◌, refl}
use Prim.Native.Nat.{ℕ}
use mathlib.Core.Bool.{true, false}
use mathlib.Core.List.{List, [], ◌∷◌, ◌++◌}
use mathlib.Core.Option.{none, some}
use lib.Dec.{eqb}
use lib.ListN.{replicate}
use Rattle.theory.specs.Pattern.{Re, leaf, seq, alt, count}
use Rattle.theory.specs.Outcomes.{outcomes}
use Rattle.theory.specs.Standing.{Standing, standing}
use Rattle.verdict.specs.Bits.{bits, pack}
use Rattle.verdict.specs.Record.{narrow, form_of, record_bits, record_bytes}
use Rattle.verdict.specs.Table.{same, number_of, record_of, slots, onto}
use Rattle.verdict.specs.Tabled.{Result, alike, unlike, refused, Whole, whole, due}

-- A standing with (a) 2 1, (b), (c) 1 2, without (d).
abbrev sample : Standing
sample = record { order = 2 ∷ 1 ∷ []; first = true; all = 1 ∷ 2 ∷ []; some = false }

-- Its record, from record 258 by byte 97: count 2 and (b); (d) and zeros; leaves 1 and 2; 258; 97; the leaf numbers 2 and 1 in six bits each.
pub sample_record : record_bytes (narrow 3) sample 258 97 ≡ (5 ∷ 0 ∷ 96 ∷ replicate 7 0) ++ (1 ∷ 2 ∷ 97 ∷ 8 ∷ 16 ∷ 0 ∷ [])
unfolding record_bytes record_bits bits pack
sample_record = refl

-- Leaf 0 is the highest bit of (c), and leaf 63 the lowest.
pub set_order : record_bytes (narrow 64) (record { order = []; first = false; all = 0 ∷ 63 ∷ []; some = true }) 0 0 ≡ (0 ∷ 128 ∷ 128 ∷ replicate 6 0) ++ (1 ∷ replicate 51 0)
unfolding record_bytes record_bits bits pack
set_order = refl

-- Widths: 13 bytes without a leaf; up to four leaves take three bytes more, and the fifth one more; 64 leaves take 61.
pub widths : ((narrow 0).bytes ∷ (narrow 1).bytes ∷ (narrow 3).bytes ∷ (narrow 4).bytes ∷ (narrow 5).bytes ∷ (narrow 64).bytes ∷ []) ≡ 13 ∷ 14 ∷ 16 ∷ 16 ∷ 17 ∷ 61 ∷ []
widths = refl

-- With three leaves 63 bytes have three slots, and 64 have four; there are never more than 65,535.
pub slots_round_down : (slots (narrow 3) 63 ∷ slots (narrow 3) 64 ∷ []) ≡ 3 ∷ 4 ∷ []
unfolding slots
slots_round_down = refl

pub slots_most : slots (narrow 3) 4194304 ≡ 65535
unfolding slots
slots_most = refl

-- a|ab
abbrev short_first : Re
short_first = alt (leaf 0 (eqb 97)) (seq (leaf 1 (eqb 97)) (leaf 2 (eqb 98)))

-- The record of ab comes from that of a, number 2, by byte 98.
pub from_origin : record_of (form_of short_first) (standing short_first) ([] ∷ (0 ∷ []) ∷ (97 ∷ []) ∷ (97 ∷ 98 ∷ []) ∷ []) (97 ∷ 98 ∷ []) ≡ (0 ∷ 128 ∷ replicate 9 0) ++ (2 ∷ 98 ∷ replicate 3 0)
unfolding record_bytes record_bits bits pack standing outcomes count number_of same
from_origin = refl

-- One slot for one record is enough, and the bytes after the last slot are kept; the witness buffer keeps what the witness does not need.
abbrev one_line : List (List ℕ)
one_line = [] ∷ []

abbrev shows : Whole → Result
shows (whole x t v) = x

pub slots_enough : shows (due (form_of short_first) (standing short_first) (replicate 20 170) (7 ∷ []) one_line none) ≡ alike 1
unfolding slots count
slots_enough = refl

pub slots_short : shows (due (form_of short_first) (standing short_first) (replicate 15 170) (7 ∷ []) one_line none) ≡ refused 10 0
unfolding slots count
slots_short = refl

pub buffer_enough : shows (due (form_of short_first) (standing short_first) (replicate 16 170) (7 ∷ 8 ∷ []) one_line (some (1 ∷ 2 ∷ []))) ≡ unlike 1 2
unfolding slots count
buffer_enough = refl

pub buffer_short : shows (due (form_of short_first) (standing short_first) (replicate 16 170) (7 ∷ 8 ∷ []) one_line (some (1 ∷ 2 ∷ 3 ∷ []))) ≡ refused 11 0
unfolding slots count
buffer_short = refl

-- On 10 and on 11 the buffer is kept.
abbrev buffer : Whole → List ℕ
buffer (whole x t v) = v

pub buffer_kept_on_10 : buffer (due (form_of short_first) (standing short_first) (replicate 15 170) (7 ∷ []) one_line none) ≡ 7 ∷ []
unfolding slots count
buffer_kept_on_10 = refl

pub buffer_kept_on_11 : buffer (due (form_of short_first) (standing short_first) (replicate 16 170) (7 ∷ 8 ∷ []) one_line (some (1 ∷ 2 ∷ 3 ∷ []))) ≡ 7 ∷ 8 ∷ []
unfolding slots count
buffer_kept_on_11 = refl

pub rest_kept : onto (7 ∷ 8 ∷ 9 ∷ []) (1 ∷ 2 ∷ []) ≡ 1 ∷ 2 ∷ 9 ∷ []
rest_kept = refl
