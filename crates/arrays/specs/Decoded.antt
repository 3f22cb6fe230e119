-- The pattern that the arrays are. Every array is one: a part that does not fit is the empty sequence.
-- Assumes nothing.
use Rattle.std.specs.Prelude.{ℕ, zero, suc, ◌-◌, max, ◌&&◌, cond, List, get_or, replicate, ltb}
use Rattle.words.specs.Sets.{has_bit}
use Rattle.theory.specs.Pattern.{Re, empty, leaf, seq, alt, star, field}
use Rattle.grammar.specs.Code.Tokens.{max_parts}
use Rattle.grammar.specs.Code.Codes.{PartKind, anEmpty, aSequence, anAlternation, a_star, a_field, aLeaf, part_kind}
use Rattle.arrays.specs.declared.Pattern.{Pattern}

-- The leaf p: bit p of the mask of a byte says whether its set holds the byte. There are at most 64 leaves.
abbrev pub leaf_of : List ℕ → ℕ → Re
leaf_of masks p = cond (ltb p 64) (leaf p (λ b. ltb b 256 && has_bit (get_or masks b 0) p)) empty

-- Where the right one of two parts begins, which together stand from `low` to `end`: before `end` by the size that is noted at its last place.
abbrev pub middle : List ℕ → ℕ → ℕ → ℕ
middle sizes low end = max low (end - get_or sizes (end - 1) 0)

-- The part whose last place has that kind, from its parts.
abbrev pub part_of : List ℕ → PartKind → Re → Re → Re → Re
part_of masks anEmpty whole left right = empty
part_of masks aSequence whole left right = seq left right
part_of masks anAlternation whole left right = alt left right
part_of masks (a_star how) whole left right = star how whole
part_of masks (a_field f) whole left right = field f whole
part_of masks (aLeaf p) whole left right = leaf_of masks p

-- The part that stands at the places from `low` to `end`, the last left out. The first number is at least their number.
unfoldable pub part : ℕ → List ℕ → List ℕ → List ℕ → ℕ → ℕ → Re
part zero kinds sizes masks low end = empty
part (suc f) kinds sizes masks low zero = empty
part (suc f) kinds sizes masks low (suc last) =
    cond (ltb last low) empty
    (part_of masks (part_kind (get_or kinds last 0))
    (part f kinds sizes masks low last)
    (part f kinds sizes masks low (middle sizes low last))
    (part f kinds sizes masks (middle sizes low last) last))

-- The pattern.
unfoldable pub decode : Pattern → Re
decode x = part x.len x.kinds x.sizes x.masks 0 x.len

-- No parts and no leaves.
abbrev pub blank : Pattern
blank = record { kinds = replicate max_parts 0; sizes = replicate max_parts 0; len = 0; masks = replicate 256 0; leaves = 0 }
