-- What the arrays that are made of codes hold: the pattern whose codes they are, its leaves numbered from 0.
-- Assumes nothing.
use Rattle.std.specs.Prelude.{◌≡◌, ℕ, ◌≤◌, ◌<◌, false, List, map, get_or}
use Rattle.theory.specs.Pattern.{Re, count, number}
use Rattle.grammar.specs.Code.Tokens.{nodes, tokens}
use Rattle.grammar.specs.Code.Codes.{token_of}
use Rattle.arrays.specs.declared.Pattern.{Pattern}
use Rattle.words.specs.Sets.{has_bit}
use Rattle.arrays.specs.Decoded.{decode}

-- The arrays x are the pattern r: they decode to it, with a place for each of its parts, its leaves counted, and no bit of a mask for any other leaf.
pub record HoldsPattern (x : Pattern) (r : Re) : Type 0 where
  pub decodes : decode x ≡ r
  pub parts : x.len ≡ nodes r
  pub leaves : x.leaves ≡ count r
  pub spare : (b p : ℕ) → b < 256 → x.leaves ≤ p → has_bit (get_or x.masks b 0) p ≡ false

-- The codes l of the pattern p made into the arrays x, by the table of named sets that is loaded: where they are the tokens of a pattern r of at most 64 leaves, x is r with
-- its leaves numbered.
abbrev pub Finished : List ℕ → List ℕ → List ℕ → Pattern → Type 0
Finished loaded p l x = (r : Re) → map (token_of loaded p) l ≡ tokens r → count r ≤ 64 → HoldsPattern x (number 0 r)
