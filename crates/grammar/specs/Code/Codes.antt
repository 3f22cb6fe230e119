-- The kinds of parts as numbers, as an array holds them, and the codes of a pattern while it is read: the kinds of its parts, each leaf's with the place q of the
-- pattern at which its text begins.
-- Assumes nothing.
use Rattle.std.specs.Prelude.{ℕ, zero, suc, ◌-◌, Bool, true, false, not, ◌&&◌, cond, List, [], ◌∷◌, ◌++◌, drop, replicate, eqb, ltb}
use Rattle.theory.specs.Pattern.{Manner, eager, lazy}
use Rattle.grammar.specs.Grammar.{Atom, byte, dot, class, group, Kind, ordinary, backslash, bar, opener, closer, bracket, brace, period, stray, sign, kind}
use Rattle.grammar.specs.Sets.{in_named, in_class}
use Rattle.grammar.specs.Brackets.{max_fields}
use Rattle.grammar.specs.Code.Reader.{Parsed, found, missing, read_class}
use Rattle.grammar.specs.Code.Tokens.{Token, nil, both, or, many, blocks}
use Rattle.grammar.specs.Code.Tokens

-- The kinds of parts: the empty sequence, a sequence of two parts, an alternation of two, a star, a lazy star, the eight fields; the kinds of leaves come after them.
abbrev pub empty_kind : ℕ
empty_kind = 0

abbrev pub sequence_kind : ℕ
sequence_kind = 1

abbrev pub alternation_kind : ℕ
alternation_kind = 2

abbrev pub star_kind : ℕ
star_kind = 3

abbrev pub lazy_star_kind : ℕ
lazy_star_kind = 4

-- A program has a flag for a repeat's preference: whether it is lazy.
abbrev pub manner : Bool → Manner
manner true = lazy
manner false = eager

abbrev pub star_of : Manner → ℕ
star_of eager = star_kind
star_of lazy = lazy_star_kind

abbrev pub first_field : ℕ
first_field = 5

abbrev pub first_leaf : ℕ
first_leaf = 13

pub data PartKind : Type 0 where
  anEmpty aSequence anAlternation : PartKind
  a_star : Manner → PartKind
  a_field aLeaf : ℕ → PartKind

abbrev pub part_kind : ℕ → PartKind
part_kind zero = anEmpty
part_kind (suc zero) = aSequence
part_kind (suc (suc zero)) = anAlternation
part_kind (suc (suc (suc zero))) = a_star eager
part_kind (suc (suc (suc (suc zero)))) = a_star lazy
part_kind (suc (suc (suc (suc (suc q))))) = cond (ltb q max_fields) (a_field (suc q)) (aLeaf (q - max_fields))

-- By the sets that are loaded: the set of a class that was found, of a byte after `\`, and of the leaf that the text begins with. What is no leaf holds nothing.
abbrev pub found_holds : List ℕ → Parsed Atom → ℕ → Bool
found_holds loaded (found (byte x) r) b = false
found_holds loaded (found dot r) b = false
found_holds loaded (found (class c x l) r) b = in_class (in_named loaded) c (x ∷ l) b
found_holds loaded (found (group t) r) b = false
found_holds loaded missing b = false

abbrev pub first_holds : List ℕ → ℕ → Bool
first_holds [] b = false
first_holds (c ∷ s) b = eqb b c

abbrev pub leaf_by : List ℕ → Kind → ℕ → List ℕ → ℕ → Bool
leaf_by loaded ordinary c s b = eqb b c
leaf_by loaded backslash c s b = first_holds s b
leaf_by loaded bar c s b = false
leaf_by loaded opener c s b = false
leaf_by loaded closer c s b = false
leaf_by loaded bracket c s b = found_holds loaded (read_class s) b
leaf_by loaded brace c s b = false
leaf_by loaded period c s b = not (eqb b 10)
leaf_by loaded stray c s b = false
leaf_by loaded (sign r) c s b = false

unfoldable pub leaf_holds : List ℕ → List ℕ → ℕ → Bool
leaf_holds loaded [] b = false
leaf_holds loaded (c ∷ s) b = leaf_by loaded (kind c) c s b

-- The token of a code, of the pattern p. Leaves are not numbered yet.
abbrev pub token_by : List ℕ → List ℕ → PartKind → Token
token_by loaded p anEmpty = nil
token_by loaded p aSequence = both
token_by loaded p anAlternation = or
token_by loaded p (a_star how) = many how
token_by loaded p (a_field f) = Tokens.field f
token_by loaded p (aLeaf q) = Tokens.byte 0 (λ b. ltb b 256 && leaf_holds loaded (drop q p) b)

abbrev pub token_of : List ℕ → List ℕ → ℕ → Token
token_of loaded p c = token_by loaded p (part_kind c)

-- What repeats make of the codes k of a part. {m}: no copy is the empty sequence.
abbrev pub exactly_codes : ℕ → List ℕ → List ℕ
exactly_codes zero k = empty_kind ∷ []
exactly_codes (suc m) k = blocks (suc m) k (replicate m sequence_kind)

-- {m,}: m copies, then the star of one.
abbrev pub at_least_codes : Manner → ℕ → List ℕ → List ℕ
at_least_codes how m k = blocks (suc m) k (star_of how ∷ replicate m sequence_kind)

-- What stands before an optional copy, and after it: the empty sequence is the second alternative, or a lazy repeat's first.
abbrev pub lead_codes : Manner → List ℕ
lead_codes eager = []
lead_codes lazy = empty_kind ∷ []

abbrev pub shut_codes : Manner → List ℕ
shut_codes eager = empty_kind ∷ alternation_kind ∷ []
shut_codes lazy = alternation_kind ∷ []

-- The ends of i optional copies, each around the one before.
abbrev pub close_codes : Manner → ℕ → List ℕ
close_codes how zero = []
close_codes how (suc i) = sequence_kind ∷ shut_codes how ++ close_codes how i

-- {m,n}, i = n − m: m copies, then i optional ones, each inside the one before.
abbrev pub between_codes : Manner → ℕ → ℕ → List ℕ → List ℕ
between_codes how m zero k = exactly_codes m k
between_codes how m (suc i) k = blocks m k (blocks (suc i) (lead_codes how ++ k) ((shut_codes how ++ close_codes how i) ++ replicate m sequence_kind))
