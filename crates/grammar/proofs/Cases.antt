-- Patterns of each refusal and each limit, read by computation; each tells paper 01's rule from a mistake that is near it.
-- Assumes nothing.
use mathlib.Core.Path.{◌≡◌, refl}
use Prim.Native.Nat.{ℕ, zero, suc}
use mathlib.Core.Bool.{Bool, true, false}
use mathlib.Core.List.{List, [], ◌∷◌, ◌++◌, map}
use lib.ListN.{replicate}
use Rattle.theory.specs.Pattern.{eager, lazy, Re, empty, leaf, seq, alt, star, field, opt, count, number, has}
use Rattle.theory.specs.Standing.{from}
use Rattle.grammar.specs.Grammar.{plain, digit, Item, range, named, Digits, one, more, exactly, at_least, between, lazily, kind, inside}
use Rattle.grammar.specs.Limits.{heaviest, weight}
use Rattle.grammar.specs.Sets.{in_posix, set_table, in_named, in_item, in_class}
use Rattle.grammar.specs.Brackets.{brackets, ninth}
use Rattle.grammar.specs.WriteOut.{chain, optional, repeat_of, bracketed, shape, write_out}
use Rattle.grammar.specs.Refusals.{Answer, accepted, refused}
use Rattle.grammar.specs.Code.Tokens.{nodes}
use Rattle.grammar.specs.Code.Reader.{read, loop, read_items}

-- A pattern, and what is to come of it: a refusal's number and place, or 0 and the leaves of the written-out pattern.
record Case : Type 0 where
  pattern : List ℕ
  number_due : ℕ
  place_due : ℕ

abbrev case : ℕ → ℕ → List ℕ → Case
case n q p = record { pattern = p; number_due = n; place_due = q }

abbrev number_of : Answer → ℕ
number_of (accepted t) = 0
number_of (refused n q) = n

abbrev place_of : Answer → ℕ
place_of (accepted t) = count (write_out set_table t)
place_of (refused n q) = q

abbrev cases : List Case
cases =
    case 2 2 (97 ∷ 42 ∷ 42 ∷ [])  -- a**
    ∷ case 2 0 (41 ∷ [])  -- )
    ∷ case 2 0 (93 ∷ [])  -- ]
    ∷ case 2 1 (97 ∷ 125 ∷ [])  -- a}
    ∷ case 2 0 (94 ∷ 97 ∷ [])  -- ^a
    ∷ case 2 1 (97 ∷ 36 ∷ [])  -- a$
    ∷ case 2 2 (97 ∷ 124 ∷ 63 ∷ [])  -- a|?
    ∷ case 2 1 (40 ∷ 43 ∷ 41 ∷ [])  -- (+)
    ∷ case 2 0 (123 ∷ [])  -- {
    ∷ case 2 4 (97 ∷ 123 ∷ 50 ∷ 125 ∷ 123 ∷ [])  -- a{2}{
    ∷ case 3 1 (97 ∷ 92 ∷ [])  -- a\
    ∷ case 3 0 (92 ∷ 97 ∷ [])  -- \a
    ∷ case 4 1 (97 ∷ 91 ∷ [])  -- a[
    ∷ case 4 0 (91 ∷ 93 ∷ [])  -- []
    ∷ case 4 0 (91 ∷ 122 ∷ 45 ∷ 97 ∷ 93 ∷ [])  -- [z-a]
    ∷ case 4 0 (91 ∷ 91 ∷ 58 ∷ 97 ∷ 58 ∷ 93 ∷ 93 ∷ [])  -- [[:a:]]
    ∷ case 2 3 (97 ∷ 42 ∷ 63 ∷ 63 ∷ [])  -- a*??
    ∷ case 2 3 (97 ∷ 63 ∷ 63 ∷ 63 ∷ [])  -- a???
    ∷ case 2 3 (97 ∷ 63 ∷ 63 ∷ 42 ∷ [])  -- a??*
    ∷ case 2 3 (97 ∷ 42 ∷ 63 ∷ 123 ∷ 50 ∷ 125 ∷ [])  -- a*?{2}
    ∷ case 2 2 (97 ∷ 63 ∷ 43 ∷ [])  -- a?+
    ∷ case 0 2 (97 ∷ 43 ∷ 63 ∷ [])  -- a+?
    ∷ case 0 1 (97 ∷ 63 ∷ 63 ∷ [])  -- a??
    ∷ case 0 3 (97 ∷ 123 ∷ 49 ∷ 44 ∷ 51 ∷ 125 ∷ 63 ∷ [])  -- a{1,3}?
    ∷ case 0 64 (97 ∷ 123 ∷ 54 ∷ 51 ∷ 125 ∷ 98 ∷ 63 ∷ 63 ∷ [])  -- a{63}b??
    ∷ case 5 1 (97 ∷ 123 ∷ 50 ∷ 44 ∷ 49 ∷ 125 ∷ [])  -- a{2,1}
    ∷ case 5 1 (97 ∷ 123 ∷ 54 ∷ 52 ∷ 125 ∷ [])  -- a{64}
    ∷ case 5 1 (97 ∷ 123 ∷ 44 ∷ 51 ∷ 125 ∷ [])  -- a{,3}
    ∷ case 6 2 (97 ∷ 40 ∷ [])  -- a(
    ∷ case 7 16 (replicate 17 40)  -- 17 times (
    ∷ case 8 7 (97 ∷ 123 ∷ 54 ∷ 51 ∷ 125 ∷ 98 ∷ 99 ∷ [])  -- a{63}bc
    ∷ case 8 8 (40 ∷ 97 ∷ 97 ∷ 41 ∷ 123 ∷ 51 ∷ 51 ∷ 125 ∷ [])  -- (aa){33}
    ∷ case 8 12 (40 ∷ 97 ∷ 123 ∷ 54 ∷ 51 ∷ 125 ∷ 98 ∷ 43 ∷ 41 ∷ 123 ∷ 48 ∷ 125 ∷ [])  -- (a{63}b+){0}
    ∷ case 1 255 (replicate 256 40)  -- 256 times (
    ∷ case 0 0 []  -- the empty pattern
    ∷ case 0 64 (97 ∷ 123 ∷ 54 ∷ 51 ∷ 125 ∷ 98 ∷ [])  -- a{63}b
    ∷ case 0 63 (97 ∷ 123 ∷ 48 ∷ 44 ∷ 54 ∷ 51 ∷ 125 ∷ [])  -- a{0,63}
    ∷ case 0 3 (97 ∷ 123 ∷ 50 ∷ 44 ∷ 125 ∷ [])  -- a{2,}
    ∷ case 0 1 (91 ∷ 91 ∷ 58 ∷ 100 ∷ 105 ∷ 103 ∷ 105 ∷ 116 ∷ 58 ∷ 93 ∷ 93 ∷ [])  -- [[:digit:]]
    ∷ case 0 1 (91 ∷ 94 ∷ 92 ∷ 93 ∷ 45 ∷ 92 ∷ 94 ∷ 93 ∷ [])  -- [^\]-\^]
    ∷ []

pub numbers_due : map (λ c. number_of (read c.pattern)) cases ≡ map (λ c. c.number_due) cases
unfolding read loop kind inside read_items heaviest weight
numbers_due = refl

pub places_due : map (λ c. place_of (read c.pattern)) cases ≡ map (λ c. c.place_due) cases
unfolding read loop kind inside read_items heaviest weight write_out bracketed shape chain optional number count
places_due = refl

-- A range holds both its ends, and a negated class all bytes not listed: [a-c] and [^a-c] at a, c and d.
abbrev a_to_c : List Item
a_to_c = range (plain 97) (plain 99) ∷ []

pub range_ends : map (in_class in_posix false a_to_c) (96 ∷ 97 ∷ 99 ∷ 100 ∷ []) ≡ false ∷ true ∷ true ∷ false ∷ []
range_ends = refl

pub negated_class : map (in_class in_posix true a_to_c) (96 ∷ 97 ∷ 99 ∷ 100 ∷ []) ≡ true ∷ false ∷ false ∷ true ∷ []
negated_class = refl

-- The set of the pattern's first leaf at each byte from 0 to 255. `.` holds all but 10, and [^a] all but a: 0 and 10 are bytes like others there.
abbrev holds : Answer → List Bool
holds (accepted t) = map (has (write_out set_table t) 0) (from 0 256)
holds (refused n q) = []

pub dot_holds : holds (read (46 ∷ [])) ≡ replicate 10 true ++ (false ∷ replicate 245 true)
unfolding read loop kind inside read_items heaviest weight write_out bracketed shape chain number count has
dot_holds = refl

pub negated_holds : holds (read (91 ∷ 94 ∷ 97 ∷ 93 ∷ [])) ≡ replicate 97 true ++ (false ∷ replicate 158 true)
unfolding read loop kind inside read_items heaviest weight write_out bracketed shape chain number count has
negated_holds = refl

-- A named set is its bit of the table: [:digit:] at `/`, 0, 9 and `:`.
pub named_set : map (in_item (in_named set_table) (named digit)) (47 ∷ 48 ∷ 57 ∷ 58 ∷ []) ≡ false ∷ true ∷ true ∷ false ∷ []
unfolding set_table
named_set = refl

-- Optional copies are nested, each inside the one before: r{1,3} is r(r(r)?)?.
pub nested : (x : Re) → repeat_of (between (one 49) (one 51)) x ≡ seq x (opt eager (seq x (opt eager x)))
unfolding chain optional
nested x = refl

-- r{1,3}? leaves first at each copy: r(|r(|r)).
pub nested_lazily : (x : Re) → repeat_of (lazily (between (one 49) (one 51))) x ≡ seq x (opt lazy (seq x (opt lazy x)))
unfolding chain optional
nested_lazily x = refl

-- r{0} is the empty sequence, r{2,} two copies and then r*, r+ is r and then r*.
pub no_copy : (x : Re) → repeat_of (exactly (one 48)) x ≡ empty
unfolding chain
no_copy x = refl

pub at_least_lem : (x : Re) → repeat_of (at_least (one 50)) x ≡ seq x (seq x (star eager x))
unfolding chain
at_least_lem x = refl

pub one_or_more : (x : Re) → repeat_of more x ≡ seq x (star eager x)
unfolding chain
one_or_more x = refl

-- r+? is r and then r*?, r{2,}? two copies and then r*?; in r{m}? nothing is optional.
pub one_or_more_lazily : (x : Re) → repeat_of (lazily more) x ≡ seq x (star lazy x)
unfolding chain
one_or_more_lazily x = refl

pub at_least_lazily : (x : Re) → repeat_of (lazily (at_least (one 50))) x ≡ seq x (seq x (star lazy x))
unfolding chain
at_least_lazily x = refl

pub exactly_lazily : (m : Digits) (x : Re) → repeat_of (lazily (exactly m)) x ≡ repeat_of (exactly m) x
exactly_lazily m x = refl

-- The most parts: ((..(a?)?..)?){0,63} with 16 brackets, and another such part with `?` for the count. The bound of `nodes_within` is reached but for
-- eight: the brackets of the other part are no fields.
abbrev nest : ℕ → List ℕ → List ℕ
nest zero s = 97 ∷ 63 ∷ s
nest (suc n) s = 40 ∷ nest n (41 ∷ 63 ∷ s)

abbrev largest : List ℕ
largest = 40 ∷ nest 15 (41 ∷ 123 ∷ 48 ∷ 44 ∷ 54 ∷ 51 ∷ 125 ∷ nest 16 [])

abbrev size : Answer → ℕ
size (accepted t) = nodes (write_out set_table t)
size (refused n q) = 0

pub most_nodes : size (read largest) ≡ 2807
unfolding read loop kind inside read_items heaviest weight nodes write_out bracketed shape chain optional number count
most_nodes = refl

-- The fields of the written-out pattern in order. ((a)b){2}(c){0}(\\([(])+: copies have one number, a bracket under {0} takes one, `\\(` and `[(]` take none.
abbrev fields_in : Re → List ℕ
fields_in empty = []
fields_in (leaf p s) = []
fields_in (seq x y) = fields_in x ++ fields_in y
fields_in (alt x y) = fields_in x ++ fields_in y
fields_in (star how x) = fields_in x
fields_in (field f x) = f ∷ fields_in x

abbrev fields_of : Answer → List ℕ
fields_of (accepted t) = brackets t ∷ ninth t ∷ fields_in (write_out set_table t)
fields_of (refused n q) = []

abbrev copied : List ℕ
copied =
    40 ∷ 40 ∷ 97 ∷ 41 ∷ 98 ∷ 41 ∷ 123 ∷ 50 ∷ 125 ∷ 40 ∷ 99 ∷ 41 ∷ 123 ∷ 48 ∷ 125 ∷ 40 ∷ 92 ∷ 40 ∷ 91 ∷ 40 ∷ 93 ∷ 41 ∷ 43 ∷ []

pub fields_written : fields_of (read copied) ≡ 4 ∷ 23 ∷ 1 ∷ 2 ∷ 1 ∷ 2 ∷ 4 ∷ 4 ∷ []
unfolding read loop kind inside read_items heaviest weight write_out bracketed shape chain optional number count ninth
fields_written = refl

-- Nine brackets: a(b)(c)(()|d)(e)(f)(g)(h)(i). The ninth stands at 25, and is no field.
abbrev nine : List ℕ
nine =
    97 ∷ 40 ∷ 98 ∷ 41 ∷ 40 ∷ 99 ∷ 41 ∷ 40 ∷ 40 ∷ 41 ∷ 124 ∷ 100 ∷ 41 ∷ 40 ∷ 101 ∷ 41 ∷ 40 ∷ 102 ∷ 41 ∷ 40 ∷ 103 ∷ 41 ∷ 40 ∷ 104 ∷ 41 ∷ 40 ∷ 105 ∷ 41 ∷ []

pub ninth_place : fields_of (read nine) ≡ 9 ∷ 25 ∷ 1 ∷ 2 ∷ 3 ∷ 4 ∷ 5 ∷ 6 ∷ 7 ∷ 8 ∷ []
unfolding read loop kind inside read_items heaviest weight write_out bracketed shape chain optional number count ninth
ninth_place = refl
