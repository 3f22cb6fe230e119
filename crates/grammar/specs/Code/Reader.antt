-- The reader, as a definition that computes: it goes through the pattern from left to right and keeps the beginning that it has read.
-- Assumes nothing.
use Rattle.std.specs.Prelude.{ℕ, zero, suc, Bool, true, false, cond, ◌&&◌, List, [], ◌∷◌, eqb, leb, ltb, length}
use Rattle.grammar.specs.Grammar.{Byte, plain, escaped, Name, Item, single, range, named, Digits, one, two, Repeat, once, many, more, maybe, exactly, at_least, between, lazily, Alternation, last, or, nothing, part, Atom, byte, dot, class, group, Kind, ordinary, backslash, bar, opener, closer, bracket, brace, period, stray, sign, kind, special, Inside, usual, closing, opening, caret, dash, inside, marked, named_text, value, is_digit, counts}
use Rattle.grammar.specs.Limits.{max_bytes, max_depth, max_weight, heaviest}
use Rattle.grammar.specs.Sets.{names}
use Rattle.grammar.specs.Refusals.{Answer, accepted, refused}
use Rattle.grammar.specs.Before.{Before, start, barred, opened, after, text, opens, ready, softens}

-- A thing that the bytes begin with, and the bytes after it.
pub data Parsed (A : Type 0) : Type 0 where
  found : A → List ℕ → Parsed A
  missing : Parsed A

abbrev pub and_then : {A B : Type 0} → Parsed A → (A → List ℕ → Parsed B) → Parsed B
and_then (found a s) f = f a s
and_then missing f = missing

abbrev pub or_else : {A : Type 0} → Parsed A → Parsed A → Parsed A
or_else (found a s) y = found a s
or_else missing y = y

abbrev pub only : {A : Type 0} → Bool → Parsed A → Parsed A
only true x = x
only false x = missing

-- The bytes u, and then.
abbrev pub strip : {A : Type 0} → List ℕ → A → List ℕ → Parsed A
strip [] a s = found a s
strip (c ∷ u) a [] = missing
strip (c ∷ u) a (b ∷ s) = only (eqb b c) (strip u a s)

-- A class. After `\`:
abbrev pub read_escaped : List ℕ → Parsed Byte
read_escaped [] = missing
read_escaped (b ∷ s) = only (marked (inside b)) (found (escaped b) s)

abbrev pub inner_by : Inside → ℕ → List ℕ → Parsed Byte
inner_by usual b s = found (plain b) s
inner_by backslash b s = read_escaped s
inner_by closing b s = missing
inner_by opening b s = missing
inner_by caret b s = missing
inner_by dash b s = missing

abbrev pub read_inner : List ℕ → Parsed Byte
read_inner [] = missing
read_inner (b ∷ s) = inner_by (inside b) b s

abbrev pub read_named : List Name → List ℕ → Parsed Item
read_named [] s = missing
read_named (n ∷ l) s = or_else (strip (named_text n) (named n) s) (read_named l s)

-- After a byte: a range if `-` follows.
abbrev pub range_by : Inside → Byte → List ℕ → List ℕ → Parsed Item
range_by usual x s r = found (single x) s
range_by backslash x s r = found (single x) s
range_by closing x s r = found (single x) s
range_by opening x s r = found (single x) s
range_by caret x s r = found (single x) s
range_by dash x s r = and_then (read_inner r) (λ y r'. only (leb (value x) (value y)) (found (range x y) r'))

abbrev pub read_range : Byte → List ℕ → Parsed Item
read_range x [] = found (single x) []
read_range x (b ∷ s) = range_by (inside b) x (b ∷ s) s

abbrev pub item_by : Inside → ℕ → List ℕ → Parsed Item
item_by usual b s = read_range (plain b) s
item_by backslash b s = and_then (read_escaped s) read_range
item_by closing b s = missing
item_by opening b s = read_named names s
item_by caret b s = missing
item_by dash b s = missing

abbrev pub read_item : List ℕ → Parsed Item
read_item [] = missing
read_item (b ∷ s) = item_by (inside b) b s

abbrev pub is_closing : Inside → Bool
is_closing usual = false
is_closing backslash = false
is_closing closing = true
is_closing opening = false
is_closing caret = false
is_closing dash = false

-- Items up to the `]` that ends the class. The number is the bytes left.
unfoldable pub read_items : ℕ → List ℕ → Parsed (List Item)
read_items zero s = missing
read_items (suc f) [] = missing
read_items (suc f) (b ∷ s) = cond (is_closing (inside b)) (found [] s) (and_then (read_item (b ∷ s)) (λ x r. and_then (read_items f r) (λ l r'. found (x ∷ l) r')))

-- From after the `^`, or after the `[`.
abbrev pub read_listed : Bool → List ℕ → Parsed Atom
read_listed c s = and_then (read_item s) (λ x r. and_then (read_items (length r) r) (λ l r'. found (class c x l) r'))

abbrev pub is_caret : Inside → Bool
is_caret usual = false
is_caret backslash = false
is_caret closing = false
is_caret opening = false
is_caret caret = true
is_caret dash = false

-- From after the `[`.
abbrev pub read_class : List ℕ → Parsed Atom
read_class [] = missing
read_class (b ∷ s) = cond (is_caret (inside b)) (read_listed true s) (read_listed false (b ∷ s))

-- A count.
abbrev pub second_digit : ℕ → List ℕ → Parsed Digits
second_digit b [] = found (one b) []
second_digit b (c ∷ s) = cond (is_digit c) (found (two b c) s) (found (one b) (c ∷ s))

abbrev pub read_digits : List ℕ → Parsed Digits
read_digits [] = missing
read_digits (b ∷ s) = only (is_digit b) (second_digit b s)

abbrev pub read_end : Repeat → List ℕ → Parsed Repeat
read_end r [] = missing
read_end r (b ∷ s) = only (eqb b 125) (only (counts r) (found r s))

abbrev pub read_second : Digits → List ℕ → Parsed Repeat
read_second m s = or_else (and_then (read_digits s) (λ n r. read_end (between m n) r)) (read_end (at_least m) s)

abbrev pub read_comma : Digits → List ℕ → Parsed Repeat
read_comma m [] = missing
read_comma m (b ∷ s) = only (eqb b 44) (read_second m s)

-- From after the `{`.
abbrev pub read_count : List ℕ → Parsed Repeat
read_count s = and_then (read_digits s) (λ m r. or_else (read_end (exactly m) r) (read_comma m r))

-- What a beginning comes to: the alternation since the last open bracket, with what was before that bracket if there is one.
pub data Gathered : Type 0 where
  whole : Alternation → Gathered
  within : Before → Alternation → Gathered

abbrev pub front : Atom → Repeat → Alternation → Alternation
front a r (last q) = last (part a r q)
front a r (or q t) = or (part a r q) t

abbrev pub gather : Before → Alternation → Gathered
gather start t = whole t
gather (barred o) t = gather o (or nothing t)
gather (opened o) t = within o t
gather (after o a r) t = gather o (front a r t)

-- One step: on with a longer beginning and fewer bytes, or a refusal with its number.
pub data Move : Type 0 where
  on : Before → List ℕ → Move
  stop : ℕ → Move

abbrev pub put : Before → Repeat → Before
put start r = start
put (barred o) r = barred o
put (opened o) r = opened o
put (after o a x) r = after o a r

-- A `?` after a repeat.
abbrev pub soften : Before → Before
soften start = start
soften (barred o) = barred o
soften (opened o) = opened o
soften (after o a r) = after o a (lazily r)

abbrev pub is_maybe : Repeat → Bool
is_maybe once = false
is_maybe many = false
is_maybe more = false
is_maybe maybe = true
is_maybe (exactly m) = false
is_maybe (at_least m) = false
is_maybe (between m n) = false
is_maybe (lazily r) = false

abbrev pub escape : Before → List ℕ → Move
escape o [] = stop 3
escape o (b ∷ s) = cond (special (kind b)) (on (after o (byte (escaped b)) once) s) (stop 3)

abbrev pub add_atom : Before → Parsed Atom → Move
add_atom o (found a s) = on (after o a once) s
add_atom o missing = stop 4

abbrev pub add_count : Before → Parsed Repeat → Move
add_count o (found r s) = on (put o r) s
add_count o missing = stop 5

abbrev pub add_group : Gathered → List ℕ → Move
add_group (whole t) s = stop 2
add_group (within o t) s = on (after o (group t) once) s

abbrev pub step : Kind → Before → ℕ → List ℕ → Move
step ordinary o b s = on (after o (byte (plain b)) once) s
step backslash o b s = escape o s
step bar o b s = on (barred o) s
step opener o b s = cond (ltb (opens o) max_depth) (on (opened o) s) (stop 7)
step closer o b s = add_group (gather o (last nothing)) s
step bracket o b s = add_atom o (read_class s)
step brace o b s = cond (ready o) (add_count o (read_count s)) (stop 2)
step period o b s = on (after o dot once) s
step stray o b s = stop 2
step (sign r) o b s = cond (ready o) (on (put o r) s) (cond (is_maybe r && softens o) (on (soften o) s) (stop 2))

abbrev pub place : Before → ℕ
place o = length (text o [])

abbrev pub ended : Before → Gathered → Answer
ended o (whole t) = cond (leb (heaviest t) max_weight) (accepted t) (refused 8 (place o))
ended o (within o' t) = refused 6 (place o)

abbrev pub moved : (Before → List ℕ → Answer) → Before → Move → Answer
moved k o (on o' s) = k o' s
moved k o (stop n) = refused n (place o)

-- The number is the bytes left.
unfoldable pub loop : ℕ → Before → List ℕ → Answer
loop zero o s = ended o (gather o (last nothing))
loop (suc f) o [] = ended o (gather o (last nothing))
loop (suc f) o (b ∷ s) = moved (loop f) o (step (kind b) o b s)

unfoldable pub read : List ℕ → Answer
read p = cond (leb (length p) max_bytes) (loop (length p) start p) (refused 1 max_bytes)
