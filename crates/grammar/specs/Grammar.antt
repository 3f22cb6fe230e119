-- "The pattern's grammar": a tree that keeps every choice of the text, its text, and when it is well formed. A pattern is in the grammar exactly if it is
-- the text of a well-formed tree. A text is written in front of what follows it: `alternation t s` is the text of t, then s.
-- Assumes nothing.
use Rattle.std.specs.Prelude.{◌≡◌, ℕ, ◌+◌, ◌*◌, ◌-◌, Bool, true, false, cond, ◌&&◌, List, [], ◌∷◌, ◌++◌, eqb, leb}

-- A byte that stands for itself, bare or after `\`.
pub data Byte : Type 0 where
  plain : ℕ → Byte
  escaped : ℕ → Byte

-- The "named sets".
pub data Name : Type 0 where
  alpha digit alnum upper lower xdigit space punct : Name

-- "An item is a byte, a range low-high, or a named set."
pub data Item : Type 0 where
  single : Byte → Item
  range : Byte → Byte → Item
  named : Name → Item

-- "One or two digits", as bytes.
pub data Digits : Type 0 where
  one : ℕ → Digits
  two : ℕ → ℕ → Digits

-- "Repeats, at most one after an atom": none, `*`, `+`, `?`, `{m}`, `{m,}`, `{m,n}`; and a repeat "followed by `?`" (request 5).
pub data Repeat : Type 0 where
  once many more maybe : Repeat
  exactly : Digits → Repeat
  at_least : Digits → Repeat
  between : Digits → Digits → Repeat
  lazily : Repeat → Repeat

-- "An alternation holds sequences, a sequence holds atoms, and an atom may hold an alternation." "A sequence may be empty."
mutual
  pub data Alternation : Type 0 where
    last : Sequence → Alternation
    or : Sequence → Alternation → Alternation

  pub data Sequence : Type 0 where
    nothing : Sequence
    part : Atom → Repeat → Sequence → Sequence

  -- A class has its `^` or not, and "one or more items": the first, and the others.
  pub data Atom : Type 0 where
    byte : Byte → Atom
    dot : Atom
    class : Bool → Item → List Item → Atom
    group : Alternation → Atom

-- What a byte is outside a class.
pub data Kind : Type 0 where
  ordinary backslash bar opener closer bracket brace period stray : Kind
  sign : Repeat → Kind

unfoldable pub kind : ℕ → Kind
kind b =
    cond (eqb b 92) backslash  -- \
    (cond (eqb b 124) bar  -- |
    (cond (eqb b 40) opener  -- (
    (cond (eqb b 41) closer  -- )
    (cond (eqb b 91) bracket  -- [
    (cond (eqb b 123) brace  -- {
    (cond (eqb b 42) (sign many)  -- *
    (cond (eqb b 43) (sign more)  -- +
    (cond (eqb b 63) (sign maybe)  -- ?
    (cond (eqb b 46) period  -- .
    (cond (eqb b 93) stray  -- ]
    (cond (eqb b 125) stray  -- }
    (cond (eqb b 94) stray  -- ^
    (cond (eqb b 36) stray  -- $
    ordinary)))))))))))))

-- "Special outside a class": every byte that is not ordinary.
abbrev pub special : Kind → Bool
special ordinary = false
special backslash = true
special bar = true
special opener = true
special closer = true
special bracket = true
special brace = true
special period = true
special stray = true
special (sign r) = true

-- What a byte is inside a class: `\`, `]`, `[`, `^`, `-`, or any other.
pub data Inside : Type 0 where
  usual backslash closing opening caret dash : Inside

unfoldable pub inside : ℕ → Inside
inside b =
    cond (eqb b 92) Inside.backslash
    (cond (eqb b 93) closing
    (cond (eqb b 91) opening
    (cond (eqb b 94) caret
    (cond (eqb b 45) dash usual))))

-- "These five stand for themselves only when so escaped."
abbrev pub marked : Inside → Bool
marked usual = false
marked backslash = true
marked closing = true
marked opening = true
marked caret = true
marked dash = true

-- The texts: of a byte,
abbrev pub byte_text : Byte → List ℕ → List ℕ
byte_text (plain b) s = b ∷ s
byte_text (escaped b) s = 92 ∷ b ∷ s

-- of a name, in letters,
abbrev pub name_text : Name → List ℕ
name_text alpha = 97 ∷ 108 ∷ 112 ∷ 104 ∷ 97 ∷ []
name_text digit = 100 ∷ 105 ∷ 103 ∷ 105 ∷ 116 ∷ []
name_text alnum = 97 ∷ 108 ∷ 110 ∷ 117 ∷ 109 ∷ []
name_text upper = 117 ∷ 112 ∷ 112 ∷ 101 ∷ 114 ∷ []
name_text lower = 108 ∷ 111 ∷ 119 ∷ 101 ∷ 114 ∷ []
name_text xdigit = 120 ∷ 100 ∷ 105 ∷ 103 ∷ 105 ∷ 116 ∷ []
name_text space = 115 ∷ 112 ∷ 97 ∷ 99 ∷ 101 ∷ []
name_text punct = 112 ∷ 117 ∷ 110 ∷ 99 ∷ 116 ∷ []

-- and between the `:` and `:]` of `[:digit:]`, whose `[` stands before it,
abbrev pub named_text : Name → List ℕ
named_text n = 58 ∷ name_text n ++ (58 ∷ 93 ∷ [])

-- of items,
abbrev pub item_text : Item → List ℕ → List ℕ
item_text (single x) s = byte_text x s
item_text (range x y) s = byte_text x (45 ∷ byte_text y s)
item_text (named n) s = 91 ∷ named_text n ++ s

abbrev pub items_text : List Item → List ℕ → List ℕ
items_text [] s = s
items_text (x ∷ l) s = item_text x (items_text l s)

abbrev pub caret_text : Bool → List ℕ → List ℕ
caret_text true s = 94 ∷ s
caret_text false s = s

-- of a class, from its `[` on,
abbrev pub class_text : Bool → Item → List Item → List ℕ → List ℕ
class_text c x l s = 91 ∷ caret_text c (item_text x (items_text l (93 ∷ s)))

-- of a repeat,
abbrev pub digits_text : Digits → List ℕ → List ℕ
digits_text (one b) s = b ∷ s
digits_text (two b c) s = b ∷ c ∷ s

abbrev pub repeat_text : Repeat → List ℕ → List ℕ
repeat_text once s = s
repeat_text many s = 42 ∷ s
repeat_text more s = 43 ∷ s
repeat_text maybe s = 63 ∷ s
repeat_text (exactly m) s = 123 ∷ digits_text m (125 ∷ s)
repeat_text (at_least m) s = 123 ∷ digits_text m (44 ∷ 125 ∷ s)
repeat_text (between m n) s = 123 ∷ digits_text m (44 ∷ digits_text n (125 ∷ s))
repeat_text (lazily r) s = repeat_text r (63 ∷ s)

-- and of the whole.
abbrev mutual
  pub alternation : Alternation → List ℕ → List ℕ
  alternation (last q) s = sequence q s
  alternation (or q t) s = sequence q (124 ∷ alternation t s)

  pub sequence : Sequence → List ℕ → List ℕ
  sequence nothing s = s
  sequence (part a r q) s = atom a (repeat_text r (sequence q s))

  pub atom : Atom → List ℕ → List ℕ
  atom (byte x) s = byte_text x s
  atom dot s = 46 ∷ s
  atom (class c x l) s = class_text c x l s
  atom (group t) s = 40 ∷ alternation t (41 ∷ s)

-- Well formed. "A `\` before one of" the special bytes "gives that byte. Any other byte is itself."
abbrev pub WfByte : Byte → Type 0
WfByte (plain b) = kind b ≡ ordinary
WfByte (escaped b) = special (kind b) ≡ true

-- "Inside, `\` goes before `\ ] [ ^ -` only."
abbrev pub WfInner : Byte → Type 0
WfInner (plain b) = inside b ≡ usual
WfInner (escaped b) = marked (inside b) ≡ true

-- The byte that it stands for.
abbrev pub value : Byte → ℕ
value (plain b) = b
value (escaped b) = b

-- "A range low-high with low not above high." "A named set is no end of a range."
abbrev pub WfItem : Item → Type 0
WfItem (single x) = WfInner x
WfItem (range x y) = WfInner x × WfInner y × (leb (value x) (value y) ≡ true)
WfItem (named n) = Unit {0}

abbrev pub WfItems : List Item → Type 0
WfItems [] = Unit {0}
WfItems (x ∷ l) = WfItem x × WfItems l

abbrev pub is_digit : ℕ → Bool
is_digit b = leb 48 b && leb b 57

abbrev pub WfDigits : Digits → Type 0
WfDigits (one b) = is_digit b ≡ true
WfDigits (two b c) = (is_digit b ≡ true) × (is_digit c ≡ true)

abbrev pub digits_value : Digits → ℕ
digits_value (one b) = b - 48
digits_value (two b c) = 10 * (b - 48) + (c - 48)

-- "m and n at most 63, m not above n."
abbrev pub counts : Repeat → Bool
counts once = true
counts many = true
counts more = true
counts maybe = true
counts (exactly m) = leb (digits_value m) 63
counts (at_least m) = leb (digits_value m) 63
counts (between m n) = leb (digits_value m) (digits_value n) && leb (digits_value n) 63
counts (lazily r) = counts r

-- "A `?` after a repeat is thus legal once."
abbrev pub unmarked : Repeat → Bool
unmarked once = false
unmarked many = true
unmarked more = true
unmarked maybe = true
unmarked (exactly m) = true
unmarked (at_least m) = true
unmarked (between m n) = true
unmarked (lazily r) = false

abbrev pub WfRepeat : Repeat → Type 0
WfRepeat once = Unit {0}
WfRepeat many = Unit {0}
WfRepeat more = Unit {0}
WfRepeat maybe = Unit {0}
WfRepeat (exactly m) = WfDigits m × (counts (exactly m) ≡ true)
WfRepeat (at_least m) = WfDigits m × (counts (at_least m) ≡ true)
WfRepeat (between m n) = WfDigits m × WfDigits n × (counts (between m n) ≡ true)
WfRepeat (lazily r) = WfRepeat r × (unmarked r ≡ true)

abbrev mutual
  pub WfAlternation : Alternation → Type 0
  WfAlternation (last q) = WfSequence q
  WfAlternation (or q t) = WfSequence q × WfAlternation t

  pub WfSequence : Sequence → Type 0
  WfSequence nothing = Unit {0}
  WfSequence (part a r q) = WfAtom a × WfRepeat r × WfSequence q

  pub WfAtom : Atom → Type 0
  WfAtom (byte x) = WfByte x
  WfAtom dot = Unit {0}
  WfAtom (class c x l) = WfItem x × WfItems l
  WfAtom (group t) = WfAlternation t
