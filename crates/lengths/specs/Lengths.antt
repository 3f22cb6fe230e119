-- Request 6, "shortest and longest": "the least and the greatest length an accepted pattern could match, each leaf counted as 1 whatever its set".
-- Assumes nothing.
use Rattle.std.specs.Prelude.{◌⊎◌, ◌≢◌, ℕ, zero, suc, ◌+◌, ◌*◌, ◌-◌, ◌≤◌, min, max}
use Rattle.theory.specs.Spans.{Span, nowhere, span}
use Rattle.grammar.specs.Grammar.{digits_value, Repeat, once, many, more, maybe, exactly, at_least, between, lazily, Alternation, last, or, Sequence, nothing, part, Atom, byte, dot, class, group}

-- A greatest length: a number, or "no limit".
pub data Longest : Type 0 where
  limit : ℕ → Longest
  no_limit : Longest

-- Of two parts, from the numbers of both: without a limit of one there is none.
abbrev pub together : (ℕ → ℕ → ℕ) → Longest → Longest → Longest
together f no_limit h = no_limit
together f (limit a) no_limit = no_limit
together f (limit a) (limit b) = limit (f a b)

-- Of n copies in a row: "under `{0}` or `{0,0}` it is not kept",
abbrev pub copies : ℕ → Longest → Longest
copies zero g = limit 0
copies (suc n) g = together ◌+◌ g (copies n g)

-- and under `*`: "no limit" over "a part whose greatest is not 0".
abbrev pub endless : Longest → Longest
endless no_limit = no_limit
endless (limit zero) = limit 0
endless (limit (suc n)) = no_limit

-- The least and the greatest length of a part:
pub record Extent : Type 0 where
  pub least : ℕ
  pub greatest : Longest

-- of the empty sequence, of a leaf,
abbrev pub no_byte : Extent
no_byte = record { least = 0; greatest = limit 0 }

abbrev pub one_byte : Extent
one_byte = record { least = 1; greatest = limit 1 }

-- of two parts in a row, of two of which one is taken,
abbrev pub in_row : Extent → Extent → Extent
in_row x y = record { least = x.least + y.least; greatest = together ◌+◌ x.greatest y.greatest }

abbrev pub one_of : Extent → Extent → Extent
one_of x y = record { least = min x.least y.least; greatest = together max x.greatest y.greatest }

-- of m copies up to n, and of m copies or more;
abbrev pub up_to : ℕ → ℕ → Extent → Extent
up_to m n x = record { least = m * x.least; greatest = copies n x.greatest }

abbrev pub or_more : ℕ → Extent → Extent
or_more m x = record { least = m * x.least; greatest = endless x.greatest }

-- of a repeat over a part,
abbrev pub under_repeat : Repeat → Extent → Extent
under_repeat once x = x
under_repeat many x = or_more 0 x
under_repeat more x = or_more 1 x
under_repeat maybe x = up_to 0 1 x
under_repeat (exactly m) x = up_to (digits_value m) (digits_value m) x
under_repeat (at_least m) x = or_more (digits_value m) x
under_repeat (between m n) x = up_to (digits_value m) (digits_value n) x
under_repeat (lazily r) x = under_repeat r x

-- and of a pattern.
unfoldable mutual
  pub lengths : Alternation → Extent
  lengths (last q) = lengths_within q
  lengths (or q t) = one_of (lengths_within q) (lengths t)

  pub lengths_within : Sequence → Extent
  lengths_within nothing = no_byte
  lengths_within (part a r q) = in_row (under_repeat r (lengths_atom a)) (lengths_within q)

  pub lengths_atom : Atom → Extent
  lengths_atom (byte x) = one_byte
  lengths_atom dot = one_byte
  lengths_atom (class c x l) = one_byte
  lengths_atom (group t) = lengths t

-- "The greatest is 'no limit' if `*`, `+` or `{m,}` stands over a part whose greatest is not 0 and the part is kept; under `{0}` or `{0,0}` it is not kept."
-- In these words (`no_limit_exactly`): the repeat is one of the three,
abbrev pub Endless : Repeat → Type 0
Endless once = ⊥
Endless many = Unit {0}
Endless more = Unit {0}
Endless maybe = ⊥
Endless (exactly m) = ⊥
Endless (at_least m) = Unit {0}
Endless (between m n) = ⊥
Endless (lazily r) = Endless r

-- what it stands over is kept,
abbrev pub Kept : Repeat → Type 0
Kept once = Unit {0}
Kept many = Unit {0}
Kept more = Unit {0}
Kept maybe = Unit {0}
Kept (exactly m) = digits_value m ≢ 0
Kept (at_least m) = Unit {0}
Kept (between m n) = digits_value n ≢ 0
Kept (lazily r) = Kept r

-- and such a repeat is kept in the pattern.
abbrev mutual
  pub Unlimited : Alternation → Type 0
  Unlimited (last q) = UnlimitedIn q
  Unlimited (or q t) = UnlimitedIn q ⊎ Unlimited t

  pub UnlimitedIn : Sequence → Type 0
  UnlimitedIn nothing = ⊥
  UnlimitedIn (part a r q) = (Endless r × ((lengths_atom a).greatest ≢ limit 0)) ⊎ ((Kept r × UnlimitedAtom a) ⊎ UnlimitedIn q)

  pub UnlimitedAtom : Atom → Type 0
  UnlimitedAtom (byte x) = ⊥
  UnlimitedAtom dot = ⊥
  UnlimitedAtom (class c x l) = ⊥
  UnlimitedAtom (group t) = Unlimited t

-- A length that is not above a greatest one.
abbrev pub NotAbove : Longest → ℕ → Type 0
NotAbove (limit M) n = n ≤ M
NotAbove no_limit n = Unit {0}

-- A span "has a length between the two".
abbrev pub LengthBetween : Extent → Span → Type 0
LengthBetween x nowhere = Unit {0}
LengthBetween x (span i j) = (i ≤ j) × (x.least ≤ j - i) × NotAbove x.greatest (j - i)
