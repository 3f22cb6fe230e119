-- The lines that the programs print (paper 01, "The programs"), as bytes in ASCII, and what it is to append them to a buffer.
-- Assumes nothing.
use Rattle.std.specs.Prelude.{◌≡◌, ℕ, zero, suc, ◌+◌, ◌*◌, ◌≤◌, min, ◌&&◌, cond, List, [], ◌∷◌, ◌++◌, length, get_or, take, None, Some}
use Rattle.std.proofs.Math.Option.{Option, none, some}
use Rattle.words.specs.Sets.{has_bit}
use Rattle.io.specs.Digits.{last_digits, IsDigitCount}
use Rattle.printing.specs.declared.Output.{Output}

-- The buffer of 65,536 bytes, which held n of them, now holds m: w is added to them, as far as it fits.
pub record Appended (old : List ℕ) (n : ℕ) (w : List ℕ) (new : List ℕ) (m : ℕ) : Type 0 where
  pub buffer : length old ≡ 65536
  pub size : m ≡ min 65536 (n + length w)
  pub text : take m new ≡ take m (take n old ++ w)

-- The same of an output: w is added to what waits.
abbrev pub Adds : Output → List ℕ → Output → Type 0
Adds old w new = Appended old.bytes old.used w new.bytes new.used

-- A number in decimal, in the fewest digits.
pub record Decimal (x : ℕ) (w : List ℕ) : Type 0 where
  pub places : ℕ
  pub fewest : IsDigitCount 10 1 x places
  pub text : w ≡ last_digits 10 places x

-- Bytes "in lower-case hex", two digits each.
abbrev pub hex : List ℕ → List ℕ
hex [] = []
hex (b ∷ l) = last_digits 16 2 b ++ hex l

-- A space and a number after it.
pub record Field (x : ℕ) (w : List ℕ) : Type 0 where
  pub number : List ℕ
  pub decimal : Decimal x number
  pub text : w ≡ 32 ∷ number

-- "Fields: verdict, record count": alike.
pub record AlikeLine (count : ℕ) (w : List ℕ) : Type 0 where
  pub field : List ℕ
  pub is : Field count field
  pub text : w ≡ (97 ∷ 108 ∷ 105 ∷ 107 ∷ 101 ∷ []) ++ (field ++ (10 ∷ []))

-- "verdict, record count, witness in lower-case hex": unlike.
pub record UnlikeLine (count : ℕ) (witness : List ℕ) (w : List ℕ) : Type 0 where
  pub field : List ℕ
  pub is : Field count field
  pub text : w ≡ (117 ∷ 110 ∷ 108 ∷ 105 ∷ 107 ∷ 101 ∷ []) ++ (field ++ (32 ∷ (hex witness ++ (10 ∷ []))))

-- "or number, place": refused.
pub record RefusedLine (number place : ℕ) (w : List ℕ) : Type 0 where
  pub first : List ℕ
  pub second : List ℕ
  pub is : Field number first
  pub at : Field place second
  pub text : w ≡ (114 ∷ 101 ∷ 102 ∷ 117 ∷ 115 ∷ 101 ∷ 100 ∷ []) ++ (first ++ (second ++ (10 ∷ [])))

-- What ends the text of how long a match can be (request 6): " greatest 2" or " no limit".
pub data LimitText : Option ℕ → List ℕ → Type 0 where
  limited : {x : ℕ} {w : List ℕ} → Field x w → LimitText (some x) ((32 ∷ 103 ∷ 114 ∷ 101 ∷ 97 ∷ 116 ∷ 101 ∷ 115 ∷ 116 ∷ []) ++ w)
  unlimited : LimitText none (32 ∷ 110 ∷ 111 ∷ 32 ∷ 108 ∷ 105 ∷ 109 ∷ 105 ∷ 116 ∷ [])

-- "least 1", and then the limit.
pub record LengthsText (least : ℕ) (greatest : Option ℕ) (w : List ℕ) : Type 0 where
  pub first : List ℕ
  pub rest : List ℕ
  pub is : Field least first
  pub ends : LimitText greatest rest
  pub text : w ≡ (108 ∷ 101 ∷ 97 ∷ 115 ∷ 116 ∷ []) ++ (first ++ rest)

-- What the reader hands over for an accepted pattern: how many parts and leaves it has written out, how many bytes the sets of its leaves hold together, and how long a
-- match can be.
pub record AcceptedLine (parts leaves members least : ℕ) (greatest : Option ℕ) (w : List ℕ) : Type 0 where
  pub first : List ℕ
  pub second : List ℕ
  pub third : List ℕ
  pub rest : List ℕ
  pub is : Field parts first
  pub with : Field leaves second
  pub holding : Field members third
  pub long : LengthsText least greatest rest
  pub text : w ≡ (97 ∷ 99 ∷ 99 ∷ 101 ∷ 112 ∷ 116 ∷ 101 ∷ 100 ∷ []) ++ (first ++ (second ++ (third ++ (32 ∷ (rest ++ (10 ∷ []))))))

-- "none".
abbrev pub none_line : List ℕ
none_line = 110 ∷ 111 ∷ 110 ∷ 101 ∷ 10 ∷ []

-- "greedy 0 1 posix 0 2".
pub record SpansLine (start greedy posix : ℕ) (w : List ℕ) : Type 0 where
  pub from : List ℕ
  pub short : List ℕ
  pub long : List ℕ
  pub is : Field start from
  pub greedily : Field greedy short
  pub longest : Field posix long
  pub text : w ≡ (103 ∷ 114 ∷ 101 ∷ 101 ∷ 100 ∷ 121 ∷ []) ++ (from ++ (short ++ ((32 ∷ 112 ∷ 111 ∷ 115 ∷ 105 ∷ 120 ∷ []) ++ (from ++ (long ++ (10 ∷ []))))))

-- What each bracket of a pattern takes (request 2), in order: its start and end, or `-` if it is absent.
pub data Pairs : List (Option (ℕ × ℕ)) → List ℕ → Type 0 where
  no_pairs : Pairs [] []
  absent : {l : List (Option (ℕ × ℕ))} {w : List ℕ} → Pairs l w → Pairs (l ++ (none ∷ [])) (w ++ (32 ∷ 45 ∷ []))
  between : {l : List (Option (ℕ × ℕ))} {w u v : List ℕ} {a b : ℕ} → Pairs l w → Field a u → Field b v → Pairs (l ++ (some (a, b) ∷ [])) (w ++ (u ++ v))

-- The pair of the bracket f + 1: place f and place 8 + f, if both bits are set.
abbrev pub pair_at : ℕ → List ℕ → ℕ → Option (ℕ × ℕ)
pair_at known places f = cond (has_bit known f && has_bit known (8 + f)) (some (get_or places f 0, get_or places (8 + f) 0)) none

-- Of the first n brackets; there are at most eight.
unfoldable pub pairs_of : ℕ → ℕ → List ℕ → List (Option (ℕ × ℕ))
pairs_of zero known places = []
pairs_of (suc n) known places = pairs_of n known places ++ (pair_at known places n ∷ [])

-- "greedy 0 2 fields 1 2 -": the greedy span, and what its brackets take.
pub record FieldsLine (start end : ℕ) (pairs : List (Option (ℕ × ℕ))) (w : List ℕ) : Type 0 where
  pub from : List ℕ
  pub to : List ℕ
  pub rest : List ℕ
  pub is : Field start from
  pub ends : Field end to
  pub are : Pairs pairs rest
  pub text : w ≡ (103 ∷ 114 ∷ 101 ∷ 101 ∷ 100 ∷ 121 ∷ []) ++ (from ++ (to ++ ((32 ∷ 102 ∷ 105 ∷ 101 ∷ 108 ∷ 100 ∷ 115 ∷ []) ++ (rest ++ (10 ∷ [])))))

-- The verdict unlike, without its newline, after a space the spans of the witness, and " readable ": the witness in readable bytes, in hex (request 3).
pub record ExplainedLine (count : ℕ) (witness : List ℕ) (start greedy posix : ℕ) (readable : List ℕ) (w : List ℕ) : Type 0 where
  pub verdict : List ℕ
  pub spans : List ℕ
  pub is : UnlikeLine count witness (verdict ++ (10 ∷ []))
  pub cut : SpansLine start greedy posix (spans ++ (10 ∷ []))
  pub text : w ≡ verdict ++ (32 ∷ (spans ++ ((32 ∷ 114 ∷ 101 ∷ 97 ∷ 100 ∷ 97 ∷ 98 ∷ 108 ∷ 101 ∷ 32 ∷ []) ++ (hex readable ++ (10 ∷ [])))))

-- "looks 9 comparisons 18 ": how much looking a check took (request 4), before the verdict's line.
pub record LookingText (looks comparisons : ℕ) (w : List ℕ) : Type 0 where
  pub first : List ℕ
  pub second : List ℕ
  pub is : Field looks first
  pub with : Field comparisons second
  pub text : w ≡ (108 ∷ 111 ∷ 111 ∷ 107 ∷ 115 ∷ []) ++ (first ++ ((32 ∷ 99 ∷ 111 ∷ 109 ∷ 112 ∷ 97 ∷ 114 ∷ 105 ∷ 115 ∷ 111 ∷ 110 ∷ 115 ∷ []) ++ (second ++ (32 ∷ []))))

-- Text of the kind L, and a space after it.
pub record Ahead (L : List ℕ → Type 0) (w : List ℕ) : Type 0 where
  pub head : List ℕ
  pub is : L head
  pub text : w ≡ head ++ (32 ∷ [])

-- Numbers, each after a space.
pub data Fields : List ℕ → List ℕ → Type 0 where
  no_fields : Fields [] []
  field : {l w u : List ℕ} {x : ℕ} → Fields l w → Field x u → Fields (l ++ (x ∷ [])) (w ++ u)

-- "groups 0 0 1 ..": the number of each byte's group (request 3).
pub record GroupsLine (numbers : List ℕ) (w : List ℕ) : Type 0 where
  pub rest : List ℕ
  pub are : Fields numbers rest
  pub text : w ≡ (103 ∷ 114 ∷ 111 ∷ 117 ∷ 112 ∷ 115 ∷ []) ++ (rest ++ (10 ∷ []))

-- So many bytes, and two for each byte of a witness.
abbrev pub room : ℕ → List ℕ → ℕ
room k witness = k + 2 * length witness

-- A line of the kind L, of at most k bytes, is appended.
abbrev pub Printed : ℕ → (List ℕ → Type 0) → List ℕ → ℕ → List ℕ → ℕ → Type 0
Printed k L old n new m = (w : List ℕ) × L w × (length w ≤ k) × Appended old n w new m

-- The same of an output.
abbrev pub Prints : ℕ → (List ℕ → Type 0) → Output → Output → Type 0
Prints k L old new = Printed k L old.bytes old.used new.bytes new.used

-- What the code has, or nothing.
abbrev pub option_of : {A : Type 0} → Rattle.std.specs.Prelude.Option A → Option A
option_of None = none
option_of (Some x) = some x
