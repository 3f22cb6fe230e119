-- Blocks of leaves as the code has them: what the functions make of them for a byte, and what is found by them.
-- Assumes nothing.
use Rattle.std.specs.Prelude.{◌≡◌, ◌⊎◌, ℕ, suc, ◌+◌, ◌≤◌, ◌<◌, Bool, true, not, ◌&&◌, List, [], ◌∷◌, ◌++◌, length, get_or, set, drop, Option, None, Some}
use Rattle.std.specs.Int.Bits.{bit_and}
use Rattle.theory.specs.Pattern.{Re, count}
use Rattle.theory.specs.Spans.{Span, nowhere, span}
use Rattle.theory.specs.Standing.{member}
use Rattle.words.specs.Sets.{has_bit}
use Rattle.facts.specs.Sets.{leaves_in, Wants, Nexts, Takes}
use Rattle.facts.specs.Moves.{Bytes, Moves}
use Rattle.blocks.specs.Blocks.{Block, State, onto, carry, step}
use Rattle.blocks.specs.Answer.{later, answer}
use Rattle.blocks.specs.Arrays.{blocks_at}
use Rattle.starts.specs.declared.Blocks.{Blocks}
use Rattle.starts.specs.declared.Carry.{Carry}
use Rattle.starts.specs.declared.First.{First}
use Rattle.starts.specs.declared.Span as Code
use Rattle.starts.specs.Spans.{span_of}

-- d of the blocks from the place q on.
abbrev pub blocks_of : Re → Blocks → ℕ → ℕ → List Block
blocks_of r x q d = blocks_at (leaves_in (count r)) x.starts x.sets q d

-- The state that the blocks and the best span are.
abbrev pub state_of : Re → Blocks → Span → State
state_of r x best = record { blocks = blocks_of r x 0 x.n; best = best }

-- How many there are, and the first.
abbrev pub first_of : Blocks → First
first_of x = record { n = x.n; set = get_or x.sets 0 0; start = get_or x.starts 0 0 }

-- The arrays have their length.
abbrev pub Sized : Blocks → Type 0
Sized x = (length x.sets ≡ 64) × (length x.starts ≡ 64)

-- r is the leaves of x that are not in y.
abbrev pub Without : ℕ → ℕ → ℕ → Type 0
Without x y r = (p : ℕ) → has_bit r p ≡ (has_bit x p && not (has_bit y p))

-- A block is put behind the others, unless its set is empty or there is no room.
pub record Stored (start set' : ℕ) (x x' : Blocks) : Type 0 where
  pub cases : ((set' ≡ 0) × (x' ≡ x))
      ⊎ (((set' ≡ 0 → ⊥) × (x.n < 64) × (x' ≡ record { sets = set x.sets x.n set'; starts = set x.starts x.n start; n = x.n + 1 }))
      ⊎ ((set' ≡ 0 → ⊥) × (64 ≤ x.n) × (x' ≡ x)))

-- On the way to the state t by the byte b at the place j: c and x are what is carried on so far, and the blocks `rest` are to be.
pub record Going (r : Re) (b j : ℕ) (best : Span) (rest : List Block) (t : State) (x : Blocks) (c : Carry) : Type 0 where
  pub room : length t.blocks ≤ 64
  pub ahead : c.found ≡ None → (taken : List ℕ) × ((p : ℕ) → p < count r → has_bit c.taken p ≡ member p taken) × (onto (blocks_of r x 0 x.n) (carry r b j best taken rest) ≡ t)
  pub shut : (s : Code.Span) → c.found ≡ Some s → state_of r x (span s.start s.end) ≡ t

-- One block more is carried on, from `start` on to the place `end`.
pub record On (c : Carry) (start end took to ending : ℕ) (x x' : Blocks) (c' : Carry) : Type 0 where
  pub sized : Sized x'
  pub small : x'.n ≤ 64
  pub most : x'.n ≤ x.n + 1
  pub same : (k : ℕ) → x.n < k → (get_or x'.sets k 0 ≡ get_or x.sets k 0) × (get_or x'.starts k 0 ≡ get_or x.starts k 0)
  pub going : (r : Re) (b j : ℕ) (best : Span) (l : List ℕ) (rest : List Block) (t : State) → end ≡ suc j → Takes r b l took to ending → c.found ≡ None
      → Going r b j best (record { from = start; leaves = l } ∷ rest) t x c → Going r b j best rest t x' c'

-- At the byte b, whose mask it is, and the place j before `end`, for a pattern with these rows.
pub record Byte (r : Re) (sets : List ℕ) (mask ending end b j : ℕ) : Type 0 where
  pub masks : List ℕ
  pub moves : Moves r masks sets ending
  pub byte : b < 256
  pub mask_is : mask ≡ get_or masks b 0
  pub end_is : end ≡ suc j

-- The block at q is carried on.
pub record OnBlock (sets : List ℕ) (c : Carry) (q end mask ending : ℕ) (x x' : Blocks) (c' : Carry) : Type 0 where
  pub sized : Sized x'
  pub most : x'.n ≤ q + 1
  pub going : (r : Re) (b j : ℕ) → Byte r sets mask ending end b j → (best : Span) (more : List Block) (t : State) (d : ℕ) → c.found ≡ None
      → Going r b j best (blocks_of r x q (suc d) ++ more) t x c → Going r b j best (blocks_of r x' (q + 1) d ++ more) t x' c'

-- All blocks are, or those up to the first with an end.
pub record OnAll (sets : List ℕ) (end mask ending : ℕ) (x x' : Blocks) (c' : Carry) : Type 0 where
  pub sized : Sized x'
  pub most : x'.n ≤ x.n
  pub going : (r : Re) (b j : ℕ) → Byte r sets mask ending end b j → (best : Span) (more : List Block) (t : State) → length t.blocks ≤ 64
      → carry r b j best [] (blocks_of r x 0 x.n ++ more) ≡ t → Going r b j best more t x' c'

-- THE STEP: where nothing is found, by the byte at the place j. `next` is what the first leaves want after it.
pub record Stepped (sets : List ℕ) (i end mask next ending : ℕ) (x x' : Blocks) (c' : Carry) : Type 0 where
  pub sized : Sized x'
  pub small : x'.n ≤ 64
  pub going : (r : Re) (b : ℕ) → Byte r sets mask ending end b i → Wants sets (bit_and (get_or sets 0 0) mask) next
      → Going r b i nowhere [] (step r b i (state_of r x nowhere)) x' c'

-- If the test passes, one block of a start before i is as it was.
abbrev pub Kept : Bool → ℕ → First → First → Type 0
Kept is i f f' = is ≡ true → (f ≡ f') × (f.n ≡ 1) × (f.start < i)

-- After a span is found, from the place i on: what the blocks will answer.
pub record Finished (masks sets w : List ℕ) (ending i : ℕ) (x : Blocks) (found best : Code.Span) : Type 0 where
  pub answers : {r : Re} → Moves r masks sets ending → Bytes w → answer r (drop i w) i (state_of r x (span found.start found.end)) ≡ span best.start best.end

-- The first start from the place i on that has an end further on, with its last one.
pub record Searched (masks sets next w : List ℕ) (i : ℕ) (best : Option Code.Span) : Type 0 where
  pub finds : {r : Re} → Moves r masks sets (get_or next 256 0) → Nexts masks sets next → Bytes w → later r (drop i w) i ≡ span_of best
