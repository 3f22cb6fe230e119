-- Lines: what stands up to a newline in the bytes read so far and those read next, of a long one its first 1,025 bytes.
-- Assumes nothing.
use Rattle.std.specs.Prelude.{◌≡◌, Bool, true, false, cond, List, [], ◌∷◌, ◌++◌, ℕ, ◌≤◌, ◌<◌, eqb, ltb, length, get_or, take, drop, replicate}
use Rattle.lines.specs.declared.Source.{Source}
use Rattle.lines.specs.declared.Source.TheVariants.{Open, Over, Unread, Unwritten}
use Rattle.lines.specs.declared.Chunk.{Chunk}
use Rattle.lines.specs.declared.Part.{Part}
use Rattle.lines.specs.declared.Input.{Input}

-- The text begins with the word,
abbrev pub Begins : List ℕ → List ℕ → Type 0
Begins s word = (length word ≤ length s) × ((k : ℕ) → k < length word → get_or s k 0 ≡ get_or word k 0)

-- and whether it does.
pub record BeginsWith (s word : List ℕ) (r : Bool) : Type 0 where
  pub yes : r ≡ true → Begins s word
  pub no : r ≡ false → Begins s word → ⊥

-- The bytes before the first newline, 10; all of them if there is none.
abbrev pub up_to : List ℕ → List ℕ
up_to [] = []
up_to (b ∷ s) = cond (eqb b 10) [] (b ∷ up_to s)

-- A newline is there.
abbrev pub ended : List ℕ → Bool
ended [] = false
ended (b ∷ s) = cond (eqb b 10) true (ended s)

-- The bytes after the first newline; none if there is none.
abbrev pub past : List ℕ → List ℕ
past [] = []
past (b ∷ s) = cond (eqb b 10) s (past s)

-- What is kept of a line: its first 1,025 bytes, one more than an order line may have.
abbrev pub kept : List ℕ → List ℕ
kept l = take 1025 l

-- The bytes of the chunk that are still to be read.
abbrev pub rest : Chunk → List ℕ
rest c = drop c.at (take c.end c.bytes)

-- The bytes that are kept of a line.
abbrev pub held : Part → List ℕ
held l = take l.n l.bytes

-- What is kept of a line that has begun: nothing if the last one is whole.
abbrev pub begun : Part → List ℕ
begun l = cond l.whole [] (held l)

-- The line goes on with the bytes that are still to be read, up to its newline. What follows the newline is still to be read then.
pub record NextLine (s r : Input) : Type 0 where
  pub bytes : held r.line ≡ kept (begun s.line ++ up_to (rest s.chunk))
  pub whole : r.line.whole ≡ ended (rest s.chunk)
  pub left : rest r.chunk ≡ past (rest s.chunk)
  pub onward : s.chunk.at < s.chunk.end → s.chunk.at < r.chunk.at
  pub end : r.chunk.end ≡ s.chunk.end
  pub chunk : r.chunk.bytes ≡ s.chunk.bytes
  pub source : r.source ≡ s.source

-- A line, if these are the bytes kept of it and those still to be read: it ends in them, or it goes on with the bytes that are read next. The last ones are what
-- follows its newline.
pub data Line : List ℕ → List ℕ → List ℕ → List ℕ → Type 0 where
  here : {first bytes : List ℕ} → ended bytes ≡ true → Line first bytes (kept (first ++ up_to bytes)) (past bytes)
  later : {first bytes line left : List ℕ} (more : List ℕ) → ended bytes ≡ false → Line (kept (first ++ bytes)) more line left → Line first bytes line left

-- There may be a further line: the source is open, or over and the chunk is not read to its end.
abbrev pub further : Source → ℕ → ℕ → Bool
further Open i e = true
further Over i e = ltb i e
further Unread i e = false
further Unwritten i e = false

abbrev pub goes_on : Input → Bool
goes_on s = further s.source s.chunk.at s.chunk.end

-- Nothing is read yet.
abbrev pub fresh : Input
fresh = record { chunk = record { bytes = replicate 65536 0; at = 0; end = 0 }; line = record { bytes = replicate 1025 0; n = 0; whole = false }; source = Open }

-- The first line of the input; there is none if the input is over or cannot be read.
pub record FirstLine (r : Input) : Type 0 where
  pub found : r.line.whole ≡ true → Line [] [] (held r.line) (rest r.chunk)
  pub none : r.line.whole ≡ false → goes_on r ≡ false
