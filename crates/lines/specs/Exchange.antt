-- The exchange: what waits is written out, and where the chunk is read to its end the next one is read.
-- Assumes nothing.
use Rattle.std.specs.Prelude.{◌≡◌, Bool, false, cond, List, [], ◌∷◌, ℕ, ◌≤◌, ◌<◌, min, ltb, Option, None, Some, take}
use Rattle.printing.specs.declared.Output.{Output}
use Rattle.lines.specs.declared.Source.{Source}
use Rattle.lines.specs.declared.Source.TheVariants.{Open, Over, Unread, Unwritten}
use Rattle.lines.specs.declared.Part.{Part}
use Rattle.lines.specs.declared.Input.{Input}
use Rattle.lines.specs.Lines.{goes_on}

-- Nothing waits any more.
abbrev pub emptied : Output → Output
emptied o = record { bytes = o.bytes; used = 0 }

-- The same with that source.
abbrev pub of_source : Input → Source → Input
of_source s x = record { chunk = s.chunk; line = s.line; source = x }

-- What waits is written out, or it cannot be.
pub data Written (s : Input) (o : Output) (r : Input) (o' : Output) : Type 0 where
  done : r ≡ s → o' ≡ emptied o → Written s o r o'
  failed : r ≡ of_source s Unwritten → o' ≡ emptied o → Written s o r o'

-- The first e of these bytes are still to be read. A line that has begun has begun still.
abbrev pub filled : Input → List ℕ → ℕ → Source → Input
filled s b e x = record { chunk = record { bytes = b; at = 0; end = e }; line = s.line; source = x }

-- Bytes of a line are kept that is not whole.
abbrev pub has_begun : Part → Bool
has_begun l = cond l.whole false (ltb 0 l.n)

-- "The last newline optional": the newline that a line lacks which has begun when the input is over.
abbrev pub lacking : Part → List ℕ
lacking l = cond (has_begun l) (10 ∷ []) []

-- What a read leaves that gives so many bytes, 0 at the end of the input, or none where it fails, after which nothing is left to be read.
pub data Took (s : Input) (got : Option ℕ) (r : Input) : Type 0 where
  more : {k : ℕ} {b : List ℕ} → got ≡ Some k → 0 < k → r ≡ filled s b (min k 65536) Open → Took s got r
  over : {k : ℕ} {b : List ℕ} → got ≡ Some 0 → take k b ≡ lacking s.line → r ≡ filled s b k Over → Took s got r
  unread : {b : List ℕ} → got ≡ None → r ≡ filled s b 0 Unread → Took s got r

-- A read, whatever it gives.
abbrev pub ReadMore : Input → Input → Type 0
ReadMore s r = (got : Option ℕ) × Took s got r

-- What waits is written, or cannot be. There is a read only if the source is open and the chunk is read to its end.
pub data Exchanged (s : Input) (o : Output) (r : Input) (o' : Output) : Type 0 where
  unwritten : r ≡ of_source s Unwritten → o' ≡ emptied o → Exchanged s o r o'
  closed : (s.source ≡ Open → ⊥) → r ≡ s → o' ≡ emptied o → Exchanged s o r o'
  waits : s.chunk.at < s.chunk.end → r ≡ s → o' ≡ emptied o → Exchanged s o r o'
  read : s.source ≡ Open → s.chunk.end ≤ s.chunk.at → ReadMore s r → o' ≡ emptied o → Exchanged s o r o'

-- The input that a program ends with. One that could go on has no turn left, which counts as a read that fails.
abbrev pub finished : Input → Input
finished s = cond (goes_on s) (of_source s Unread) s

-- What a program promises of its end: nothing waits, and there is no further line.
pub record Finished (s : Input) (o : Output) : Type 0 where
  pub used : o.used ≡ 0
  pub none : goes_on s ≡ false

-- 'yindorka: standard input cannot be read', 'yindorka: standard output cannot be written', or nothing.
abbrev pub fault_line : Source → List ℕ
fault_line Open = []
fault_line Over = []
fault_line Unread = 121 ∷ 105 ∷ 110 ∷ 100 ∷ 111 ∷ 114 ∷ 107 ∷ 97 ∷ 58 ∷ 32 ∷ 115 ∷ 116 ∷ 97 ∷ 110 ∷ 100 ∷ 97 ∷ 114 ∷ 100 ∷ 32 ∷ 105 ∷ 110 ∷ 112 ∷ 117 ∷ 116 ∷ 32 ∷ 99 ∷ 97 ∷ 110 ∷ 110 ∷ 111 ∷ 116 ∷ 32 ∷ 98 ∷ 101 ∷ 32 ∷ 114 ∷ 101 ∷ 97 ∷ 100 ∷ 10 ∷ []
fault_line Unwritten = 121 ∷ 105 ∷ 110 ∷ 100 ∷ 111 ∷ 114 ∷ 107 ∷ 97 ∷ 58 ∷ 32 ∷ 115 ∷ 116 ∷ 97 ∷ 110 ∷ 100 ∷ 97 ∷ 114 ∷ 100 ∷ 32 ∷ 111 ∷ 117 ∷ 116 ∷ 112 ∷ 117 ∷ 116 ∷ 32 ∷ 99 ∷ 97 ∷ 110 ∷ 110 ∷ 111 ∷ 116 ∷ 32 ∷ 98 ∷ 101 ∷ 32 ∷ 119 ∷ 114 ∷ 105 ∷ 116 ∷ 116 ∷ 101 ∷ 110 ∷ 10 ∷ []
