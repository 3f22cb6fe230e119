-- What the reader hands over for a pattern, or why it refuses it: the papers' number and values are given by `meaning`.
-- Assumes nothing.
use Rattle.std.specs.Prelude.{◌≡◌, ℕ, cond, List, take, ltb, Option, Some, None, Result, Ok, Err}
use Rattle.theory.specs.Pattern.{Re}
use Rattle.grammar.specs.Brackets.{brackets, max_fields, ninth}
use Rattle.grammar.specs.WriteOut.{write_out}
use Rattle.grammar.specs.Grammar.{Alternation}
use Rattle.grammar.specs.Limits.{Reads}
use Rattle.grammar.specs.Refusals.{Fault}
use Rattle.grammar.specs.Loaded.{Passes, Accepts, Refuses}
use Rattle.grammar.specs.Refusals as Due
use Rattle.arrays.specs.declared.Codes.{Codes}
use Rattle.arrays.specs.declared.Pattern.{Pattern}
use Rattle.arrays.specs.Decoded.{decode}
use Rattle.arrays.specs.Finished.{HoldsPattern, Finished}
use Rattle.lengths.specs.Lengths.{Extent, lengths}
use Rattle.lengths.specs.Code as Lengths
use Rattle.reader.specs.declared.Brackets.{Brackets}
use Rattle.reader.specs.declared.Text.{Text}
use Rattle.reader.specs.declared.Reading.{Reading}
use Rattle.reader.specs.declared.refusal.Refusal.{Refusal}
use Rattle.reader.specs.Numbers.{number_of}

-- The written-out pattern, or the refusal's number and place.
pub data Written : Type 0 where
  accepted : Re → Written
  refused : ℕ → ℕ → Written

-- What is handed over means.
abbrev pub meaning : Result Reading Refusal → Written
meaning (Ok x) = accepted (decode x.pattern)
meaning (Err e) = refused (number_of e.fault) e.place

-- What is due by the grammar, and by the table of named sets that is loaded.
abbrev pub due : List ℕ → Due.Answer → Written
due loaded (Due.accepted t) = accepted (write_out loaded t)
due loaded (Due.refused n q) = refused n q

-- The brackets of a pattern: how many there are, and the place of the ninth if there is one.
abbrev pub brackets_due : Alternation → Brackets
brackets_due t = record { count = brackets t; ninth = cond (ltb max_fields (brackets t)) (Some (ninth t)) None }

-- "The reader also hands back the least and the greatest length an accepted pattern could match" (request 6). A refused pattern has no lengths.
abbrev pub lengths_due : Due.Answer → Option Extent
lengths_due (Due.accepted t) = Some (lengths t)
lengths_due (Due.refused n q) = None

abbrev pub lengths_of : Result Reading Refusal → Option Extent
lengths_of (Ok x) = Some (Lengths.meaning x.lengths)
lengths_of (Err e) = None

-- Beside the answer, what is handed over of the pattern t: arrays with a place for each part and their leaves counted, its brackets and its lengths.
pub record Beside (x : Reading) (t : Alternation) : Type 0 where
  pub holds : HoldsPattern x.pattern (decode x.pattern)
  pub counted : x.brackets ≡ brackets_due t
  pub measured : Lengths.meaning x.lengths ≡ lengths t

-- The reader's answer is the one that is right, with the table that is loaded: the pattern is accepted, and the arrays are the written-out pattern's, leaf sets included; or it
-- is refused with the number and the place of its fault or of the table's.
pub data ReadRight (loaded p : List ℕ) : Result Reading Refusal → Type 0 where
  reads : {x : Reading} {t : Alternation} → Accepts loaded p t → decode x.pattern ≡ write_out loaded t → Beside x t → ReadRight loaded p (Ok x)
  refuses : {e : Refusal} → Refuses loaded p (number_of e.fault) e.place → ReadRight loaded p (Err e)

-- What is found of the text p, with its codes c: its tree, its brackets and its lengths, and arrays made of the codes are the written-out pattern, whatever table of
-- named sets is loaded; or its fault.
pub data WithinRead (p : List ℕ) (c : Codes) : Result Text Refusal → Type 0 where
  tree : {x : Text} {t : Alternation} → Reads p t → x.brackets ≡ brackets_due t → Lengths.meaning x.lengths ≡ lengths t
      → ((loaded : List ℕ) (y : Pattern) → Finished loaded p (take c.len c.items) y → HoldsPattern y (write_out loaded t)) → WithinRead p c (Ok x)
  fault : {e : Refusal} → Fault p (number_of e.fault) e.place → WithinRead p c (Err e)

-- The same with a table that is checked first.
pub data TextRead (loaded p : List ℕ) (c : Codes) : Result Text Refusal → Type 0 where
  within : {r : Result Text Refusal} → Passes loaded → WithinRead p c r → TextRead loaded p c r
  refusal : {e : Refusal} → Refuses loaded p (number_of e.fault) e.place → TextRead loaded p c (Err e)
