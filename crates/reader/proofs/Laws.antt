-- What the layers above use of the reader: its answer is the one of the definition, and an accepted pattern's arrays are the written-out pattern.
-- Assumes nothing.
use mathlib.Core.Path.{◌≡◌, ap, ◌∙◌}
use Prim.Native.Nat.{ℕ, ◌≤◌, ◌<◌}
use mathlib.Core.List.{List}
use lib.ListN.{get_or}
use Rattle.theory.specs.Pattern.{count, Numbered, has}
use Rattle.grammar.specs.Grammar.{Alternation}
use Rattle.grammar.specs.WriteOut.{write_out}
use Rattle.grammar.specs.Loaded.{Accepts, Refuses, Answers}
use Rattle.grammar.specs.Refusals as Due
use Rattle.grammar.proofs.Size.{write_out_numbered, leaves_64}
use Rattle.grammar.proofs.Loaded.{one_answer}
use Rattle.words.specs.Sets.{has_bit}
use Rattle.arrays.specs.Decoded.{decode}
use Rattle.arrays.specs.Finished.{HoldsPattern}
use Rattle.arrays.proofs.Laws.{masks_hold}
use Rattle.lengths.specs.Lengths.{lengths}
use Rattle.lengths.specs.Code.{longest_of}
use Rattle.lengths.specs.Code as Lengths
use Rattle.std.specs.Prelude.{Some, Result, Ok, Err}
use Rattle.reader.specs.declared.Reading.{Reading}
use Rattle.reader.specs.declared.refusal.Refusal.{Refusal}
use Rattle.reader.specs.Numbers.{number_of}
use Rattle.reader.specs.Reading.{accepted, meaning, due, brackets_due, lengths_due, lengths_of, Beside, ReadRight, reads, refuses}

module _ {loaded p : List ℕ} where
  -- THE ANSWER AND THE ARRAYS ARE THOSE OF THE DEFINITION: one equation, for every table and every pattern.
  pub reading_is : {r : Result Reading Refusal} → ReadRight loaded p r → (a : Due.Answer) → Answers loaded p a → meaning r ≡ due loaded a
  reading_is (reads {t = t} w q b) a k = ap accepted q ∙ ap (due loaded) (one_answer loaded p (Due.accepted t) a w k)
  reading_is (refuses {e = e} f) a k = ap (due loaded) (one_answer loaded p (Due.refused (number_of e.fault) e.place) a f k)

  -- So are the lengths.
  pub lengths_are : {r : Result Reading Refusal} → ReadRight loaded p r → (a : Due.Answer) → Answers loaded p a → lengths_of r ≡ lengths_due a
  lengths_are (reads {t = t} w q b) a k = ap Some b.measured ∙ ap lengths_due (one_answer loaded p (Due.accepted t) a w k)
  lengths_are (refuses {e = e} f) a k = ap lengths_due (one_answer loaded p (Due.refused (number_of e.fault) e.place) a f k)

-- Accepted: the pattern is in the grammar and within the limits, its brackets are counted, its lengths are known, and the arrays decode to its written-out pattern.
module _ {loaded p : List ℕ} {x : Reading} where
  tree_of : ReadRight loaded p (Ok x) → (t : Alternation) × Accepts loaded p t × (decode x.pattern ≡ write_out loaded t) × Beside x t
  tree_of (reads {t = t} w q b) = (t, w, q, b)

  module _ (h : ReadRight loaded p (Ok x)) where
    pub accepted_tree : (t : Alternation) × Accepts loaded p t × (x.brackets ≡ brackets_due t) × (Lengths.meaning x.lengths ≡ lengths t) × (decode x.pattern ≡ write_out loaded t)
    accepted_tree = let (t, w, q, b) = tree_of h in (t, w, b.counted, b.measured, q)

    pub accepted_reads : (t : Alternation) × Accepts loaded p t × (decode x.pattern ≡ write_out loaded t)
    accepted_reads = let (t, w, q, b) = tree_of h in (t, w, q)

    pub accepted_lengths : (t : Alternation) × Accepts loaded p t × (x.lengths.least ≡ (lengths t).least) × (longest_of x.lengths.greatest ≡ (lengths t).greatest)
    accepted_lengths = let (t, w, q, b) = tree_of h in (t, w, ap (λ y. y.least) b.measured, ap (λ y. y.greatest) b.measured)

    -- Its leaves are numbered from 0, and at most 64.
    pub accepted_leaves : Numbered 0 (decode x.pattern) × (count (decode x.pattern) ≤ 64)
    accepted_leaves = let (t, w, q, b) = tree_of h in rw q (write_out_numbered loaded t, leaves_64 loaded p t w.reads)

    -- Bit p of a byte's mask is whether the set of the leaf p holds the byte, and there is no other bit.
    pub accepted_masks : (b p : ℕ) → b < 256 → p < count (decode x.pattern) → has_bit (get_or x.pattern.masks b 0) p ≡ has (decode x.pattern) p b
    accepted_masks = masks_hold x.pattern accepted_leaves.0

    pub accepted_holds : HoldsPattern x.pattern (decode x.pattern)
    accepted_holds = let (t, w, q, b) = tree_of h in b.holds

-- Refused: with the number and place of its fault, or of the table's.
pub refused_fault : {loaded p : List ℕ} {e : Refusal} → ReadRight loaded p (Err e) → Refuses loaded p (number_of e.fault) e.place
refused_fault (refuses f) = f
