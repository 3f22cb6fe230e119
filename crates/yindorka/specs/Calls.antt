-- What the functions of the library for other languages promise: the answers of the readings and of the checker, as numbers, with the table of named sets that is loaded.
-- Assumes nothing.
use Rattle.std.specs.Prelude.{◌≡◌, ℕ, suc, ◌+◌, ◌<◌, cond, List, [], ◌∷◌, get_or, Result, Ok, Err}
use Rattle.std.proofs.Math.Option.{Option, some}
use Rattle.words.specs.Sets.{has_bit}
use Rattle.traces.specs.Fields.{field_from, field_at}
use Rattle.traces.specs.Code.Marks.{Marks}
use Rattle.fields.specs.declared.Prepared.{Prepared}
use Rattle.fields.specs.Cuts.{Lent, lent_of}
use Rattle.fields.specs.Cuts as Fields
use Rattle.theory.specs.Pattern.{Re}
use Rattle.theory.specs.Spans.{nowhere, span, greedy, posix}
use Rattle.grammar.specs.Loaded.{Answers}
use Rattle.grammar.specs.Refusals as Due
use Rattle.grammar.specs.WriteOut.{write_out}
use Rattle.verdict.specs.Record.{form_of}
use Rattle.lengths.specs.Lengths.{lengths}
use Rattle.lengths.specs.Code.{longest_of, is_limited, bytes_of}
use Rattle.lengths.specs.declared.Lengths as Own
use Rattle.matchers.specs.Tables.{Tables, Ready}
use Rattle.sets.specs.declared.Faulty.{Faulty}
use Rattle.sets.specs.Checks as Sets
use Rattle.reader.specs.declared.refusal.Refusal.{Refusal as Refused}
use Rattle.reader.specs.Numbers.{number_of}
use Rattle.readings.specs.Tables.{tables_in}
use Rattle.readings.specs.Tables as Readings
use Rattle.readings.specs.declared.Tables as Worked
use Rattle.groups.specs.declared.Groups.{Groups}
use Rattle.screen.specs.Shows.{Shows, Rewrites}
use Rattle.checker.specs.declared.Verdict.{Verdict}
use Rattle.checker.specs.declared.Verdict.TheVariants.{Alike, Unlike}
use Rattle.checker.specs.declared.Report.{Report}
use Rattle.checker.specs.Verdicts.{Checks}
use Rattle.checker.specs.Looking.{Reports}
use Rattle.yindorka.specs.declared.Refusal.{Refusal}
use Rattle.yindorka.specs.declared.Counted.{Counted}
use Rattle.yindorka.specs.declared.Lengths.{Lengths}
use Rattle.yindorka.specs.declared.Spanned.{Spanned}
use Rattle.yindorka.specs.declared.Outcome.{Outcome}
use Rattle.yindorka.specs.declared.Looking.{Looking}

-- Number 0: the pattern is accepted.
abbrev pub accepted : Refusal
accepted = record { number = 0; place = 0 }

-- It is refused, with number and place.
abbrev pub refusal_of : Refused → Refusal
refusal_of e = record { number = number_of e.fault; place = e.place }

-- The one or the other.
abbrev pub answer_of : Result Unit Refused → Refusal
answer_of (Ok x) = accepted
answer_of (Err e) = refusal_of e

-- Accepted, with a count.
abbrev pub counted : ℕ → Counted
counted n = record { number = 0; place = 0; count = n }

-- Refused: no count.
abbrev pub counted_refusal : Refused → Counted
counted_refusal e = record { number = number_of e.fault; place = e.place; count = 0 }

-- A table of named sets passes its checks, or is refused with 14 and the place (request 9).
abbrev pub sets_answer : Result Unit Faulty → Refusal
sets_answer (Ok x) = accepted
sets_answer (Err f) = record { number = 14; place = f.place }

pub record ChecksSets (loaded : List ℕ) (r : Refusal) : Type 0 where
  pub check : Result Unit Faulty
  pub checks : Sets.Checks loaded check
  pub means : r ≡ sets_answer check

-- The tables are an accepted pattern's own, or they are kept.
abbrev pub HandedOut : Tables → Result Worked.Tables Refused → Refusal → Tables → Type 0
HandedOut old (Ok t) r new = (r ≡ accepted) × (new ≡ tables_in t)
HandedOut old (Err e) r new = (r ≡ refusal_of e) × (new ≡ old)

pub record Prepares (loaded p : List ℕ) (old : Tables) (r : Refusal) (new : Tables) : Type 0 where
  pub answer : Result Worked.Tables Refused
  pub prepared : Readings.Prepared loaded p answer
  pub means : HandedOut old answer r new

-- 1: both spans begin at the first number, the greedy one ends at the second and the POSIX one at the third. 0: neither is there, and the numbers are kept.
pub data CutTo (r : Re) (w old : List ℕ) : ℕ → List ℕ → Type 0 where
  located : {i j k : ℕ} → greedy r w ≡ span i j → posix r w ≡ span i k → CutTo r w old 1 (i ∷ j ∷ k ∷ [])
  none : greedy r w ≡ nowhere → posix r w ≡ nowhere → CutTo r w old 0 old

-- For the pattern of which the tables are.
pub record Cuts (t : Tables) (w old : List ℕ) (x : ℕ) (new : List ℕ) : Type 0 where
  pub cut : {r : Re} → Ready r t → CutTo r w old x new

-- The same for fields, with their number.
abbrev pub FieldsHandedOut : Lent → Result Prepared Refused → Counted → Lent → Type 0
FieldsHandedOut old (Ok x) r new = (r ≡ counted x.count) × (new ≡ lent_of x)
FieldsHandedOut old (Err e) r new = (r ≡ counted_refusal e) × (new ≡ old)

pub record PreparesFields (loaded p : List ℕ) (old : Lent) (r : Counted) (new : Lent) : Type 0 where
  pub answer : Result Prepared Refused
  pub prepared : Fields.Prepares loaded p answer
  pub means : FieldsHandedOut old answer r new

-- Found 1: the greedy span's start and end; place f is the start of the field f + 1 and place 8 + f its end, each if its bit is set, and the field is absent without
-- them. Found 0: there is none, and the places are kept.
abbrev pub place_at : ℕ → List ℕ → ℕ → Option ℕ
place_at known places j = cond (has_bit known j) (some (get_or places j 0)) Option.none

pub data FieldsTo (r : Re) (w old : List ℕ) : Spanned → List ℕ → Type 0 where
  spanned : {i k m : ℕ} {new : List ℕ} → greedy r w ≡ span i k → ((f : ℕ) → f < 8 → field_from (place_at m new f) (place_at m new (8 + f)) ≡ field_at r w (suc f))
      → FieldsTo r w old (record { found = 1; start = i; end = k; known = m }) new
  nothing : greedy r w ≡ nowhere → FieldsTo r w old (record { found = 0; start = 0; end = 0; known = 0 }) old

-- For the pattern of which the tables and masks are.
pub record CutsFields (t : Lent) (w old : List ℕ) (x : Spanned) (new : List ℕ) : Type 0 where
  pub cut : {r : Re} → Ready r t.tables → Marks r t.marks → FieldsTo r w old x new

-- Number 0: the least length of a match, and if `limited` is 1 the greatest (request 6). Else the refusal, and no lengths.
abbrev pub lengths_of : Due.Answer → Lengths
lengths_of (Due.accepted t) = record { number = 0; place = 0; least = (lengths t).least; limited = cond (is_limited (lengths t).greatest) 1 0; greatest = bytes_of (lengths t).greatest }
lengths_of (Due.refused n q) = record { number = n; place = q; least = 0; limited = 0; greatest = 0 }

-- The lengths that the reader counted, as those numbers.
abbrev pub sizes_of : Own.Lengths → Lengths
sizes_of x = record { number = 0; place = 0; least = x.least; limited = cond (is_limited (longest_of x.greatest)) 1 0; greatest = bytes_of (longest_of x.greatest) }

pub record Measures (loaded p : List ℕ) (r : Lengths) : Type 0 where
  pub answer : Due.Answer
  pub right : Answers loaded p answer
  pub is : r ≡ lengths_of answer

-- Number 0: how many bytes a record of the pattern has (request 7). Else the refusal, and none.
abbrev pub size_of : List ℕ → Due.Answer → Counted
size_of loaded (Due.accepted t) = record { number = 0; place = 0; count = (form_of (write_out loaded t)).bytes }
size_of loaded (Due.refused n q) = record { number = n; place = q; count = 0 }

pub record Sizes (loaded p : List ℕ) (r : Counted) : Type 0 where
  pub answer : Due.Answer
  pub right : Answers loaded p answer
  pub is : r ≡ size_of loaded answer

-- The groups of an accepted pattern, by their numbers; the arrays of a refused one are kept.
abbrev pub GroupsHandedOut : List ℕ → List ℕ → Result Groups Refused → Counted → List ℕ → List ℕ → Type 0
GroupsHandedOut group lowest (Ok g) r group' lowest' = (r ≡ counted g.count) × (group' ≡ g.group) × (lowest' ≡ g.lowest)
GroupsHandedOut group lowest (Err e) r group' lowest' = (r ≡ counted_refusal e) × (group' ≡ group) × (lowest' ≡ lowest)

pub record ShowsGroups (loaded p group lowest : List ℕ) (r : Counted) (group' lowest' : List ℕ) : Type 0 where
  pub answer : Result Groups Refused
  pub shown : Shows loaded p answer
  pub means : GroupsHandedOut group lowest answer r group' lowest'

-- The line in readable bytes, for an accepted pattern; that of a refused one is kept.
pub record RewritesLine (loaded p w : List ℕ) (r : Refusal) (w' : List ℕ) : Type 0 where
  pub answer : Result Unit Refused
  pub rewritten : Rewrites loaded p w answer w'
  pub means : r ≡ answer_of answer

-- Kind 0: alike with the record count, 0 if the test settled it. 1: unlike with the count and the witness's length. 2: refused with number and place.
abbrev pub outcome_of : Result Verdict Refused → Outcome
outcome_of (Ok (Alike n)) = record { kind = 0; first = n; second = 0 }
outcome_of (Ok (Unlike n k)) = record { kind = 1; first = n; second = k }
outcome_of (Err e) = record { kind = 2; first = number_of e.fault; second = e.place }

pub record Decided (loaded p t v s : List ℕ) (x : Outcome) (t' v' s' : List ℕ) : Type 0 where
  pub verdict : Result Verdict Refused
  pub checks : Checks loaded p t v s verdict t' v' s'
  pub means : x ≡ outcome_of verdict

-- The same with the looking.
abbrev pub looking_of : Report → Looking
looking_of x =
    let y = outcome_of x.verdict in
    record { kind = y.kind; first = y.first; second = y.second; looks = x.looking.looks; comparisons = x.looking.comparisons }

pub record Told (loaded p t v s : List ℕ) (x : Looking) (t' v' s' : List ℕ) : Type 0 where
  pub report : Report
  pub reports : Reports loaded p t v s report t' v' s'
  pub means : x ≡ looking_of report
