-- What the code hands over: the greedy span and its fields by lent tables, and the reply to a pattern and a line.
-- Assumes nothing.
use Rattle.std.specs.Prelude.{◌≡◌, ℕ, suc, ◌+◌, ◌<◌, cond, List, map, get_or, Option, Some, None, Result, Ok, Err}
use Rattle.std.proofs.Math.Option as Math
use Rattle.std.proofs.Math.Option.{none, some}
use Rattle.theory.specs.Pattern.{Re}
use Rattle.theory.specs.Standing.{from}
use Rattle.theory.specs.Spans.{Span, nowhere, span, greedy}
use Rattle.grammar.specs.Brackets.{brackets, max_fields}
use Rattle.grammar.specs.Grammar.{Alternation}
use Rattle.grammar.specs.WriteOut.{write_out}
use Rattle.grammar.specs.Loaded.{Answers}
use Rattle.grammar.specs.Refusals as Due
use Rattle.traces.specs.Fields.{Field, absent, field_from, field_at}
use Rattle.traces.specs.Code.Marks.{Marks}
use Rattle.words.specs.Sets.{has_bit}
use Rattle.starts.specs.declared.Span as Starts
use Rattle.starts.specs.Spans.{Found}
use Rattle.matchers.specs.Tables.{Tables, Ready}
use Rattle.reader.specs.declared.refusal.Refusal.{Refusal}
use Rattle.reader.specs.Numbers.{number_of}
use Rattle.readings.specs.Tables.{tables_in}
use Rattle.fields.specs.declared.Piece.{Piece}
use Rattle.fields.specs.declared.Prepared.{Prepared}
use Rattle.fields.specs.declared.Reply.{Reply}
use Rattle.fields.specs.Answer.{Told, refused, spanned, limited, due}

-- The greedy span that is handed over.
abbrev pub span_in : Option Piece → Span
span_in None = nowhere
span_in (Some x) = span x.start x.end

-- Its field f + 1: place f is the start and place 8 + f the end, each if its bit is set; "absent" without them.
abbrev pub place_in : Piece → ℕ → Math.Option ℕ
place_in x j = cond (has_bit x.known j) (some (get_or x.places j 0)) none

abbrev pub field_in : Option Piece → ℕ → Field
field_in None f = absent
field_in (Some x) f = field_from (place_in x f) (place_in x (max_fields + f))

-- Both are those of the line w.
pub record IsCut (r : Re) (w : List ℕ) (x : Option Piece) : Type 0 where
  pub greedily : span_in x ≡ greedy r w
  pub fields : (f : ℕ) → f < max_fields → field_in x f ≡ field_at r w (suc f)

-- The POSIX span of the line w is found by lent tables.
abbrev pub FoundBy : Tables → List ℕ → Option Starts.Span → Type 0
FoundBy t w x = Found t.arrays.masks t.arrays.sets t.arrays.ends t.facts w x

-- For the pattern whose tables and masks are lent.
pub record Cuts (t : Tables) (marks w : List ℕ) (x : Option Piece) : Type 0 where
  pub cut : {r : Re} → Ready r t → Marks r marks → IsCut r w x

-- What is lent for the fields of many lines: the tables, and the masks of fields.
pub record Lent : Type 0 where
  pub tables : Tables
  pub marks : List ℕ

abbrev pub lent : Tables → List ℕ → Lent
lent t marks = record { tables = t; marks = marks }

-- What is prepared lends them.
abbrev pub lent_of : Prepared → Lent
lent_of x = lent (tables_in x.tables) x.marks

-- What is handed over is right by the answer that is right here: an accepted pattern's tables are its own and its fields are counted, and a refused one has the refusal.
pub data PreparedFor (loaded : List ℕ) : Result Prepared Refusal → Due.Answer → Type 0 where
  ready : {x : Prepared} {t : Alternation} → x.count ≡ brackets t → Ready (write_out loaded t) (lent_of x).tables → Marks (write_out loaded t) (lent_of x).marks → PreparedFor loaded (Ok x) (Due.accepted t)
  refusal : {e : Refusal} → PreparedFor loaded (Err e) (Due.refused (number_of e.fault) e.place)

pub record Prepares (loaded p : List ℕ) (x : Result Prepared Refusal) : Type 0 where
  pub answer : Due.Answer
  pub right : Answers loaded p answer
  pub prepared : PreparedFor loaded x (limited answer)

-- What a reply says.
abbrev pub fields_in : ℕ → Option Piece → List Field
fields_in n x = map (field_in x) (from 0 n)

abbrev pub says_of : ℕ → Option Piece → Span → Told
says_of n x nowhere = Told.none
says_of n x (span i k) = spanned i k (fields_in n x)

abbrev pub says : Result Reply Refusal → Told
says (Ok r) = says_of r.count r.cut (span_in r.cut)
says (Err e) = refused (number_of e.fault) e.place

-- The reply is the one due.
pub record Replied (loaded p w : List ℕ) (r : Result Reply Refusal) : Type 0 where
  pub answer : Due.Answer
  pub right : Answers loaded p answer
  pub is : says r ≡ due loaded answer w
