-- What is replied is what is due.
-- Assumes nothing.
use Prim.Native.Nat.{ℕ}
use mathlib.Core.Path.{refl}
use mathlib.Core.List.{List}
use Rattle.std.specs.Prelude.{Option, Ok, Err}
use Rattle.grammar.specs.Refusals as Due
use Rattle.reader.specs.declared.refusal.Refusal.{Refusal}
use Rattle.reader.specs.Numbers.{number_of}
use Rattle.matchers.specs.declared.Spans.{Spans}
use Rattle.matchers.specs.Cuts.{Cuts}
use Rattle.readings.specs.declared.Tables.{Tables}
use Rattle.readings.specs.Tables.{tables_in, Prepared, ready, refused}
use Rattle.readings.specs.Replies.{Replied}

-- The reply is the one due: of an accepted pattern both spans by its tables,
pub replied_accepted : {loaded p w : List ℕ} {t : Tables} {s : Option Spans} → Prepared loaded p (Ok t) → Cuts (tables_in t) w s → Replied loaded p w (Ok s)
replied_accepted (ready {a = a} reads own) cuts =
    let both = cuts.cut own in
    record { answer = Due.accepted a; right = reads; means = rw (both.greedily, both.longest) }

-- and of a refused one the refusal.
pub replied_refused : {loaded p w : List ℕ} {e : Refusal} → Prepared loaded p (Err e) → Replied loaded p w (Err e)
replied_refused (refused {e = e} f) = record { answer = Due.refused (number_of e.fault) e.place; right = f; means = refl }
