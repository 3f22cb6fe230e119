-- The tables that a pattern is prepared with are its own.
-- Assumes nothing.
use mathlib.Core.Path.{subst}
use mathlib.Core.List.{List}
use Prim.Native.Nat.{ℕ}
use Rattle.std.specs.Prelude.{Ok, Err}
use Rattle.reader.specs.declared.Reading.{Reading}
use Rattle.reader.specs.declared.refusal.Refusal.{Refusal}
use Rattle.reader.specs.Reading.{ReadRight}
use Rattle.reader.proofs.Laws.{accepted_reads, accepted_leaves, accepted_holds, refused_fault}
use Rattle.matchers.specs.Tables.{Ready}
use Rattle.readings.specs.declared.Tables.{Tables}
use Rattle.readings.specs.Tables.{tables_in, FilledBy, Prepared, ready, refused}

-- An accepted pattern's tables,
pub prepared_ready : {loaded p : List ℕ} {r : Reading} {t : Tables} → ReadRight loaded p (Ok r) → FilledBy r.pattern (tables_in t) → Prepared loaded p (Ok t)
prepared_ready {t = t} h filled =
    let (a, reads, is) = accepted_reads h in
    ready reads (subst (λ x. Ready x (tables_in t)) is (filled.ready (accepted_leaves h).0 (accepted_leaves h).1 (accepted_holds h)))

-- or the refusal.
pub prepared_refused : {loaded p : List ℕ} {e : Refusal} → ReadRight loaded p (Err e) → Prepared loaded p (Err e)
prepared_refused h = refused (refused_fault h)
