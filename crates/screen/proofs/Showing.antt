-- The groups of the arrays that the reader hands over are those of the pattern, and so are the lines that they make readable.
-- Assumes nothing.
use mathlib.Core.Path.{◌≡◌, refl, sym, ap, ◌∙◌}
use Prim.Native.Nat.{ℕ, ◌<◌}
use mathlib.Core.List.{List, map}
use native.Mathlib.Omega.{arith}
use lib.ListN.{get_or}
use Rattle.std.specs.Prelude.{None, Ok, Err}
use Rattle.grammar.specs.Refusals as Due
use Rattle.grammar.specs.WriteOut.{write_out}
use Rattle.arrays.specs.Decoded.{decode}
use Rattle.groups.specs.declared.Groups.{Groups}
use Rattle.groups.specs.Numbers.{groups_by, groups_of}
use Rattle.groups.specs.Readable.{readable_by}
use Rattle.groups.specs.Turns.{same}
use Rattle.groups.proofs.Laws.{mask_groups}
use Rattle.groups.proofs.ReadableLines.{line_readable}
use Rattle.reader.specs.declared.Reading.{Reading}
use Rattle.reader.specs.declared.refusal.Refusal.{Refusal}
use Rattle.reader.specs.Reading.{ReadRight}
use Rattle.reader.proofs.Laws.{accepted_reads, accepted_masks, accepted_holds, refused_fault}
use Rattle.screen.specs.Shows.{shown, Shows, Rewrites}
use Rattle.screen.proofs.Laws.{shows_accepted, shows_refused}

pub shown_refused : {loaded p : List ℕ} {e : Refusal} → ReadRight loaded p (Err e) → Shows loaded p (Err e)
shown_refused h = record { answer = Due.refused _ _; right = refused_fault h; is = refl }

pub shown_groups : {loaded p : List ℕ} {x : Reading} {g : Groups} → ReadRight loaded p (Ok x) → g ≡ groups_by (same x.pattern.masks) → Shows loaded p (Ok g)
shown_groups {x = x} h f =
    let (t, reads, written) = accepted_reads h in
    let holds = accepted_holds h in
    let all : groups_by (same x.pattern.masks) ≡ groups_of (decode x.pattern) =
    mask_groups (decode x.pattern) x.pattern.masks (λ b k l m. sym (accepted_masks h b k l m)) (λ b k l m. holds.spare b k l (omega (arith, holds.leaves))) in
    record { answer = Due.accepted t; right = reads; is = ap shown (f ∙ all ∙ ap groups_of written) }

pub rewritten_refused : {loaded p w : List ℕ} {e : Refusal} → Shows loaded p (Err e) → Rewrites loaded p w (Err e) w
rewritten_refused s = record { answer = Due.refused _ _; right = shows_refused s; is = refl }

pub rewritten : {loaded p w w' : List ℕ} {g : Groups} → Shows loaded p (Ok g) → ((k : ℕ) → get_or w k 0 < 256) → w' ≡ map (readable_by (same g.group)) w → Rewrites loaded p w (Ok tt) w'
rewritten {loaded} {w = w} s bytes made =
    let (t, reads, f) = shows_accepted s in
    record {
      answer = Due.accepted t;
      right = reads;
      is = ap (λ v. (None, v)) (made ∙ ap (λ y. map (readable_by (same y.group)) w) f ∙ line_readable (write_out loaded t) w bytes);
    }
