-- What is printed is what the reader hands over.
-- Assumes nothing.
use mathlib.Core.Path.{◌≡◌, refl, ap, ◌∙◌}
use Prim.Native.Nat.{ℕ}
use mathlib.Core.List.{List}
use mathlib.Core.Option.{Option}
use Rattle.theory.specs.Pattern.{count}
use Rattle.grammar.specs.Sets.{set_table}
use Rattle.grammar.specs.Refusals as Due
use Rattle.grammar.proofs.Loaded.{fixed_answers}
use Rattle.grammar.specs.Code.Tokens.{nodes}
use Rattle.lengths.specs.Code.{longest_of, limit_of}
use Rattle.printing.specs.Text.{option_of, RefusedLine, AcceptedLine}
use Rattle.std.specs.Prelude.{Some, None, Ok, Err}
use Rattle.std.specs.Prelude as Code
use Rattle.reader.specs.declared.Reading.{Reading}
use Rattle.reader.specs.declared.refusal.Refusal.{Refusal}
use Rattle.reader.specs.Numbers.{number_of}
use Rattle.reader.specs.Reading.{ReadRight}
use Rattle.reader.proofs.Laws.{accepted_tree, accepted_holds, refused_fault}
use Rattle.read_patterns.specs.Line.{Told}

same_limit : (g : Code.Option ℕ) → option_of g ≡ limit_of (longest_of g)
same_limit (Some n) = refl
same_limit None = refl

same_line : {a b c d m l k : ℕ} {g h : Option ℕ} {w : List ℕ} → a ≡ b → c ≡ d → l ≡ k → g ≡ h → AcceptedLine a c m l g w → AcceptedLine b d m k h w
same_line e f i j line = rw (e, f, i, j) at line

module _ {p w : List ℕ} where
  pub told_accepted : {x : Reading} {members : ℕ} → ReadRight set_table p (Ok x) → AcceptedLine x.pattern.len x.pattern.leaves members x.lengths.least (option_of x.lengths.greatest) w → Told p w
  told_accepted {x} {members} read line =
      let (t, reads, g, long, same) = accepted_tree read in
      let holds = accepted_holds read in
      let parts : x.pattern.len ≡ nodes _ = holds.parts ∙ ap nodes same in
      let leaves : x.pattern.leaves ≡ count _ = holds.leaves ∙ ap count same in
      let limit = same_limit x.lengths.greatest ∙ ap (λ y. limit_of y.greatest) long in
      record { answer = Due.accepted t; right = reads.reads; line = (members, same_line parts leaves (ap (λ y. y.least) long) limit line) }

  pub told_refused : {e : Refusal} → ReadRight set_table p (Err e) → RefusedLine (number_of e.fault) e.place w → Told p w
  told_refused {e} read line =
      record { answer = Due.refused (number_of e.fault) e.place; right = (fixed_answers p (Due.refused (number_of e.fault) e.place)).0 (refused_fault read); line = line }
