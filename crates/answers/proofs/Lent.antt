-- What the programs lend to the checker is enough for every witness, and for the test.
-- Assumes nothing.
use mathlib.Core.Path.{◌≡◌, sym, ◌∙◌}
use mathlib.Core.Logic.{◌≢◌}
use mathlib.Core.Bool.{Bool}
use mathlib.Core.List.{List}
use Prim.Native.Nat.{ℕ, ◌/◌, ◌≤◌, ◌<◌}
use native.Mathlib.Omega.{arith}
use lib.ListN.{length}
use native.Mathlib.Nat.{div-lt_iff_lt-mul, min-le_left}
use Rattle.theory.specs.Pattern.{Re, count}
use Rattle.theory.proofs.Tests.{either}
use Rattle.grammar.specs.Grammar.{Alternation}
use Rattle.grammar.specs.Loaded.{Accepts}
use Rattle.grammar.proofs.Loaded.{accepts_or_refuses, refusal_number}
use Rattle.verdict.specs.Record.{form_of}
use Rattle.verdict.specs.Table.{slots}
use Rattle.verdict.specs.Area.{area_bytes}
use Rattle.verdict.proofs.Forms.{narrow_least}
use Rattle.verdict.specs.Tabled.{refused}
use Rattle.checker.specs.Verdicts.{result_of}
use Rattle.checker.proofs.Demand.{check_refused, check_room, check_thirteen}
use Rattle.answers.specs.declared.Buffers.{Buffers}
use Rattle.answers.specs.Answer.{Judged}

-- 65,536 bytes have at most 5,041 slots: a record has 13 bytes or more.
pub slots_lent : (r : Re) → slots (form_of r) 65536 ≤ 5041
unfolding slots
slots_lent r =
    let w = (form_of r).bytes in
    let least : 13 ≤ w = narrow_least (count r) in
    let few : 65536 / w < 5042 = (div-lt_iff_lt-mul {k = w} {x = 65536} {y = 5042} (omega arith)).1 (omega arith) in
    omega (arith, min-le_left (65536 / w) 65535)

-- Of a line that a program prints.
module _ {loaded : List ℕ} {spans : Bool} {p w : List ℕ} {x y : Buffers} (j : Judged loaded spans x p w y) where
  -- The area has room for the test.
  room : area_bytes ≤ length x.area
  room = rw j.lent.2 (omega arith)

  -- A number above 8, but for 14, is not that of a refused pattern: it is of an accepted one.
  accepted : {n : ℕ} → 8 < n → n ≢ 14 → result_of j.verdict ≡ refused n 0 → (a : Alternation) × Accepts loaded p a
  accepted {n} above other e =
      either (λ i. i)
      (λ (m, q, f).
      let number = refusal_number f in
      let same : refused m q ≡ refused n 0 = sym ((check_refused loaded p x.table x.witness x.area j.verdict y.table y.witness y.area j.checks number).1 f) ∙ e in
      let is : m ≡ n = cc in
      absurd (either (λ few. omega arith) (λ last. other (sym is ∙ last)) number))
      (accepts_or_refuses loaded p)

  -- NO WITNESS IS TOO LONG for the buffer of the programs: 11 is never the verdict that they print.
  pub witness_lent : result_of j.verdict ≢ refused 11 0
  witness_lent e =
      let (a, reads) = accepted (omega arith) (λ z. omega arith) e in
      check_room loaded p x.table x.witness x.area j.verdict y.table y.witness y.area j.checks a reads room (rw (j.lent.0, j.lent.1) (slots_lent _)) e

  -- AND THE AREA IS NEVER TOO SHORT: neither is 13.
  pub area_lent : result_of j.verdict ≢ refused 13 0
  area_lent e =
      let (a, reads) = accepted (omega arith) (λ z. omega arith) e in
      let short = (check_thirteen loaded p x.table x.witness x.area j.verdict y.table y.witness y.area j.checks a reads).0 e in
      omega (arith, room)
