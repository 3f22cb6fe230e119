-- `follow::Part::after`, which calls itself, meets its contract. Each answer is a law of `Nexts`, by the kind of the part's last place.
-- Assumes nothing.
use mathlib.Core.Path.{sym, ◌∙◌}
use mathlib.Core.Logic.{inl, inr}
use Prim.Native.Nat.{◌+◌}
use native.Mathlib.Omega.{arith}
use Rattle.grammar.specs.Code.Codes.{first_leaf}
use Rattle.follow.proofs.Scans.{none_stands, some_place}
use Rattle.follow.proofs.Nexts.{after_absent, after_here, after_elsewhere, after_nothing, after_within, after_again, after_right, after_left, after_both}
use Rattle.follow.proofs.Part.+after.Goals as goal
use Rattle.follow.proofs.Part.+after.Goals.{then-not-lacks, else-not-lacks, then-kind-lt-FIRST_FIELD, else-kind-lt-FIRST_FIELD}

pub returns-then-lacks : goal.returns-then-lacks
returns-then-lacks t c = after_absent c.args.p (none_stands _ _ _ (first_leaf + c.args.p) (omega arith) (sym c.lacks.ensures ∙ c.if-lacks.true))

pub returns-then-kind-p : goal.returns-then-kind-p
returns-then-kind-p t c =
    let h = some_place _ _ _ (first_leaf + c.args.p) (sym c.lacks.ensures ∙ c.if-lacks.false) in
    after_here c.args.p h c.requires.1 c.if-kind-p.true c.join.ensures

pub returns-then-kind-ge-FIRST_LEAF : goal.returns-then-kind-ge-FIRST_LEAF
returns-then-kind-ge-FIRST_LEAF t c =
    let h = some_place _ _ _ (first_leaf + c.args.p) (sym c.lacks.ensures ∙ c.if-lacks.false) in
    elim c.then-kind-ge-FIRST_LEAF.either [ inl k ↦ after_elsewhere c.args.p h k c.if-kind-p.false | inr e ↦ after_nothing c.args.p h e.1 ]

pub returns-then-kind-eq-ALTERNATION : goal.returns-then-kind-eq-ALTERNATION
returns-then-kind-eq-ALTERNATION t c =
    let h = some_place _ _ _ (first_leaf + c.args.p) (sym c.lacks.ensures ∙ c.if-lacks.false) in
    let left = rw c.within-left.ensures at c.after.ensures in
    let right = rw c.within-right.ensures at c.after-then-kind-eq-ALTERNATION.ensures in
    after_both c.args.p h c.middle-m.ensures c.if-kind-eq-ALTERNATION.true left right

pub returns-then-kind-eq-SEQUENCE : goal.returns-then-kind-eq-SEQUENCE
returns-then-kind-eq-SEQUENCE t c =
    let p = c.args.p in
    let h = some_place _ _ _ (first_leaf + p) (sym c.lacks.ensures ∙ c.if-lacks.false) in
    let right = rw c.within-right.ensures at c.after-then-kind-eq-SEQUENCE.ensures in
    elim c.if-not-lacks.branch [
      | then-not-lacks w ↦
          let next = rw c.within-right.ensures at w.closure.ensures in
          let left = rw c.within-left.ensures at w.after-then-not-lacks.ensures in
          after_left p h c.middle-m.ensures c.if-kind-eq-SEQUENCE.true c.none-next.ensures next left (rw w.out-is at right)
      | else-not-lacks w ↦
          let e = rw c.within-left.ensures at (sym c.lacks-then-kind-eq-SEQUENCE.ensures ∙ w.if-not-lacks.false) in
          after_right p h c.middle-m.ensures c.if-kind-eq-SEQUENCE.true (none_stands _ _ _ (first_leaf + p) (omega arith) e) (rw w.out-is at right)
    ]

pub returns : goal.returns
returns t c =
    let p = c.args.p in
    let h = some_place _ _ _ (first_leaf + p) (sym c.lacks.ensures ∙ c.if-lacks.false) in
    let inner = rw c.within.ensures at c.after-2.ensures in
    elim c.if-kind-lt-FIRST_FIELD.branch [
      | then-kind-lt-FIRST_FIELD w ↦
          after_again p h (omega arith) w.if-kind-lt-FIRST_FIELD.true c.none-next.ensures w.closure-then-kind-lt-FIRST_FIELD.ensures (rw w.next-is at inner)
      | else-kind-lt-FIRST_FIELD w ↦
          let closed = rw w.mask.ensures at w.join-else-kind-lt-FIRST_FIELD.ensures in
          after_within p h w.if-kind-lt-FIRST_FIELD.false (omega (arith, c.if-kind-ge-FIRST_LEAF.false)) c.none-next.ensures closed (rw w.next-is at inner)
    ]
