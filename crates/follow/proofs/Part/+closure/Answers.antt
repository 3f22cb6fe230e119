-- `follow::Part::closure`, which calls itself, meets its contract. Each answer is a law of `Begins`, by the kind of the part's last place.
-- Assumes nothing.
use mathlib.Core.Path.{◌≡◌}
use mathlib.Core.Logic.{inl, inr}
use Prim.Native.Nat.{◌+◌, ◌-◌}
use native.Mathlib.Omega.{arith}
use Rattle.follow.proofs.Parts.{past_choices}
use Rattle.follow.proofs.Begins.{last_kind, closure_none, closure_empty, closure_beyond, closure_leaf, closure_field, closure_seq, closure_choice}
use Rattle.follow.proofs.Part.+closure.Goals as goal

pub returns-then-self : goal.returns-then-self
returns-then-self t c = closure_none c.if-self.true c.join.ensures

pub returns-then-kind-eq-EMPTY : goal.returns-then-kind-eq-EMPTY
returns-then-kind-eq-EMPTY t c =
    let h = c.if-self.false in
    let j = c.join-then-kind-eq-EMPTY.ensures in
    elim c.then-kind-eq-EMPTY.either [ inl e ↦ closure_empty h e j | inr k ↦ closure_beyond h k.1 j ]

pub returns-then-kind-ge-FIRST_LEAF : goal.returns-then-kind-ge-FIRST_LEAF
returns-then-kind-ge-FIRST_LEAF t c = closure_leaf c.if-self.false c.if-kind-ge-FIRST_LEAF.true c.if-kind-gt-LAST_LEAF.false c.add.ensures

pub returns-then-chooses : goal.returns-then-chooses
returns-then-chooses t c =
    let chosen = c.chooses.ensures.does c.if-chooses.true in
    let left = rw c.within-left.ensures at c.closure.ensures in
    let right = rw c.within-right.ensures at c.closure-then-chooses.ensures in
    closure_choice c.if-self.false c.parting-m.ensures chosen.0 chosen.1 left right

pub returns-then-kind-eq-SEQUENCE : goal.returns-then-kind-eq-SEQUENCE
returns-then-kind-eq-SEQUENCE t c =
    let right = rw c.within-right.ensures at c.closure-then-kind-eq-SEQUENCE.ensures in
    let left = rw c.within-left.ensures at c.closure-then-kind-eq-SEQUENCE-2.ensures in
    closure_seq c.if-self.false c.parting-m.ensures c.if-kind-eq-SEQUENCE.true c.none-next.ensures right left

pub returns : goal.returns
returns t c =
    let kind = last_kind c.args.self in
    let first : 0 + (kind - 5) ≡ kind - 5 = omega arith in
    let closed = rw c.mask.ensures at c.join-2.ensures in
    let inner = rw (c.within.ensures, c.mask-2.ensures, first) at c.closure-2.ensures in
    let field = past_choices c.chooses.ensures c.if-chooses.false c.if-kind-eq-EMPTY.false c.if-kind-eq-SEQUENCE.false in
    closure_field c.if-self.false field (omega (arith, c.if-kind-ge-FIRST_LEAF.false)) c.none-next.ensures closed inner
