-- What is left: one leaf more, and that none is left at the end.
-- Assumes nothing.
use mathlib.Core.Path.{refl}
use mathlib.Core.Bool.{false}
use mathlib.Core.List.{[]}
use borrow.Author.Rules.{rules}
use Rattle.standing.proofs.Sets.{rest_turn, rest_end, joined_row}
use Rattle.facts.proofs.carried.Goals as goal

pub loop-t-preserved : goal.loop-t-preserved
loop-t-preserved c =
    let l = c.loop-t in
    let t = c.in-Some.t in
    rest_turn _ _ [] _ _ l.rest t.leaf t.rest c.in-Some.ensures.taken.parted l.invariant
    (joined_row _ [] _ t.leaf c.union-x.result false c.union-x.ensures.union (search rules) refl)

pub returns : goal.returns
returns c =
    let l = c.loop-t in
    let w = rest_end _ _ [] _ l.rest c.in_default.ensures.taken l.invariant in
    record { wants = record { all = w.all; small = w.small } }
