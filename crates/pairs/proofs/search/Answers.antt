-- `pairs::search` meets its contract: its turn, and its three ends.
-- Assumes nothing.
use borrow.Author.Rules.{rules}
use native.Mathlib.Omega.{arith}
use native.Mathlib.Numerals.{add-one}
use Rattle.pairs.proofs.Going.{going_begin, going_done, going_full, going_fails, going_turn}
use Rattle.pairs.proofs.search.Goals as goal

pub loop-turn-init : goal.loop-turn-init
loop-turn-init c = going_begin _ _ _ _ _ _

pub returns-in_default : goal.returns-in_default
returns-in_default c = going_done _ _ _ _ _ _ c.loop-turn.invariant c.in_default.ensures.taken

pub returns-then-both : goal.returns-then-both
returns-then-both c =
    going_fails _ _ _ _ _ _ c.loop-turn.invariant c.in-Some.ensures.taken.parted (rw c.row.ensures at c.carried-to.ensures.wants)
    (rw (c.both.ensures.both, c.has.ensures.member) at c.if-both.true)

pub loop-turn-preserved : goal.loop-turn-preserved
loop-turn-preserved c =
    let l = c.loop-turn in
    rw (add-one l.turn)
    (going_turn _ _ _ _ _ _ l.invariant c.in-Some.ensures.taken.parted (rw c.row.ensures at c.carried-to.ensures.wants) (omega arith) (search rules)
    (rw (c.both.ensures.both, c.has.ensures.member) at c.if-both.false)
    (rw (c.put_row.ensures, add-one) at c.mark_all-waiting.ensures))

pub returns : goal.returns
returns c = going_full _ _ _ _ _ _ c.loop-turn.invariant (omega arith)
