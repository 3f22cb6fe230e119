-- `pairs::mark` meets its contract: either none of the pairs is new, or the new ones are put into the two rows of the leaf.
-- Assumes nothing.
use borrow.Author.Rules.{rules}
use Rattle.pairs.proofs.Marks.{marked_old, marked_new}
use Rattle.pairs.proofs.mark.Goals as goal

pub returns-then-new-eq0 : goal.returns-then-new-eq0
returns-then-new-eq0 c =
    let a = c.args in
    marked_old a.area.now a.c a.set a.waiting (rw c.row-old.ensures at c.if-new-eq0.true)

pub returns : goal.returns
returns c =
    let a = c.args in
    rw (c.with.ensures.with, c.put_row-2.ensures, c.row-pending.ensures, c.put_row.ensures, c.row-old.ensures)
    (marked_new a.area.now a.c a.set c.requires.0 c.requires.1 c.ranges.set.fits (λ j. search rules) a.waiting (rw c.row-old.ensures at c.if-new-eq0.false))
