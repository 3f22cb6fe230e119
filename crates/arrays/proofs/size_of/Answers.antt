-- `arrays::size_of` meets its contract: the tests that led to a return say which case of `size_of` holds.
-- Assumes nothing.
use borrow.Author.Tests.{le-leb, lt-leb, eq-eqb, ne_eqb}
use Rattle.arrays.proofs.size_of.Goals as goal

pub returns-then-kind-eq-EMPTY : goal.returns-then-kind-eq-EMPTY
returns-then-kind-eq-EMPTY c = rw (eq-eqb _ _ c.if-kind-eq-EMPTY.true)

pub returns-then-kind-ge-FIRST_LEAF : goal.returns-then-kind-ge-FIRST_LEAF
returns-then-kind-ge-FIRST_LEAF c = rw (ne_eqb _ _ c.if-kind-eq-EMPTY.false, le-leb _ _ c.if-kind-ge-FIRST_LEAF.true)

pub returns-then-kind-ge-STAR : goal.returns-then-kind-ge-STAR
returns-then-kind-ge-STAR c = rw (ne_eqb _ _ c.if-kind-eq-EMPTY.false, lt-leb _ _ c.if-kind-ge-FIRST_LEAF.false, le-leb _ _ c.if-kind-ge-STAR.true)

pub returns : goal.returns
returns c = rw (ne_eqb _ _ c.if-kind-eq-EMPTY.false, lt-leb _ _ c.if-kind-ge-FIRST_LEAF.false, lt-leb _ _ c.if-kind-ge-STAR.false)
