-- `arrays::note` meets its contract: the tests that led to a return say what the code is.
-- Assumes nothing.
use Rattle.arrays.proofs.Numbering.{noted_kind, noted_leaf, noted_full}
use Rattle.arrays.proofs.note.Goals as goal

pub returns-then-c-lt-LEAF_CODE : goal.returns-then-c-lt-LEAF_CODE
returns-then-c-lt-LEAF_CODE c = noted_kind _ _ _ _ _ c.if-c-lt-LEAF_CODE.true

pub returns-then-p-lt-LEAVES : goal.returns-then-p-lt-LEAVES
returns-then-p-lt-LEAVES c = noted_leaf _ _ _ _ _ _ c.if-c-lt-LEAF_CODE.false c.if-p-lt-LEAVES.true c.leaf_kind.ensures

pub returns : goal.returns
returns c = noted_full _ _ _ _ _ c.if-c-lt-LEAF_CODE.false c.if-p-lt-LEAVES.false
