-- The row of a leaf that takes the byte, and nothing for any other.
use Rattle.std.proofs.Common.{arith, sym, ◌∙◌}
use Rattle.threads.proofs.Stepping.{leaf_small, leaf_taken}
use Rattle.threads.proofs.State.read_leaf.Goals as goal

pub overflow_add-p : goal.overflow_add-p
overflow_add-p c = omega (arith, leaf_small c.args.mask c.args.p (omega arith) (sym c.has.ensures.member ∙ c.if-has.true))

pub overflow_add-turn : goal.overflow_add-turn
overflow_add-turn c = omega (arith, leaf_small c.args.mask c.args.p (omega arith) (sym c.has.ensures.member ∙ c.if-has.true))

pub read_row-requires : goal.read_row-requires
read_row-requires c =
    let h = c.requires in
    let below = leaf_small c.args.mask c.args.p (omega arith) (sym c.has.ensures.member ∙ c.if-has.true) in
    (h.0, h.1, omega arith, omega arith, h.2)

pub returns-then-has : goal.returns-then-has
returns-then-has c = leaf_taken c.requires.2 (sym c.has.ensures.member ∙ c.if-has.true) c.read_row.ensures
