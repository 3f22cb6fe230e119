-- `standing::wants_after` meets its contract. The invariant: what the leaves that are left add is what all add. The measure is the number whose bits they are.
-- Assumes nothing.
use Rattle.words.proofs.Bits.{and_bit}
use Rattle.standing.proofs.Sets.{rest_begin, rest_turn, rest_end}
use Rattle.standing.proofs.wants_after.Goals as goal

pub loop-t-init : goal.loop-t-init
loop-t-init c = rest_begin _ _ _ _ (λ p. and_bit c.args.from c.args.mask p)

pub loop-t-preserved : goal.loop-t-preserved
loop-t-preserved c =
    let l = c.loop-t in
    rest_turn _ _ _ l.w _ l.rest _ _ c.in-Some.ensures.taken.parted l.invariant c.join.ensures

pub returns : goal.returns
returns c = rest_end _ _ _ c.loop-t.w c.loop-t.rest c.in_default.ensures.taken c.loop-t.invariant
