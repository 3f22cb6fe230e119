-- `arrays::leaves_at` meets its contract. The invariant: x is the leaves below p at the place q.
-- Assumes nothing.
use native.Mathlib.Omega.{arith}
use Rattle.arrays.proofs.Masks.{no_places, places_more}
use Rattle.arrays.proofs.leaves_at.Goals as goal

pub loop-p-init : goal.loop-p-init
loop-p-init c = no_places c.args.places.now c.args.q

pub loop-p-preserved : goal.loop-p-preserved
loop-p-preserved c =
    let p = c.loop-p in
    places_more c.args.places.now p.p c.args.q p.x c.with_if-x.result (omega arith) p.invariant c.with_if-x.ensures.with
