-- What is left: one row more.
-- Assumes nothing.
use mathlib.Core.Path.{◌≡◌, ap, ◌∙◌}
use Prim.Native.Nat.{◌+◌, ◌<◌}
use native.Mathlib.Omega.{arith}
use lib.ListN.{get_or, take, drop}
use Rattle.std.proofs.lemmas.List.{get_or-take, get_or-drop, length-take, length-drop}
use Rattle.facts.proofs.Bits.{ends_more}
use Rattle.facts.proofs.ending_leaves.Goals as goal

pub loop-p-preserved : goal.loop-p-preserved
loop-p-preserved c =
    let l = c.loop-p in
    let ends = c.args.ends.now in
    let few : l.p < 64 = omega (arith, length-take 64 (drop 1 ends), length-drop 1 ends) in
    let end : get_or (take 64 (drop 1 ends)) l.p 0 ≡ get_or ends (l.p + 1) 0 = get_or-take 64 (drop 1 ends) l.p 0 few ∙ get_or-drop 1 ends l.p 0 ∙ ap (λ k. get_or ends k 0) (omega arith) in
    rw (c.with_if-x.ensures.with, end) (ends_more ends l.p l.x few l.invariant)
