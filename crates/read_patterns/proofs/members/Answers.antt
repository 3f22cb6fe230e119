-- One mask more.
use Rattle.std.proofs.Common.{get_or, count_ones, arith, rules}
use Rattle.std.proofs.lemmas.List.Sums.{sum_by_more}
use Rattle.std.proofs.lemmas.Nat.{ones-le}
use Rattle.read_patterns.proofs.members.Goals as goal

pub loop-mask-preserved : goal.loop-mask-preserved
loop-mask-preserved c =
    let l = c.loop-mask in
    let masks = c.args.masks.now in
    let i = l.mask-index in
    let few = ones-le 64 (get_or masks i 0) (search rules) in
    record {
      sum = omega (arith, l.invariant.sum, sum_by_more count_ones masks i 0 (omega arith));
      most = omega (arith, few, l.invariant.most);
    }
