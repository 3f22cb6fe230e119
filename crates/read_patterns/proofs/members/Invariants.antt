-- The bytes of the masks so far, at most 64 of each.
use Rattle.std.proofs.Common.{◌≡◌, ◌≤◌, ◌*◌, take, sum_by, count_ones}
use Rattle.read_patterns.proofs.members.Given as goal

abbrev pub invariant-loop-mask : goal.invariant-loop-mask
invariant-loop-mask l = record {
  sum : l.held ≡ sum_by count_ones (take l.mask-index l.masks);
  most : l.held ≤ 64 * l.mask-index;
}
