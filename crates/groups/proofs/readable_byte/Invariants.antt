-- No printable byte before the place c-index has the group.
use Rattle.std.proofs.Common.{◌≡◌, get_or, drop, false}
use Rattle.groups.specs.Readable.{is_printable, printables, first_or}
use Rattle.groups.specs.Turns.{same}
use Rattle.groups.proofs.readable_byte.Given as goal

abbrev pub invariant-loop-c : goal.invariant-loop-c
invariant-loop-c l = record {
  all : l.c-items ≡ printables;
  unprintable : is_printable l.b ≡ false;
  own : l.own ≡ get_or l.group l.b 0;
  none : first_or l.b (λ c. same l.group c l.b) printables ≡ first_or l.b (λ c. same l.group c l.b) (drop l.c-index printables);
}
