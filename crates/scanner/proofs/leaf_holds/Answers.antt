-- By the first byte of the leaf.
use Rattle.std.proofs.Common.{refl, sym, ◌∙◌, arith, drop}
use Rattle.grammar.specs.Code.Codes.{leaf_holds}
use Rattle.scanner.proofs.Places.{here_of, none_of, seen}
use Rattle.scanner.proofs.Leaves.{leaf_escaped, leaf_class, leaf_dot, leaf_special, leaf_ordinary}
use Rattle.scanner.proofs.leaf_holds.Goals as goal

pub returns-in_default : goal.returns-in_default
unfolding leaf_holds
returns-in_default c = record { member = rw (none_of (drop c.args.at c.args.s.now) c.in_default.ensures) refl }

pub returns-in-92 : goal.returns-in-92
returns-in-92 c = record { member = c.has_byte.ensures.here ∙ sym (leaf_escaped c.args.loaded.now c.args.b (rw c.in-92.is at (here_of c.args.s.now c.args.at c.in-Some.first c.in-Some.ensures))) }

pub returns-in-91 : goal.returns-in-91
returns-in-91 c = record { member = c.class_holds.ensures ∙ sym (leaf_class c.args.loaded.now c.args.b (rw c.in-91.is at (here_of c.args.s.now c.args.at c.in-Some.first c.in-Some.ensures))) }

pub returns-in-46 : goal.returns-in-46
returns-in-46 c = record { member = sym (leaf_dot c.args.loaded.now c.args.b (rw c.in-46.is at (here_of c.args.s.now c.args.at c.in-Some.first c.in-Some.ensures))) }

pub returns-then-not-is_special : goal.returns-then-not-is_special
returns-then-not-is_special c =
    record {
      member =
          sym (leaf_ordinary c.args.loaded.now c.args.b (here_of c.args.s.now c.args.at c.in-Some.first c.in-Some.ensures)
          (seen c.is_special.ensures c.if-not-is_special.true));
    }

pub returns-else-not-is_special : goal.returns-else-not-is_special
returns-else-not-is_special c =
    let special = seen c.is_special.ensures c.if-not-is_special.false in
    record {
      member =
          rw c.if-not-is_special.false
          (sym (leaf_special c.args.loaded.now c.args.b (here_of c.args.s.now c.args.at c.in-Some.first c.in-Some.ensures) (λ e. omega arith) (λ e. omega arith) (λ e. omega arith) special));
    }
