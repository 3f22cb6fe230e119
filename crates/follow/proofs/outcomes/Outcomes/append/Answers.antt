-- `follow::outcomes::Outcomes::append` meets its contract: there is room, since the numbers are at most 64 and each is there once.
-- Assumes nothing.
use Rattle.std.proofs.Common.{slice_set}
use mathlib.Core.Path.{refl, ap}
use native.Mathlib.Omega.{arith}
use Rattle.follow.proofs.Lists.{fits, end_holds, leaf_holds, append_added}
use Rattle.follow.proofs.outcomes.Outcomes.append.Goals as goal

pub bounds-self-self : goal.bounds-self-self
bounds-self-self c = fits c.args.self.now c.args.p c.requires.0 c.requires.1

pub invariant_of-self : goal.invariant_of-self
invariant_of-self c = record { good = rw c.from.ensures (end_holds c.args.self.now c.args.p c.requires.0 c.requires.1 c.args.marks c.if-p-eq0.true) }

pub invariant_of-self-else-p-eq0 : goal.invariant_of-self-else-p-eq0
invariant_of-self-else-p-eq0 c =
    record { good = rw c.from.ensures (leaf_holds c.args.self.now c.args.p c.requires.0 c.requires.1 c.args.marks c.from-else-p-eq0.result c.with-self.result (omega arith) c.with-self.ensures.with) }

pub returns-then-p-eq0 : goal.returns-then-p-eq0
returns-then-p-eq0 c = append_added c.args.self.now c.args.p c.requires.0 c.requires.1 c.args.marks _ refl (ap (λ q. slice_set c.args.self.now.fields q c.args.marks) c.from.ensures) refl

pub returns-else-p-eq0 : goal.returns-else-p-eq0
returns-else-p-eq0 c = append_added c.args.self.now c.args.p c.requires.0 c.requires.1 c.args.marks _ refl (ap (λ q. slice_set c.args.self.now.fields q c.args.marks) c.from.ensures) refl
