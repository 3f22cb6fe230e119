-- A chunk is passed over where no byte of it is among those that are looked for.
use Rattle.std.proofs.Common.{rules}
use borrow.Author.Tests.{tests}
use Rattle.seeking.proofs.Wanted.skipped.Goals as goal

pub returns-in-One-clause-none : goal.returns-in-One-clause-none
returns-in-One-clause-none c = λ k h. (let t = c.skip.ensures.none k h in rw c.in-One.is (search (rules, tests)))

pub returns-in_default-clause-none : goal.returns-in_default-clause-none
returns-in_default-clause-none c = λ k h. (let t = c.skip-in_default.ensures.none k h in rw c.in_default.few-is (search (rules, tests)))
