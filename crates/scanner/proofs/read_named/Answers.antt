-- The first name that stands at the place is the one that the definition reads.
use Rattle.grammar.specs.Sets.{names}
use Rattle.scanner.proofs.Names.{named_chosen}
use Rattle.std.specs.Prelude.{None}
use Rattle.scanner.proofs.read_named.Goals as goal

pub returns : goal.returns
returns c =
    let a = c.args in
    λ from f q.
    rw (
      c.or-7.ensures,
      c.or-6.ensures,
      c.or-5.ensures,
      c.or-4.ensures,
      c.or-3.ensures,
      c.or-2.ensures,
      c.or.ensures,
      c.named.ensures,
      c.named-2.ensures,
      c.named-3.ensures,
      c.named-4.ensures,
      c.named-5.ensures,
      c.named-6.ensures,
      c.named-7.ensures,
      c.named-8.ensures,
    )
    (named_chosen a.s.now a.at from f names None q)
