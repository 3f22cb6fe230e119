-- `records::pack` meets its contract: the fields one after the other are the record.
-- Assumes nothing.
use borrow.Author.Rules.{rules}
use native.Mathlib.Omega.{arith}
use mathlib.Core.Path.{◌≡◌}
use lib.ListN.{length}
use Rattle.records.proofs.Right.{pack_right}
use Rattle.records.proofs.pack.Goals as goal

pub returns : goal.returns
returns c =
    let a = c.args in
    let long : length a.s.list ≡ 64 = search rules in
    record { packed = rw (c.put_origin.ensures, c.put_set.ensures, c.put_flags.ensures, c.with_order-v.ensures, c.min-n.ensures) (pack_right a.s a.origin a.byte long (omega arith)) }
