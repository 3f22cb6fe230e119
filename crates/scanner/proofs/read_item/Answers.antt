-- By the byte at the place.
use Rattle.std.proofs.Common.{drop, arith}
use Rattle.scanner.proofs.Places.{first_here, seen}
use Rattle.scanner.proofs.Items.{item_named, item_none}
use Rattle.scanner.proofs.read_item.Goals as goal

pub returns-then-has_byte : goal.returns-then-has_byte
returns-then-has_byte c = record { found = c.read_named.ensures c.args.at (omega arith) (item_named (first_here c.args.s.now c.args.at 91 (seen c.has_byte.ensures.here c.if-has_byte.true))) }

pub returns-in_err-first : goal.returns-in_err-first
returns-in_err-first c = record { found = rw c.from_residual.ensures (item_none (drop c.args.at c.args.s.now) (seen c.has_byte.ensures.here c.if-has_byte.false) c.in_err-first.ensures) }
