-- By what follows the byte.
use Rattle.std.proofs.Common.{◌∙◌, drop}
use borrow.Author.Tests.{le-leb, lt-leb}
use Rattle.scanner.proofs.Places.{first_here, seen}
use Rattle.scanner.proofs.Items.{range_single, range_none, range_swapped, range_found}
use Rattle.scanner.proofs.read_range.Goals as goal

pub returns-then-not-has_byte : goal.returns-then-not-has_byte
returns-then-not-has_byte c = let a = c.args in λ x from v o q. (x, q ∙ range_single x (drop a.at a.s.now) (seen c.has_byte.ensures.here c.if-not-has_byte.true), v, o)

pub returns-in_err-last : goal.returns-in_err-last
returns-in_err-last c = rw c.from_residual.ensures (λ x from v o q. q ∙ range_none x (first_here c.args.s.now c.args.at 45 (seen c.has_byte.ensures.here c.if-not-has_byte.false)) c.in_err-last.ensures)

pub returns-then-low-high : goal.returns-then-low-high
returns-then-low-high c =
    λ x from v o q.
    range_found from x (first_here c.args.s.now c.args.at 45 (seen c.has_byte.ensures.here c.if-not-has_byte.false)) c.in_ok-last.ensures v o (le-leb _ _ c.if-low-high.true) q

pub returns : goal.returns
returns c =
    λ x from v o q.
    q ∙ range_swapped x (first_here c.args.s.now c.args.at 45 (seen c.has_byte.ensures.here c.if-not-has_byte.false)) c.in_ok-last.ensures v (lt-leb _ _ c.if-low-high.false)
