-- A line that is not whole goes on with what an exchange leaves.
use Rattle.std.proofs.Common.{refl, sym, ◌∙◌, inl, inr}
use Rattle.lines.proofs.Exchanging.{sought_first, sought_more, wants_open, nothing_waits}
use Rattle.lines.proofs.Input.first_line.Goals as goal

pub loop-init : goal.loop-init
loop-init g c = λ e. (sought_first e, inl (refl, e))

pub loop-preserved : goal.loop-preserved
loop-preserved g c = λ e.
    let l = c.loop in (
      sought_more (wants_open l.self (sym c.wants_line.ensures ∙ c.if-not-wants_line.false)) (l.invariant e).0 c.exchange.ensures.exchanged c.next_line.ensures.next,
      inr (nothing_waits c.exchange.ensures.exchanged),
    )
