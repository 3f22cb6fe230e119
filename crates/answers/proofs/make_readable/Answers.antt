-- `answers::make_readable` meets its contract: the first bytes are lent, and the rest follows them.
-- Assumes nothing.
use mathlib.Core.Path.{sym, ◌∙◌, subst}
use native.Mathlib.Omega.{arith}
use lib.ListN.{take}
use lib.Seq.{length-take-le, take_at}
use Rattle.screen.specs.Shows.{Rewrites}
use Rattle.screen.proofs.Laws.{rewrites_length}
use Rattle.answers.proofs.make_readable.Goals as goal

pub slice_bounds-readable-end-2 : goal.slice_bounds-readable-end-2
slice_bounds-readable-end-2 c = sym (length-take-le _ _ (omega arith))

pub returns : goal.returns
returns c =
    let x = c.readable in
    let a = c.args in
    (x.result, subst (λ v. Rewrites a.loaded.now a.pattern.now (take a.n a.line.now) x.result v) (sym (take_at _ _ a.n (rewrites_length x.ensures.replaced ∙ length-take-le a.n a.line.now c.requires))) x.ensures.replaced)
